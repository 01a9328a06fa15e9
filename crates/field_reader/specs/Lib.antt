-- The fields of a sheet, handed out one after another from the lent bytes:
--     Cursor       what a reader hands out, and where it stands afterwards
--     Scanned      the walk over a whole sheet, field after field
--     FirstFault   1, 2 and 3 by the first fault from the left, in sentences
--     Promised     what is promised of these beside the contracts
pub mod Cursor
pub mod Scanned
pub mod FirstFault
pub mod Promised
