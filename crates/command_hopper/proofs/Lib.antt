-- The laws of the texts of wagons and of changes.
--     LineLaws     one line of either
--     TextLaws     byte after byte
--     Promised     the value of what is promised
pub mod LineLaws
pub mod TextLaws
pub mod Promised
