-- What `compose` makes of a text, line by line.
--     Compose    the lines, the draft, and the sheet
--     Sent       what goes out of a log while its text is read, and the last bytes
--     Promised   what is promised beside the contracts
pub mod Compose
pub mod Sent
pub mod Promised
