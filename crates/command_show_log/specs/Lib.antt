-- What `show` prints of a log, as it is read.
--     LogShown   the lines of the records, and what is printed of any bytes
--     Promised   what is promised of these
pub mod LogShown
pub mod Promised
