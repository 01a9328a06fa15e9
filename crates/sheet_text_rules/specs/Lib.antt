-- What the program prints of a sheet or a log, as definitions of the bytes it reads.
--     ShowText   what `show` prints: a request or plan sheet as text
--     LogText    a log as text
--     Promised   what is promised of these
pub mod ShowText
pub mod LogText
pub mod Promised
