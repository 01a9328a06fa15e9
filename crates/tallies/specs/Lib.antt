-- What each station did in a log's records, and how far they have come.
--     Laps       rotations: each N visits from the first
--     Tallies    the numbers of each station, record by record
--     Shown      what they are said of some records alone
--     Promised   that they are just these
pub mod Laps
pub mod Tallies
pub mod Shown
pub mod Promised
