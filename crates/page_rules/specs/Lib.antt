-- What the page of an accepted log shows.
--     Promised   no number of the stations' table is above the bound beside it
pub mod Promised
