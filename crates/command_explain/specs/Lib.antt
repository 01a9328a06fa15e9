-- What `explain` says of a sheet's bytes, as a list of phrases.
--     Sheet      what is found in the bytes
--     First      the phrases before the stations'
--     Stations   the phrases of a station
--     Ends       the phrases behind the stations'
--     Phrases    all of them in their order
--     Out        which of them say that a number is out of its range
--     Promised   what is promised of them
pub mod Sheet
pub mod First
pub mod Stations
pub mod Ends
pub mod Phrases
pub mod Out
pub mod Promised
