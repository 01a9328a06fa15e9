-- What `log` writes is the log of a run of the ring model.
--     Calls      the calls of a text
--     Promised   the promises
pub mod Calls
pub mod Promised
