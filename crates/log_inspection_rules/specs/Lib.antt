-- What `inspect` says of the log that `log` writes, and what a log shows that it accepts.
--     Promised   the promises
pub mod Promised
