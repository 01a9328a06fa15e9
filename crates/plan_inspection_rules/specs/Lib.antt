-- What `inspect PLAN` says of a plan sheet and a log.
--     Promised   the promises
pub mod Promised
