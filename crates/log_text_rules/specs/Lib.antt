-- What `show` prints of a log, and what `compose` makes of that.
--     Promised   the promises
pub mod Promised
