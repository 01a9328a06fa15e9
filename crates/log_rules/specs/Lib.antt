-- What is promised of logs, over their layout and what reading and writing answer.
--     Recorded   a log written one visit or mark after another, and the entries of a run
--     Promised   the promises
pub mod Recorded
pub mod Promised
