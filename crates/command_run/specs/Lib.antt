-- What `run` prints: the calls, line by line, and their answers.
--     Bytes      a text read byte after byte
--     Calls      what a line asks for, and what the ring does
--     Runs       a run, byte after byte
--     RunText    what `run` prints
--     Promised   what is promised beside the contracts
pub mod Bytes
pub mod Calls
pub mod Runs
pub mod RunText
pub mod Promised
