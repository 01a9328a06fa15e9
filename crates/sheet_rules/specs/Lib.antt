-- What is promised of request and plan sheets, over their layout and what reading and writing answer.
--     Standing   what may stand where in a sheet, in 01's words
--     Promised   the promises
pub mod Standing
pub mod Promised
