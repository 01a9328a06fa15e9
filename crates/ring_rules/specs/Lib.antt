-- What is promised of the rings' definitions beside the contracts.
--     Promised   opening, visits and handing in, sentence by sentence
pub mod Promised
