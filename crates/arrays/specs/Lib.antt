-- Loops over the first n places of an array of 128.
--     Places     what a loop asks or makes at each place
--     Held       rises and sums, held at the largest 32-bit number
--     Laps       numbers that run on and, on reaching a top, begin again
--     Promised   what is promised beside the contracts
pub mod Places
pub mod Held
pub mod Laps
pub mod Promised
