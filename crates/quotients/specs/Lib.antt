-- Whole quotients, remainders, rounded-up shares and multiples of a grid, and what is promised of them.
--     Division   what the functions hand back
--     Turns      how far the divisor is doubled before it comes back down
--     Steps      the smallest multiple of a grid that is enough
--     Promised   what is promised beside the contracts
pub mod Division
pub mod Turns
pub mod Steps
pub mod Promised
