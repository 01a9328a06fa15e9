-- FDDI's rules (02, No. 1): X over a whole vector, the test of a given vector, and what is promised of them. FDDI is retired (02, No. 14): no vector is looked for any more, but a given one is still judged.
-- The lost time, with F of No. 4 in it, and the grid of No. 8 are numbers like any other here; F 1 and grid 1 are plain FDDI.
--     Rules      X, and what a vector is held to; the rules are those of `units`, for every mode
--     Lent       a load whose arrays are lent one by one
--     Bounds     how large the quotient can be
--     Cases      given vectors that a person can check by hand
--     Promised   what is promised beside the contracts
pub mod Rules
pub mod Lent
pub mod Bounds
pub mod Cases
pub mod Promised
