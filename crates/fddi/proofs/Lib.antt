-- The laws of FDDI's rules that belong to no one function, and the proof of what `specs/Promised.antt` promises.
--     Laws       X, and sums
--     Cases      the given vectors that a person can check by hand
--     Promised   the promises
pub mod Laws
pub mod Cases
pub mod Promised
