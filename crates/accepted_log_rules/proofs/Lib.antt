-- The proofs of what `specs/Promised.antt` promises, from the ground up.
--     Told        the ring that records lead to goes on as a run's ring does, with their visits as its history
--     Reading     what is read off the records is what that history says
--     Shown       all that is shown
--     Witness     the logs are computed
--     Promised    the promises
pub mod Told
pub mod Reading
pub mod Shown
pub mod Witness
pub mod Promised
