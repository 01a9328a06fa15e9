-- The proofs of what `specs/Promised.antt` promises.
--     Timers      one timer
--     Kept        opening, and one visit
--     Promised    the promises
pub mod Timers
pub mod Kept
pub mod Promised
