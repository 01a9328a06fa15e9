-- The proofs of what `specs/Promised.antt` promises.
--     CounterLaws  the recorder's counter
--     WrittenLaws  what a recording leaves in its buffer
--     BackLaws     what was laid out is read back
--     AgainLaws    what was read is the log of what was read
--     RunLaws      the numbers of an accepted visit fit their fields
--     Promised     the promises
pub mod CounterLaws
pub mod WrittenLaws
pub mod BackLaws
pub mod AgainLaws
pub mod RunLaws
pub mod Promised
