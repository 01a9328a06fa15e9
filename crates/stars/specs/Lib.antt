-- The ★ cases of 01 as one table. `proofs/` proves each row once, of the rules.
--     Allocations   the ★ cases of "Allocations"
--     Run           the ★ worked run of "The ring"
--     Promised      both hold
pub mod Allocations
pub mod Run
pub mod Promised
