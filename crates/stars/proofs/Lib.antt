-- The proofs of the ★ table.
pub mod Allocations
pub mod Run
pub mod Promised
