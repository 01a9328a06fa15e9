-- The laws of an inspection in pieces, and the promises of this layer, proved.
pub mod LookLaws
pub mod TurnLaws
pub mod WholeLaws
pub mod Promised
