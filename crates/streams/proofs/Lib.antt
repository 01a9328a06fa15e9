-- The law of how a command ends, for the proofs of this layer.
pub mod EndLaws
