-- The laws of areas, for the proofs of this layer and those above.
pub mod AreaLaws
pub mod StoringLaws
pub mod AnswerLaws
