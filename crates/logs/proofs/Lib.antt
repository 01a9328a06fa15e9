-- The laws of logs, for the proofs of this layer and those above.
pub mod RecordLaws
pub mod WalkLaws
pub mod ReadingLaws
pub mod WritingLaws
