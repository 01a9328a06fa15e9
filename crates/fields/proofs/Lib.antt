-- The laws of rows, segments, numbers in bytes and fields, for the proofs of this layer and those above.
pub mod RowLaws
pub mod SegmentLaws
pub mod ByteLaws
pub mod FieldLaws
pub mod HeaderLaws
