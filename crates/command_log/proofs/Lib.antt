-- The laws of a run that is recorded.
pub mod RecordLaws
