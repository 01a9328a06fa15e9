-- The laws of stores: what is laid out and read back, and what is read and laid out again.
pub mod FieldLaws
pub mod BackLaws
pub mod AgainLaws
pub mod StoredLaws
pub mod KeepingLaws
pub mod FindLaws
pub mod NumberLaws
pub mod RunLaws
pub mod FoundLaws
pub mod LastLaws
pub mod Promised
