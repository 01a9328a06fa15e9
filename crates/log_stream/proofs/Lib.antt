-- The laws of reading records byte after byte, and the promises of this layer, proved.
pub mod GatheredLaws
pub mod StepLaws
pub mod FieldLaws
pub mod WholeLaws
pub mod Promised
