pub mod Asked
pub mod CursorLaws
pub mod ScannedLaws
pub mod PassedLaws
pub mod Promised
