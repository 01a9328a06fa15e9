-- The laws of a log that is read for its picture, and the promises of this layer, proved.
pub mod TurnLaws
pub mod OverLaws
pub mod KeptLaws
pub mod KnownLaws
pub mod WindowLaws
pub mod StopLaws
pub mod Promised
