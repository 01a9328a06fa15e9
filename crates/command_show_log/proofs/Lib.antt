-- The laws of what is shown of a log, and the promises of this layer, proved.
pub mod ShowLaws
pub mod FirstLaws
pub mod Promised
