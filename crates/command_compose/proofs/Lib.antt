-- The laws of a log's text, and the promises of this layer, proved.
pub mod ComposeLaws
pub mod SentLaws
pub mod Promised
