-- The promises of this layer, proved.
pub mod Promised
