-- The promises of this layer, proved, and the layout of what a host passes.
pub mod Fields
pub mod Refused
pub mod Promised
