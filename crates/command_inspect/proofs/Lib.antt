-- The laws of what is printed of a finding, and the promises of this layer, proved.
pub mod LineLaws
pub mod Promised
