-- What is promised of `inspect PLAN`, proved.
pub mod Promised
