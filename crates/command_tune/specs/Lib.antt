-- `tune`: what it says of a request sheet's bytes and a range of TTRT.
--     Tune       which requests are refused, and the range tried some at a time
--     Lines      the lines that are printed
--     Promised   what is promised of these
pub mod Tune
pub mod Lines
pub mod Promised
