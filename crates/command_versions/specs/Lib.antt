-- What the commands on a store put out, as definitions of the bytes that they read.
--     KeepText       what `keep` prints
--     VersionsText   what `versions` prints
--     VersionWord    the word by which `kept` is asked for a version
--     Kept           where `kept` finds its plan
--     Promised       what is promised of these
pub mod KeepText
pub mod VersionsText
pub mod VersionWord
pub mod Kept
pub mod Promised
