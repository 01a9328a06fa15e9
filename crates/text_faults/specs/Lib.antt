-- Why `compose` makes no sheet of a text.
--     Lines      which lines there are, and what begins one
--     Words      the word of a line that is being read
--     Ranges     the first number of a line that is out of its range
--     Watching   a text that is watched as it is read
--     Expected   what was expected where a line can no longer be read
--     Cases      cases that a person can check by hand
--     Promised   what is promised of them
pub mod Lines
pub mod Words
pub mod Ranges
pub mod Watching
pub mod Expected
pub mod Cases
pub mod Promised
