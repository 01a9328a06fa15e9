-- What `inspect` prints.
--     FindingText   the lines
--     Promised      that they are those of the whole log's finding
pub mod FindingText
pub mod Promised
