-- The picture of a record that is drawn.
--     Parts      the parts, and the numbers in them
--     Picture    all parts of the records that are drawn, one after another
--     Promised   what they say of the record
pub mod Parts
pub mod Picture
pub mod Promised
