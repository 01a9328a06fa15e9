-- The records of a log, read byte after byte.
--     Pieces     what is kept between two bytes, and what is handed out
--     Promised   that pieces do not matter
pub mod Pieces
pub mod Promised
