-- How the program reads a line of text.
--     Scan   a line, byte after byte
pub mod Scan
