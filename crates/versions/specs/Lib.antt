-- Plan versions of a set: numbered plan sheets in a lent area of 65,536 bytes.
--     Layout    the bytes of a store
--     Area      what stands in an area, and when it is a store
--     Answers   what the calls answer, and what the area then holds
--     Bounds    what the small functions need of the bytes
pub mod Layout
pub mod Area
pub mod Answers
pub mod Bounds
