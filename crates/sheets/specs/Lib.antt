-- Request and plan sheets: their layout, what reading and writing answer, and what is promised of them.
--     Layout    the bytes of a request and of a plan
--     Reading   what reading answers, for any bytes
--     Writing   what writing answers, and what the buffer then holds
--     Bounds    what the small functions need of the bytes
pub mod Layout
pub mod Reading
pub mod Writing
pub mod Bounds
