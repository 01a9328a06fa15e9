-- Visit logs: what may stand where, what reading answers, and what writing does.
--     Records      the kinds of records, and how long the field of each is
--     Layout       the bytes of a log
--     Walked       the walk over a log, field after field
--     FirstFault   1, 2 and 3 by the first fault from the left, in sentences
--     Reading      what reading answers, for any bytes, and how visits are handed out
--     Writing      what beginning, adding and ending answer, and what the buffer then holds
pub mod Records
pub mod Layout
pub mod Walked
pub mod FirstFault
pub mod Reading
pub mod Writing
