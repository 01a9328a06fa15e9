-- The inspection of a log, record by record: what the code keeps and computes. What it means is promised in `inspection_rules`.
--     Counter    sums and differences on a 32-bit counter
--     Opening    an inspection before its first record
--     Frames     the asynchronous amounts that a request in frames gives
--     Rules      what a record must say, and the first of the five rules that it breaks
--     Records    what becomes of an inspection with a record, and with one after another
--     Findings   what the inspection of a whole log answers
--     Kept       an inspection that a host keeps: how it begins, and what a record changes and answers
pub mod Counter
pub mod Opening
pub mod Frames
pub mod Rules
pub mod Records
pub mod Findings
pub mod Kept
