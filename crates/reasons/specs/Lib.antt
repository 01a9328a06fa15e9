-- Why planning answers as it does, in numbers that can be checked by hand.
--     Shortages   what the smallest S need, what there is, and the missing ticks (6)
--     Grounds     what the smallest S of a station rests on
--     Rooms       the largest C of a station with which the set still has a plan
--     Bounds      what the code below the tests is called with
--     Cases       cases that a person can check by hand
--     Promised    what is promised of them
pub mod Shortages
pub mod Grounds
pub mod Rooms
pub mod Bounds
pub mod Cases
pub mod Promised
