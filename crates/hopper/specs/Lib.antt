-- 02, No. 13: the hopper set.
--     Wagons     the ranges of a wagon and of a list, the judgement of a list, and a list with a wagon changed
--     Requests   the request of a list with its numbers, its sheet, and its plan
--     Trains     a train: a list and the plan in force, and what a change makes of it
pub mod Wagons
pub mod Requests
pub mod Trains
