-- What `plan` and `plan-sheet` put out, as definitions of the bytes that they read.
--     PlanText    what `plan` prints
--     PlanSheet   what `plan-sheet` writes
--     Promised    what is promised of these
pub mod PlanText
pub mod PlanSheet
pub mod Promised
