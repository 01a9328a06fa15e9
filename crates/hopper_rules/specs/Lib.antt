-- What is promised of the hopper set, over its definitions and those that the planner and the sheets publish.
--     Changes    what may be asked of a train, and the train after any list of changes
--     Promised   what is promised
pub mod Changes
pub mod Promised
