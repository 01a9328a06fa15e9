-- What is promised of plan versions, over the layout of a store and what the calls answer.
--     Keeping    what a store may keep, what one more plan does to it, and what the bytes of an area keep
--     Runs       plans stored one after another, and the numbers that they are given
--     Promised   the promises
pub mod Keeping
pub mod Runs
pub mod Promised
