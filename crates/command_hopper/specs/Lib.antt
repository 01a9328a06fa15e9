-- The texts of `hopper`, `hopper-sheet` and `refit`.
--     Lists      a text of wagons, read line by line into a list
--     Refits     a text of changes, read line by line; what is printed of a list and of a change
--     Promised   what is promised of these
pub mod Lists
pub mod Refits
pub mod Promised
