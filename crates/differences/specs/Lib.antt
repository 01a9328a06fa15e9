-- The differences of two plans (02, No. 9).
--     Views         a plan as it is compared: its numbers by their places
--     Differences   the list of the differences, in its order, and what it is to apply one
--     Promised      that applying the list to the first plan gives the second, that nothing else is listed, and that no other list does so
pub mod Views
pub mod Differences
pub mod Promised
