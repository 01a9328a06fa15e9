-- Another TTRT: a set planned at every TTRT of a range.
--     Tunings    what is counted and chosen, as definitions
--     Shown      what that says of the range
--     Bounds     what the code below the tests goes by
--     Cases      cases that a person can check by hand
--     Promised   what is promised of them
pub mod Tunings
pub mod Shown
pub mod Bounds
pub mod Cases
pub mod Promised
