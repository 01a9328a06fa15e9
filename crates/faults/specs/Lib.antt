-- What is wrong with a given plan, or with the numbers of a set, place by place.
--     Holdings   7: X against C, the grid, and what an S holds more than need be, station by station; the sum of S against the token rule
--     Ranges     4: each number of the header and of the stations, with its range
--     Cases      cases that a person can check by hand
--     Promised   what is promised of them
pub mod Holdings
pub mod Ranges
pub mod Cases
pub mod Promised
