-- The proof of what `specs/Promised.antt` promises, and the laws that it cites.
--     HoldingLaws   what a station of a given plan holds, and the faults of a plan
--     RangeLaws     the numbers with their ranges, by their places
--     Cases         the cases of the table
pub mod HoldingLaws
pub mod RangeLaws
pub mod Cases
pub mod Promised
