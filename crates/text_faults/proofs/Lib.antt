-- The proof of what `specs/Promised.antt` promises, and the laws that it cites.
--     WatchLaws   a text in pieces
--     LineLaws    a line that can be read, as `compose` does
--     AlikeLaws   the line that is named, as `compose` names it
--     RangeLaws   the line with a number out of its range
--     Cases       the cases
pub mod WatchLaws
pub mod LineLaws
pub mod AlikeLaws
pub mod RangeLaws
pub mod Cases
pub mod Promised
