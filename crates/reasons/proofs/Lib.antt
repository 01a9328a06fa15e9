-- The proof of what `specs/Promised.antt` promises, and the laws that it cites.
--     PlanningLaws   planning of a set that it answers 6 or a plan: the token rule of the smallest S decides
--     ShortageLaws   what is needed, what there is, and what is missing
--     GroundLaws     what the smallest S of a station rests on
--     RoomLaws       another C at one station, and the largest that fits
--     Cases          the cases of the table
pub mod PlanningLaws
pub mod ShortageLaws
pub mod GroundLaws
pub mod RoomLaws
pub mod Cases
pub mod Promised
