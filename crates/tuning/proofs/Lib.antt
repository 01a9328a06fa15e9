-- The proof of what `specs/Promised.antt` promises, and the laws that it cites.
--     TriedLaws    a TTRT tried by plain numbers is the TTRT tried
--     ChosenLaws   one more number that may be chosen
--     ShownLaws    what a range shows goes on by one TTRT
--     Cases        the cases of the table
pub mod TriedLaws
pub mod ChosenLaws
pub mod ShownLaws
pub mod Cases
pub mod Promised
