-- The proof of what `specs/Promised.antt` promises.
--     ShownLaws   what the table shows is what an accepted log shows
--     Promised    the promises
pub mod ShownLaws
pub mod Promised
