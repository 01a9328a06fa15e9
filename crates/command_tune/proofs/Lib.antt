-- The proof of what `specs/Promised.antt` promises, and the laws that it cites.
--     LineLaws   what is said of a refusal, and of a range that was tried
--     TuneLaws   which requests are refused, and a range tried some TTRT at a time
pub mod LineLaws
pub mod TuneLaws
pub mod Promised
