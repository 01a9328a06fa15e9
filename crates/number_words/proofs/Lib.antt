-- The proof of what `specs/Promised.antt` promises, and the laws that it cites.
--     WordLaws   what a word's digits write, and the digits of a number
pub mod WordLaws
pub mod Promised
