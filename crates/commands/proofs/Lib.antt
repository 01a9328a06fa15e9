-- The promises of this layer, proved, and the laws of words.
--     WordLaws   two words that are the same, and the command of a word
--     NameLaws   how a word is named
pub mod WordLaws
pub mod NameLaws
pub mod Promised
