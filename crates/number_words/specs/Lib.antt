-- A word that writes a whole number.
--     Words      whether it is one, and which
--     Promised   what is promised of these
pub mod Words
pub mod Promised
