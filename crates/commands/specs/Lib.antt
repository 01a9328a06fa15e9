-- The commands of Olivastrum.
--     Table      their words, and how many words may follow
--     Words      words compared, and how one that is no command is named
--     Asked      what a caller's words ask for
--     Status     the status that a command ends with
--     Promised   what is promised beside the contracts
pub mod Table
pub mod Words
pub mod Asked
pub mod Status
pub mod Promised
