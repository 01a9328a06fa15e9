-- A log inspected as it is read, in pieces of any length.
--     Inspecting   what is kept between two bytes, and the number when all was read
--     Promised     that pieces do not matter: the finding is that of the whole log
pub mod Inspecting
pub mod Promised
