-- How a command ends.
--     Ends   the end of a command: what is said, and the status
--     Reads  what is read where reading fails
pub mod Ends
pub mod Reads
