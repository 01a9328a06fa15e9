-- The entries of a log.
--     Visit   a visit: its five numbers and its field
--     Mark    a mark: its two numbers and its field
--     Entry   either of them
pub mod Visit
pub mod Mark
pub mod Entry
