-- What `diff` prints.
--     DiffText   a line for each difference, `same`, or which side is refused
--     Promised   that the lines can be read back, and what `same` says of the two files
pub mod DiffText
pub mod Promised
