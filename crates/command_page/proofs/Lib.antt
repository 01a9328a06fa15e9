-- The proof of what `specs/Promised.antt` promises, and the laws that it cites.
--     AccountLaws   the answer, where the limit comes from, and how large the bound is
--     PartLaws      which part stands where
--     RowLaws       the rows of what each station did
--     PictureLaws   a log that is read and drawn piece by piece
--     LogLines      the lines of a log's picture
pub mod AccountLaws
pub mod PartLaws
pub mod RowLaws
pub mod PictureLaws
pub mod LogLines
pub mod Promised
