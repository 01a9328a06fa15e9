-- What `diff` prints, proved.
--     WordLaws     lines can be told apart
--     BackLaws     the lines of differences can be read back
--     LineLaws     the lines of lists that are put together
--     AnswerLaws   what is handed back in each of the cases
--     WorkedLaws   two sheets that are read and compared, to the byte
pub mod WordLaws
pub mod BackLaws
pub mod LineLaws
pub mod AnswerLaws
pub mod WorkedLaws
pub mod Promised
