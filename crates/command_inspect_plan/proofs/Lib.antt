-- The laws of what is printed of a plan sheet and a log.
pub mod AnswerLaws
