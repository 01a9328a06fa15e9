-- The promises of the hopper set, proved:
--     SheetLaws    the set of a list keeps the planner's ranges, its sheet is the layout's, and reads back
--     AnswerLaws   the answer for a list: its numbers, and that it is the planner's on the sheet
--     ShareLaws    the shares of the wagons, and which lists have room
--     ChangeLaws   what a change leaves of a train
--     Promised     the value of what is promised
pub mod SheetLaws
pub mod AnswerLaws
pub mod ShareLaws
pub mod ChangeLaws
pub mod Promised
