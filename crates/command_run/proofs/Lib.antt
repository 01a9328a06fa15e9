-- The laws of this layer, and its promises, proved.
--     ByteLaws   a text read byte after byte, and a loop over it
--     RunLaws    what a line does, and a run
--     CallLaws   the text of a call is that call
pub mod ByteLaws
pub mod RunLaws
pub mod CallLaws
pub mod Promised
