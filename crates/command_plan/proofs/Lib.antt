-- The promises of this layer, proved, and the laws of its definitions, for the proofs here and above.
--     PlanTextLaws    the text of a plan, or the refusal
--     PlanSheetLaws   the plan sheet, or no byte
pub mod PlanTextLaws
pub mod PlanSheetLaws
pub mod Promised
