-- A log on lent bytes held to a plan sheet.
--     PlanFindings   what is answered, for any bytes whatever
pub mod PlanFindings
