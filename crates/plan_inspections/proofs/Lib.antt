-- The laws of the inspection of a log against a plan sheet.
pub mod FindingLaws
