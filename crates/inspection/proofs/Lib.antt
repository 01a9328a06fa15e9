-- FrameLaws      the divisors of an amount come in pairs
-- RuleLaws       how many rules a record has
-- RecordLaws     one record more, and one after another
-- KeptLaws       one record on lent arrays, and an inspection that a host keeps
-- FindingLaws    the finding of a log
pub mod FrameLaws
pub mod RuleLaws
pub mod RecordLaws
pub mod KeptLaws
pub mod FindingLaws
