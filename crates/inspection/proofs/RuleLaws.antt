-- How many rules a record has.
use Rattle.std.proofs.Common.{◌≤◌, length, arith}
use Rattle.log_records.specs.declared.Entry.{Entry}
use Rattle.log_records.specs.declared.Entry.TheVariants.{Visit, Mark}
use Rattle.inspection.specs.Rules.{rules_kept}
use Rattle.inspection.specs.declared.Expected.{Expected}

-- a record has five rules at most
pub five_at_most : (x : Expected) (e : Entry) → length (rules_kept x e) ≤ 5
five_at_most x (Visit v) = omega arith
five_at_most x (Mark m) = omega arith
