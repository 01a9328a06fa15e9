-- `found` is right because its branch is the definition's own.
use Rattle.std.proofs.Common.{◌≡◌, ℕ, refl, sym, ap}
use Rattle.inspection.specs.Findings.{broken_record, finding_of}
use Rattle.inspection.specs.declared.Inspection.{Inspection}
use Rattle.inspection.proofs.FindingLaws.{named, none_named}
use Rattle.inspection.proofs.found.Goals as goal

-- a finding with this record is the inspection's
with_record_lem : (s : Inspection) (records number : ℕ) → number ≡ broken_record s → record { records = records; «record» = number; rule = s.rule; number = 0 } ≡ finding_of s records
with_record_lem s records number is = ap (λ (x : ℕ). record { records = records; «record» = x; rule = s.rule; number = 0 }) is

pub returns-then-state-ne0 : goal.returns-then-state-ne0
returns-then-state-ne0 c =
    let state = c.args.state in
    with_record_lem state _ _ (named state _ c.if-state-ne0.true refl)

pub returns-else-state-ne0 : goal.returns-else-state-ne0
returns-else-state-ne0 c =
    let state = c.args.state in
    with_record_lem state _ _ (sym (none_named state c.if-state-ne0.false))
