-- `inspect_lent` is right because the records that are left always lead to the whole inspection, and each is moved on or stops it by the first rule that it breaks.
use Rattle.std.proofs.Common.{ℕ, ◌-◌, List}
use Rattle.sets.specs.Lent.{set_of}
use Rattle.plans.specs.Lent.{alloc_of}
use Rattle.logs.specs.Reading.{handed_from}
use Rattle.inspection.specs.Records.{inspected_all}
use Rattle.inspection.proofs.RecordLaws.{Going}
use Rattle.inspection.proofs.records.inspect_lent.Given as goal

abbrev pub invariant-loop : goal.invariant-loop
invariant-loop l =
    (c d p : List ℕ) → let t = set_of l.head l.n l.w c d p in Going t (alloc_of l.s) l.log (inspected_all l.initial.state t (alloc_of l.s) (handed_from l.records l.log l.first)) l.state l.at (l.records - l.counter)
