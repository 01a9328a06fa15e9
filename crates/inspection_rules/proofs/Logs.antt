-- The finding of a log's bytes: what its reading handed out, inspected.
use Prim.Native.Nat.{ℕ, ◌+◌, ◌^◌, ◌<◌}
use mathlib.Core.Path.{◌≡◌, sym, ap, ◌∙◌}
use mathlib.Core.List.{List, [], ◌∷◌}
use native.Mathlib.Omega.{arith}
use lib.ListN.{length}
use Rattle.sets.specs.declared.Set.{Set}
use Rattle.plans.specs.Planned.{judged_plan}
use Rattle.plans.proofs.PlanLaws.{given_none}
use Rattle.plans.specs.declared.Alloc.{Alloc}
use Rattle.fields.specs.Bytes.{AllBytes}
use Rattle.log_records.specs.declared.Entry.{Entry}
use Rattle.log_records.specs.declared.Entry.TheVariants.{Visit, Mark}
use Rattle.sheet_rules.specs.Promised.{plan_length, first_places, first_allocations}
use Rattle.sheet_rules.proofs.Promised.{promised as sheets-promised}
use Rattle.logs.specs.Layout.{entries_bytes, log_of, AllFit}
use Rattle.logs.specs.Reading.{read_log, entries_in}
use Rattle.logs.specs.declared.ReadLog.{ReadLog}
use Rattle.log_rules.specs.Promised.{GivesBack}
use Rattle.log_rules.proofs.Promised.{promised as logs-promised}
use Rattle.inspection.specs.Records.{inspection_of}
use Rattle.inspection.specs.Findings.{finding_of, found_in, finding_in}
use Rattle.inspection.specs.declared.Inspection.{Inspection}
use Rattle.inspection.proofs.FindingLaws.{finding_read}
use Rattle.inspection_rules.specs.Promised.{Starts, Recorded}
use Rattle.inspection_rules.proofs.Places.{inspection_same}

-- every start that fits its field is a 32-bit number
pub fit_starts : (es : List Entry) → AllFit es → Starts es
fit_starts [] all = tt
fit_starts (Visit v ∷ es) all = (all.0.start, fit_starts es all.1)
fit_starts (Mark m ∷ es) all = (tt, fit_starts es all.1)

module _ (bs : List ℕ) (z : (read_log bs).number ≡ 0) where
  pub found_there : finding_in bs ≡ found_in bs
  found_there = finding_read (read_log bs).number (found_in bs) z

  module _ (bytes : AllBytes bs) (short : length bs < 2 ^ 64) where
    -- what was read is a plan that meets the rules, and records as a log has them
    pub log_plan : judged_plan (read_log bs).set (read_log bs).alloc ≡ 0
    log_plan = (logs-promised.again bs bytes z).1.0

    pub log_recorded : Recorded (entries_in bs)
    log_recorded =
        let w = logs-promised.again bs bytes z in
        let es = entries_in bs in
        let long : length bs ≡ plan_length (read_log bs).set + length (entries_bytes es) = ap length w.0 ∙ logs-promised.long (read_log bs).set (read_log bs).alloc es in
        record { starts = fit_starts es w.1.1; few = omega (arith, long, logs-promised.entries_long es, logs-promised.two_kinds es) }

-- ---- a log that is laid out is found as its records are inspected

module _ (t : Set) (a : Alloc) (es : List Entry) (h : judged_plan t a ≡ 0) (fit : AllFit es) where
  back : GivesBack t a es (log_of t a es)
  back = logs-promised.back t a es h fit

  pub found_back : finding_in (log_of t a es) ≡ finding_of (inspection_of t a es) (length es)
  found_back =
      let bs = log_of t a es in
      let B = back in
      let number : (read_log bs).number ≡ 0 = ap (λ (r : ReadLog). r.number) B.answer in
      let count = ((given_none t a).0 h).0 in
      let plan : inspection_of (read_log bs).set (read_log bs).alloc es ≡ inspection_of t a es =
      ap (λ (r : ReadLog). inspection_of r.set r.alloc es) B.answer ∙
      sym
      (inspection_same t (first_places t) a (first_allocations t.n a) count.1 count.0 (sheets-promised.back_same t count.1) (sheets-promised.back_allocations t.n a count.1) es) in
      found_there bs number ∙ ap (λ (l : List Entry). finding_of (inspection_of (read_log bs).set (read_log bs).alloc l) (read_log bs).records) B.entries ∙
      ap (λ (s : Inspection). finding_of s (read_log bs).records) plan ∙ ap (λ (r : ReadLog). finding_of (inspection_of t a es) r.records) B.answer
