-- What is answered in each of the cases, and how visits are counted, for the proofs of this crate. No rule stands here.
use Prim.Native.Nat.{ℕ, suc, ◌+◌, ◌-◌, ◌≤◌, ◌<◌}
use mathlib.Core.Path.{◌≡◌, refl, ap}
use mathlib.Core.Bool.{true, false}
use mathlib.Core.List.{List}
use mathlib.Core.Logic.{◌≢◌}
use native.Mathlib.Omega.{arith}
use borrow.Author.Tests.{eq-eqb, ne_eqb}
use Rattle.sheets.specs.Reading.{read_plan}
use Rattle.sheets.specs.declared.ReadPlan.{ReadPlan}
use Rattle.log_records.specs.Entry.{next_entry}
use Rattle.log_records.specs.declared.Entry.{Entry}
use Rattle.log_records.specs.declared.Entry.TheVariants.{Visit, Mark}
use Rattle.log_records.specs.declared.NextEntry.{NextEntry}
use Rattle.logs.specs.Reading.{read_log, handed_from}
use Rattle.logs.specs.declared.ReadLog.{ReadLog}
use Rattle.differences.specs.Differences.{is_same_plan}
use Rattle.inspection.specs.Records.{inspection_of}
use Rattle.inspection.specs.Findings.{finding_of}
use Rattle.plan_inspections.specs.PlanFindings.{visit_count, visits_in, not_inspected, with_visits, compared_finding, plan_finding}

-- ---- visits

pub one_at_most : (e : Entry) → visit_count e ≤ 1
one_at_most (Visit v) = omega arith
one_at_most (Mark m) = omega arith

-- before the first record all are left
pub counted_first : (bs : List ℕ) (a records : ℕ) → 0 + visits_in (handed_from (records - 0) bs a) ≡ visits_in (handed_from records bs a)
counted_first bs a records =
    let all : records - 0 ≡ records = omega arith in
    omega (arith, ap (λ (n : ℕ). visits_in (handed_from n bs a)) all)

-- none is left
none_left : (bs : List ℕ) (a : ℕ) → visits_in (handed_from 0 bs a) ≡ 0
unfolding handed_from visits_in
none_left bs a = refl

-- the next one, and those behind it
next_left : (bs : List ℕ) (a n : ℕ) → visits_in (handed_from (suc n) bs a) ≡ visit_count (next_entry bs a).entry + visits_in (handed_from n bs (next_entry bs a).next)
unfolding handed_from visits_in
next_left bs a n = refl

-- a turn: the visits so far and those that are left are all of them
pub counted_on : (bs : List ℕ) (a visits one total records i : ℕ) (handed : NextEntry) → i < records → handed ≡ next_entry bs a → one ≡ visit_count handed.entry
    → visits + visits_in (handed_from (records - i) bs a) ≡ total → visits + one + visits_in (handed_from (records - (i + 1)) bs handed.next) ≡ total
counted_on bs a visits one total records i handed less next is all =
    let step : records - i ≡ suc (records - (i + 1)) = omega arith in
    let left : visits_in (handed_from (suc (records - (i + 1))) bs a) ≡ visit_count handed.entry + visits_in (handed_from (records - (i + 1)) bs handed.next) =
    rw next (next_left bs a (records - (i + 1))) in
    omega (arith, is, all, ap (λ (n : ℕ). visits_in (handed_from n bs a)) step, left)

-- behind the last one all are counted
pub counted_all : (bs : List ℕ) (a visits total records i : ℕ) → records ≤ i → visits + visits_in (handed_from (records - i) bs a) ≡ total → visits ≡ total
counted_all bs a visits total records i end all =
    let none : records - i ≡ 0 = omega arith in
    omega (arith, all, ap (λ (n : ℕ). visits_in (handed_from n bs a)) none, none_left bs a)

-- ---- the cases

module _ (plan log : List ℕ) {p : ReadPlan} (e : p ≡ read_plan plan) where
  pub plan_refused_lem : p.number ≢ 0 → not_inspected 1 p.number 0 ≡ plan_finding plan log
  unfolding plan_finding
  plan_refused_lem n = rw (← e, ne_eqb p.number 0 n) refl

  module _ {q : ReadLog} (f : q ≡ read_log log) (z : p.number ≡ 0) where
    pub log_refused : q.number ≢ 0 → not_inspected 2 q.number 0 ≡ plan_finding plan log
    unfolding plan_finding
    log_refused n = rw (← e, ← f, eq-eqb p.number 0 z, ne_eqb q.number 0 n) refl

    module _ (y : q.number ≡ 0) where
      pub another_plan : is_same_plan p.set p.alloc q.set q.alloc ≡ false → not_inspected 0 0 1 ≡ plan_finding plan log
      unfolding plan_finding compared_finding
      another_plan other = rw (← e, ← f, eq-eqb p.number 0 z, eq-eqb q.number 0 y, other) refl

      pub same_plan : is_same_plan p.set p.alloc q.set q.alloc ≡ true
          → with_visits (finding_of (inspection_of q.set q.alloc (handed_from q.records log q.first)) q.records) (visits_in (handed_from q.records log q.first))
          ≡ plan_finding plan log
      unfolding plan_finding compared_finding
      same_plan same = rw (← e, ← f, eq-eqb p.number 0 z, eq-eqb q.number 0 y, same) refl
