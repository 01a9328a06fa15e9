-- The laws of the answers of reading, for this layer and those above.
use Prim.Native.Nat.{ℕ, zero, suc, ◌≤◌}
use mathlib.Core.Path.{◌≡◌, refl}
use mathlib.Core.Bool.{Bool, true, false, false≢true}
use mathlib.Core.List.{List}
use mathlib.Core.Logic.{◌≢◌}
use native.Mathlib.Omega.{arith}
use Rattle.units.specs.Places.{at}
use Rattle.units.proofs.JudgingLaws.{and-true, passed}
use Rattle.sets.specs.Rules.{CountAllowed, NumbersAllowed}
use Rattle.sets.specs.Judged.{blank_set}
use Rattle.sets.proofs.SetLaws.{allowed, decides_count, decides_numbers}
use Rattle.sets.specs.declared.Set.{Set}
use Rattle.plans.specs.Rules.{AllocInRange}
use Rattle.plans.specs.Planned.{judged_plan, blank_alloc}
use Rattle.plans.proofs.PlanLaws.{decides_alloc}
use Rattle.plans.specs.declared.Alloc.{Alloc}
use Rattle.field_reader.specs.Scanned.{scanned}
use Rattle.sheets.specs.Reading.{then_number, set_in, alloc_in, judged_sheet, read_answer, read_sheet}

-- ---- one number after another

pub then_rest : (k rest : ℕ) → k ≡ 0 → then_number k rest ≡ rest
unfolding then_number
then_rest k rest h = rw h

pub then_keeps : (k rest : ℕ) → k ≢ 0 → then_number k rest ≡ k
unfolding then_number
then_keeps zero rest h = absurd (h refl)
then_keeps (suc k) rest h = refl

pub then_none : (k rest : ℕ) → then_number k rest ≡ 0 → (k ≡ 0) × (rest ≡ 0)
unfolding then_number
then_none zero rest h = (refl, h)
then_none (suc k) rest h = absurd (omega arith)

-- ---- answers

pub read_refused : (k : ℕ) (t : Set) (a : Alloc) → k ≢ 0 → read_answer k t a ≡ record { set = blank_set; alloc = blank_alloc; number = k }
unfolding read_answer
read_refused zero t a h = absurd (h refl)
read_refused (suc k) t a h = refl

pub read_accepted : (k : ℕ) (t : Set) (a : Alloc) → k ≡ 0 → read_answer k t a ≡ record { set = t; alloc = a; number = 0 }
unfolding read_answer
read_accepted k t a h = rw h

pub read_number_lem : (k : ℕ) (t : Set) (a : Alloc) → (read_answer k t a).number ≡ k
unfolding read_answer
read_number_lem zero t a = refl
read_number_lem (suc k) t a = refl

pub sheet_accepted : (plan : Bool) (bs : List ℕ) → (scanned plan bs).number ≡ 0
    → judged_sheet plan (set_in plan bs) (alloc_in plan bs) ≡ 0 → read_sheet plan bs ≡ record { set = set_in plan bs; alloc = alloc_in plan bs; number = 0 }
unfolding read_sheet
sheet_accepted plan bs e h = rw (then_rest (scanned plan bs).number (judged_sheet plan (set_in plan bs) (alloc_in plan bs)) e) (read_accepted _ _ _ h)

-- ---- what a sheet that is judged 0 keeps

pub record Kept (plan : Bool) (t : Set) (a : Alloc) : Type 0 where
  pub count : CountAllowed t
  pub numbers : NumbersAllowed t
  pub allocations : plan ≡ true → AllocInRange t (at a.s)

plan_kept : (t : Set) (a : Alloc) → judged_plan t a ≡ 0 → Kept true t a
unfolding judged_plan
plan_kept t a h =
    let p = passed _ 2 _ (omega arith) h in
    let q = passed _ 4 _ (omega arith) p.1 in
    let w = and-true _ _ q.0 in
    record {
      count = (decides_count t).0 p.0;
      numbers = (decides_numbers t).0 w.0;
      allocations = λ e. (decides_alloc t (at a.s)).0 w.1;
    }

pub judged_kept : (plan : Bool) (t : Set) (a : Alloc) → judged_sheet plan t a ≡ 0 → Kept plan t a
unfolding judged_sheet
judged_kept true t a h = plan_kept t a h
judged_kept false t a h =
    let f = (allowed t).0 h in
    record { count = f.0; numbers = f.1.0; allocations = λ e. absurd (false≢true e) }

answer_few : (k : ℕ) (t : Set) (a : Alloc) → (k ≡ 0 → t.n ≤ 128) → (read_answer k t a).set.n ≤ 128
unfolding read_answer
answer_few zero t a h = h refl
answer_few (suc k) t a h = omega arith

-- what is read has at most 128 stations
pub read_few : (plan : Bool) (bs : List ℕ) → (read_sheet plan bs).set.n ≤ 128
unfolding read_sheet
read_few plan bs = answer_few _ _ _ (λ e. (judged_kept plan (set_in plan bs) (alloc_in plan bs) (then_none _ _ e).1).count.1)
