-- The number of the explanation: what a sheet holds has the number of reading, and planning behind it that of `plan`.
use Prim.Native.Nat.{ℕ, zero, suc}
use mathlib.Core.Path.{◌≡◌, refl}
use mathlib.Core.Bool.{Bool, true, false}
use mathlib.Core.List.{List}
use Rattle.sets.specs.declared.Set.{Set}
use Rattle.plans.specs.Planned.{planned}
use Rattle.plans.specs.declared.Alloc.{Alloc}
use Rattle.field_reader.specs.Scanned.{scanned}
use Rattle.sheets.specs.Reading.{then_number, judged_sheet, read_answer, read_sheet, given_answer, given_sheet, set_in, alloc_in, read_request, read_plan}
use Rattle.command_plan.specs.PlanSheet.{planning_number}
use Rattle.command_explain.specs.Sheet.{is_plan, judged_as, explained}

-- reading: by the number of the walk and that of the judgement
given_reads : (k j : ℕ) (t : Set) (a : Alloc) (plan : Bool) → judged_sheet plan t a ≡ j → (given_answer k plan t a).number ≡ (read_answer (then_number k j) t a).number
unfolding given_answer read_answer then_number
given_reads zero zero t a plan e = e
given_reads zero (suc j) t a plan e = e
given_reads (suc k) j t a plan e = refl

-- planning behind it
given_plans : (k j : ℕ) (t : Set) (a : Alloc) → judged_sheet false t a ≡ j
    → then_number (given_answer k false t a).number (planned (given_answer k false t a).set).number
    ≡ then_number (read_answer (then_number k j) t a).number (planned (read_answer (then_number k j) t a).set).number
unfolding given_answer read_answer then_number
given_plans zero zero t a e = rw e refl
given_plans zero (suc j) t a e = rw e refl
given_plans (suc k) j t a e = refl

pub as_request_lem : (bs : List ℕ) → is_plan bs ≡ false → (explained bs).number ≡ planning_number (read_request bs)
unfolding judged_as given_sheet read_sheet
as_request_lem bs e = rw e (given_plans (scanned false bs).number _ (set_in false bs) (alloc_in false bs) refl)

pub as_plan : (bs : List ℕ) → is_plan bs ≡ true → (explained bs).number ≡ (read_plan bs).number
unfolding judged_as given_sheet read_sheet
as_plan bs e = rw e (given_reads (scanned true bs).number _ (set_in true bs) (alloc_in true bs) true refl)
