-- `run` and `log` refuse a plan sheet as reading does, and else as opening does. A plan that was read meets the rules, so opening can only say that its mode is retired.
use Prim.Native.Nat.{ℕ, zero, suc}
use mathlib.Core.Path.{◌≡◌, refl, sym, ◌∙◌}
use mathlib.Core.Bool.{true}
use mathlib.Core.List.{List}
use mathlib.Core.Logic.{◌↔◌, ◌≢◌}
use native.Mathlib.Omega.{arith}
use Rattle.units.proofs.JudgingLaws.{not_given, iff_then}
use Rattle.sets.specs.declared.Set.{Set}
use Rattle.plans.specs.Rules.{Retired}
use Rattle.plans.specs.Planned.{judged_plan}
use Rattle.plans.proofs.PlanLaws.{given_none}
use Rattle.plans.specs.declared.Alloc.{Alloc}
use Rattle.sheets.specs.Reading.{then_number, judged_sheet, read_plan}
use Rattle.sheets.proofs.ReadLaws.{then_rest, then_none}
use Rattle.sheets.specs.Writing.{write_number}
use Rattle.sheet_rules.proofs.Promised as sheets
use Rattle.rings.specs.Opening.{opening}
use Rattle.ring_rules.proofs.Promised as rings
use Rattle.promises.proofs.Promised as runs
use Rattle.command_run.specs.Runs.{opened_run}
use Rattle.command_log.specs.LogBytes.{open_number}

-- ---- a number, and then another where it is 0

then_not : (k rest m : ℕ) → k ≢ m → rest ≢ m → then_number k rest ≢ m
unfolding then_number
then_not zero rest m n r = r
then_not (suc k) rest m n r = n

-- a number above 0 that the first never gives is the second's, and one that the second never gives is the first's
then_second : (k rest m : ℕ) → k ≢ suc m → (then_number k rest ≡ suc m) ↔ ((k ≡ 0) × (rest ≡ suc m))
unfolding then_number
then_second zero rest m n = (λ e. (refl, e), λ h. h.1)
then_second (suc k) rest m n = (λ e. absurd (n e), λ h. absurd (omega (arith, h.0)))

then_first : (k rest m : ℕ) → rest ≢ suc m → (then_number k rest ≡ suc m) ↔ (k ≡ suc m)
unfolding then_number
then_first zero rest m n = (λ e. absurd (n e), λ e. absurd (omega (arith, e)))
then_first (suc k) rest m n = (λ e. e, λ e. e)

-- ---- 16 is only opening's

judged_never : (t : Set) (a : Alloc) → judged_plan t a ≢ 16
unfolding judged_plan
judged_never t a =
    not_given _ 2 _ 16 (omega arith) (not_given _ 4 _ 16 (omega arith) (not_given _ 5 _ 16 (omega arith) (not_given _ 7 0 16 (omega arith) (omega arith))))

read_never : (sheet : List ℕ) → (read_plan sheet).number ≢ 16
read_never sheet e =
    let whole = ((sheets.promised).plan_whole sheet).0 (λ k low high h. omega (arith, e, h, high)) in
    judged_never _ _ (sym ((sheets.promised).plan_judged sheet whole) ∙ e)

write_never : (t : Set) (a : Alloc) (room : ℕ) → write_number true t a room ≢ 16
unfolding judged_sheet
write_never t a room = then_not (judged_plan t a) _ 16 (judged_never t a) (not_given _ 14 0 16 (omega arith) (omega arith))

-- ---- a sheet

module _ (sheet : List ℕ) where
  judged_0 : (read_plan sheet).number ≡ 0 → judged_plan (read_plan sheet).set (read_plan sheet).alloc ≡ 0
  judged_0 = (runs.promised).sheet_judged sheet

  pub opened_exactly : ((opened_run (read_plan sheet)).number ≡ 0) ↔ (((read_plan sheet).number ≡ 0) × ¬ Retired (read_plan sheet).set)
  opened_exactly = (
    λ h. let p = then_none _ _ h in (p.0, (((runs.promised).opens _ _).0 p.1).1),
    λ h. then_rest _ _ h.0 ∙ ((runs.promised).opens _ _).1 (judged_0 h.0, h.1),
  )

  -- a judged plan is opened with 16 exactly if its mode is retired
  opening_16 : (read_plan sheet).number ≡ 0 → ((opening (read_plan sheet).set (read_plan sheet).alloc).number ≡ 16) ↔ Retired (read_plan sheet).set
  opening_16 h =
      let exactly = (rings.promised).opening_sixteen (read_plan sheet).set (read_plan sheet).alloc in
      let kept = (given_none (read_plan sheet).set (read_plan sheet).alloc).0 (judged_0 h) in
      (λ e. (exactly.0 e).1.1.1, λ gone. exactly.1 (kept.0, (kept.1.0, (kept.1.1.0, gone))))

  pub run_retired : ((opened_run (read_plan sheet)).number ≡ 16) ↔ (((read_plan sheet).number ≡ 0) × Retired (read_plan sheet).set)
  run_retired =
      iff_then (then_second (read_plan sheet).number _ 15 (read_never sheet))
      ((λ h. (h.0, (opening_16 h.0).0 h.1)), λ h. (h.0, (opening_16 h.0).1 h.1))

  pub log_retired : (room : ℕ) → (open_number (read_plan sheet) room ≡ 16) ↔ (((read_plan sheet).number ≡ 0) × Retired (read_plan sheet).set)
  log_retired room = iff_then (then_first (opened_run (read_plan sheet)).number _ 15 (write_never _ _ room)) run_retired
