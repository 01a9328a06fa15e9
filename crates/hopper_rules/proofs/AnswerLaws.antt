-- The answer for a list is the list's own refusal or the planner's, and the planner answers a list of the product's with 0 or 6.
use Prim.Native.Nat.{ℕ, ◌≤◌, ◌<◌}
use mathlib.Core.Path.{◌≡◌, refl, sym, ap, ◌∙◌}
use mathlib.Core.List.{List, ◌++◌}
use mathlib.Core.Logic.{◌↔◌, ◌≢◌, ◌⊎◌, inl, inr, ⊎_elim}
use native.Mathlib.Omega.{arith}
use lib.ListN.{length, take, drop}
use lib.Dec.{eqb}
use borrow.Author.Tests.{eqb-true, eqb-false}
use Rattle.units.proofs.JudgingLaws.{true_or_false, given, given_later, not_given, iff_then, iff_under}
use Rattle.sets.specs.Judged.{judged}
use Rattle.sets.specs.declared.Set.{Set}
use Rattle.sets.proofs.Promised.{promised as of-sets}
use Rattle.plans.specs.Planned.{planned, blank_alloc}
use Rattle.plans.specs.Rules.{Retired}
use Rattle.plans.specs.Answer.{AllocationExists}
use Rattle.plans.specs.declared.Planned.{Planned}
use Rattle.plans.proofs.Promised.{promised as of-plans}
use Rattle.sheets.specs.Writing.{refused_writing}
use Rattle.sheets.specs.declared.ReadRequest.{ReadRequest}
use Rattle.sheets.specs.declared.Written.{Written}
use Rattle.sheet_rules.specs.Promised.{request_length}
use Rattle.sheet_rules.proofs.Promised.{promised as of-sheets}
use Rattle.hopper.specs.Wagons.{CountFits, WagonsFit, ListFits, judged_list}
use Rattle.hopper.specs.Requests.{set_of, list_sheet, list_planned, sheet_answer, sheet_buffer}
use Rattle.hopper.specs.declared.WagonList.{WagonList}
use Rattle.hopper.proofs.WagonLaws.{decides_count, decides_wagons, list_fits}
use Rattle.hopper.proofs.RequestLaws.{plan_refused_lem, plan_given, sheet_refused, answer_given, buffer_given}
use Rattle.hopper_rules.specs.Promised.{planned_read, planner_on, list_length}
use Rattle.hopper_rules.proofs.SheetLaws.{judged_none, sheet_length_lem, answer_written, buffer_written, taken, read_back}

-- ---- a number is another one or not

pub same_or_not : (a b : ℕ) → (a ≡ b) ⊎ (a ≢ b)
same_or_not a b = ⊎_elim (λ t. inl (eqb-true a b t)) (λ f. inr (eqb-false a b f)) (true_or_false (eqb a b))

-- ---- the judgement of a list

pub list_two : (l : WagonList) → (judged_list l ≡ 2) ↔ ¬ CountFits l
unfolding judged_list
list_two l = given _ _ 2 _ (decides_count l) (not_given _ 4 0 2 (omega arith) (omega arith))

pub list_four : (l : WagonList) → (judged_list l ≡ 4) ↔ (CountFits l × ¬ WagonsFit l)
unfolding judged_list
list_four l = iff_then (given_later _ _ 2 _ 4 (decides_count l) (omega arith)) (iff_under (given _ _ 4 0 (decides_wagons l) (omega arith)))

pub list_only : (l : WagonList) → (judged_list l ≡ 0) ⊎ (judged_list l ≡ 2) ⊎ (judged_list l ≡ 4)
list_only l =
    ⊎_elim inl (λ n₀.
    ⊎_elim (λ e. inr (inl e)) (λ n₂.
    ⊎_elim (λ e. inr (inr e)) (λ n₄. absurd (
    n₂ ((list_two l).1 (λ count. n₄ ((list_four l).1 (count, λ wagons. n₀ ((list_fits l).1 (record { count = count; wagons = wagons }))))))
    ))
    (same_or_not (judged_list l) 4))
    (same_or_not (judged_list l) 2))
    (same_or_not (judged_list l) 0)

-- ---- the planner on a set that it has nothing against, of a mode that is in use

module _ (t : Set) (none : judged t ≡ 0) (used : ¬ Retired t) where
  plan_numbers : (k : ℕ) → k ≢ 0 → k ≢ 6 → (planned t).number ≢ k
  plan_numbers k n₀ n₆ e =
      let all = (of-sets.none t).0 none in
      let fits = (of-plans.one_answer t (planned t)).1 refl in
      let no : ¬ AllocationExists t = λ exists. n₀ (sym e ∙ (fits.plan all.0 all.1.0 all.1.1 used exists).accepted) in
      n₆ (sym e ∙ ap (λ (p : Planned). p.number) (fits.six all.0 all.1.0 all.1.1 used no))

  pub plan_only : ((planned t).number ≡ 0) ⊎ ((planned t).number ≡ 6)
  plan_only =
      ⊎_elim inl (λ n₀. ⊎_elim inr (λ n₆. absurd (plan_numbers (planned t).number n₀ n₆ refl)) (same_or_not (planned t).number 6))
      (same_or_not (planned t).number 0)

  pub plan_six : ((planned t).number ≡ 6) ↔ ¬ AllocationExists t
  plan_six = (
    λ e exists. ((of-plans.six t).0 e).1.1 exists.0 exists.1,
    λ no. (of-plans.six t).1 (none, (used, λ s meets. no (s, meets))),
  )

-- ---- the answer for a list

pub number_refused : (l : WagonList) → judged_list l ≢ 0 → (list_planned l).number ≡ judged_list l
number_refused l h = ap (λ (p : Planned). p.number) (plan_refused_lem l h)

pub number_planned : (l : WagonList) → judged_list l ≡ 0 → (list_planned l).number ≡ (planned (set_of l)).number
number_planned l h = ap (λ (p : Planned). p.number) (plan_given l h)

fits_set : (l : WagonList) → judged_list l ≡ 0 → judged (set_of l) ≡ 0
fits_set l h = judged_none l ((list_fits l).0 h)

-- the set of a list has mode 1
pub in_use_lem : (l : WagonList) → ¬ Retired (set_of l)
in_use_lem l e = absurd (omega (arith, e))

-- a refusal that the planner never gives here is the list's own
pub own_number : (l : WagonList) (k : ℕ) → k ≢ 0 → k ≢ 6 → ((list_planned l).number ≡ k) ↔ (judged_list l ≡ k)
own_number l k n₀ n₆ = (
  λ e. ⊎_elim (λ z. absurd (plan_numbers (set_of l) (fits_set l z) (in_use_lem l) k n₀ n₆ (sym (number_planned l z) ∙ e))) (λ n. sym (number_refused l n) ∙ e) (same_or_not (judged_list l) 0),
  λ e. number_refused l (λ z. n₀ (sym e ∙ z)) ∙ e,
)

pub answer_two : (l : WagonList) → ((list_planned l).number ≡ 2) ↔ ¬ CountFits l
answer_two l = iff_then (own_number l 2 (omega arith) (omega arith)) (list_two l)

pub answer_four : (l : WagonList) → ((list_planned l).number ≡ 4) ↔ (CountFits l × ¬ WagonsFit l)
answer_four l = iff_then (own_number l 4 (omega arith) (omega arith)) (list_four l)

-- 0 and 6 are the planner's
planner_number : (l : WagonList) (k : ℕ) → k ≢ 2 → k ≢ 4 → ((list_planned l).number ≡ k) ↔ (ListFits l × ((planned (set_of l)).number ≡ k))
planner_number l k n₂ n₄ = (
  λ e.
      ⊎_elim (λ z. ((list_fits l).0 z, sym (number_planned l z) ∙ e))
      (⊎_elim (λ t. absurd (n₂ (sym e ∙ number_refused l (λ z. absurd (omega arith)) ∙ t))) (λ f. absurd (n₄ (sym e ∙ number_refused l (λ z. absurd (omega arith)) ∙ f))))
      (list_only l),
  λ h. number_planned l ((list_fits l).1 h.0) ∙ h.1,
)

pub answer_none : (l : WagonList) → ((list_planned l).number ≡ 0) ↔ (ListFits l × ((planned (set_of l)).number ≡ 0))
answer_none l = planner_number l 0 (omega arith) (omega arith)

pub answer_six : (l : WagonList) → ((list_planned l).number ≡ 6) ↔ (ListFits l × ¬ AllocationExists (set_of l))
answer_six l =
    let both = planner_number l 6 (omega arith) (omega arith) in (
      λ e. let h = both.0 e in (h.0, (plan_six (set_of l) (judged_none l h.0) (in_use_lem l)).0 h.1),
      λ h. both.1 (h.0, (plan_six (set_of l) (judged_none l h.0) (in_use_lem l)).1 h.1),
    )

pub answer_only : (l : WagonList) → ((list_planned l).number ≡ 0) ⊎ ((list_planned l).number ≡ 2) ⊎ ((list_planned l).number ≡ 4) ⊎ ((list_planned l).number ≡ 6)
answer_only l =
    ⊎_elim (λ z. ⊎_elim (λ e. inl (number_planned l z ∙ e)) (λ e. inr (inr (inr (number_planned l z ∙ e)))) (plan_only (set_of l) (fits_set l z) (in_use_lem l)))
    (⊎_elim (λ t. inr (inl ((own_number l 2 (omega arith) (omega arith)).1 t))) (λ f. inr (inr (inl ((own_number l 4 (omega arith) (omega arith)).1 f)))))
    (list_only l)

-- a refused answer is blank
pub answer_blank : (l : WagonList) → (list_planned l).number ≢ 0 → (list_planned l).alloc ≡ blank_alloc
answer_blank l h =
    ⊎_elim (λ z. ap (λ (p : Planned). p.alloc) (plan_given l z) ∙ of-plans.blank (set_of l) (λ e. h (number_planned l z ∙ e)))
    (λ n. ap (λ (p : Planned). p.alloc) (plan_refused_lem l n))
    (same_or_not (judged_list l) 0)

-- ---- it is the planner's on the sheet

pub planner_on_lem : (l : WagonList) → ListFits l → list_planned l ≡ planner_on (list_sheet l)
unfolding planned_read
planner_on_lem l h =
    plan_given l ((list_fits l).1 h) ∙ sym (ap (λ (r : ReadRequest). planned_read r.number r.set) (read_back l h))

-- ---- the sheet that is written

module _ (l : WagonList) (out : List ℕ) where
  pub sheet_written : ListFits l → list_length l ≤ length out
      → (sheet_answer (judged_list l) l out ≡ record { length = list_length l; number = 0 }) × (sheet_buffer (judged_list l) l out ≡ list_sheet l ++ drop (list_length l) out)
  sheet_written h fits =
      let z = (list_fits l).1 h in
      (answer_given l out z ∙ answer_written l h out fits, buffer_given l out z ∙ buffer_written l h out fits)

  -- its first bytes, as many as the answer says, are the sheet
  pub sheet_taken : ListFits l → list_length l ≤ length out → take (sheet_answer (judged_list l) l out).length (sheet_buffer (judged_list l) l out) ≡ list_sheet l
  sheet_taken h fits =
      let z = (list_fits l).1 h in
      rw ((sheet_written h fits).0, buffer_given l out z) (taken l h out fits)

  -- no sheet: no byte
  pub none_written : ¬ ListFits l
      → (sheet_answer (judged_list l) l out ≡ record { length = 0; number = (list_planned l).number }) × (sheet_buffer (judged_list l) l out ≡ out)
  none_written unfit =
      let n : judged_list l ≢ 0 = λ z. unfit ((list_fits l).0 z) in
      let kept = sheet_refused l out n in
      (sym kept.answer ∙ ap refused_writing (sym (number_refused l n)), sym kept.buffer)

  pub sheet_short : ((sheet_answer (judged_list l) l out).number ≡ 14) ↔ (ListFits l × (length out < list_length l))
  sheet_short =
      let long : request_length (set_of l) ≡ list_length l = sym (of-sheets.request_length_lem (set_of l)) ∙ sheet_length_lem l in
      let fourteen = of-sheets.request_fourteen (set_of l) out in (
        λ e.
            ⊎_elim (λ z.
            let short = (fourteen.0 (sym (ap (λ (w : Written). w.number) (answer_given l out z)) ∙ e)).1 in
            ((list_fits l).0 z, omega (arith, short, long)))
            (λ other.
            let n : judged_list l ≢ 0 = ⊎_elim (λ t z. absurd (omega arith)) (λ f z. absurd (omega arith)) other in
            let own : judged_list l ≡ 14 = ap (λ (w : Written). w.number) (sheet_refused l out n).answer ∙ e in
            absurd (⊎_elim (λ t. absurd (omega arith)) (λ f. absurd (omega arith)) other))
            (list_only l),
        λ h.
            let z = (list_fits l).1 h.0 in
            ap (λ (w : Written). w.number) (answer_given l out z) ∙ fourteen.1 (judged_none l h.0, omega (arith, h.1, long)),
      )
