-- What the parts are made of: when the page says that a log is accepted, where the limit of the named record comes from, and how large the bound is.
use Rattle.std.proofs.Common.{◌≡◌, ℕ, ◌-◌, ◌^◌, ◌≤◌, Bool, true, false, cond, not, ◌&&◌, eqb, ◌≢◌, ◌↔◌, refl, ⊎_elim, arith, le-ltb, lt-ltb, eq-eqb, ne_eqb, eqb-true}
use mathlib.Core.Bool.{false≢true}
use borrow.Author.Tests.{eqb-false, not-true, not-false}
use Rattle.units.specs.Numbers.{fddi}
use Rattle.units.specs.Places.{at, sum_below}
use Rattle.units.proofs.JudgingLaws.{true_or_false, and-true}
use Rattle.sets.specs.declared.Head.{Head}
use Rattle.sets.specs.declared.Set.{Set}
use Rattle.plans.specs.Rules.{spare_time, is_fddi}
use Rattle.plans.specs.Planned.{judged_plan}
use Rattle.plans.specs.declared.Alloc.{Alloc}
use Rattle.plans.proofs.PlanLaws.{spare_timely, spare_fddi, given_none}
use Rattle.sheets.specs.declared.ReadPlan.{ReadPlan}
use Rattle.inspection.specs.Rules.{limit_with, unless_marked}
use Rattle.inspection_stream.specs.Inspecting.{inspect_number}
use Rattle.inspection_stream.specs.declared.Inspecting.{Inspecting}
use Rattle.command_page.specs.declared.Outcome.{Outcome}
use Rattle.command_page.specs.declared.Outcome.TheVariants as outcome
use Rattle.command_page.specs.Account.{is_other, outcome_of, refusal_of, bound_ticks, bound_of}
use Rattle.command_page.specs.Promised.{Accepting, PlanRefusing, Refusing, Differing, Breaking}

-- ---- the answer

pub says_accepted : (given : Bool) (p : ReadPlan) (k : Inspecting) → Accepting given p k → outcome_of given p k ≡ outcome.Accepted
unfolding outcome_of
says_accepted true p k h =
    let found = and-true (eqb (inspect_number k) 0) (eqb k.looked.inspection.rule 0) h.found in
    let plan = h.plan refl in
    rw (eq-eqb p.number 0 plan.0, found.0, plan.1, found.1) refl
says_accepted false p k h =
    let found = and-true (eqb (inspect_number k) 0) (eqb k.looked.inspection.rule 0) h.found in
    rw (found.0, found.1) refl

-- the tests alone: the plan sheet is read, the log is read, its plan is another one, and it keeps every rule
abbrev answered : Bool → Bool → Bool → Bool → Bool → Outcome
answered given plan read other kept =
    cond (given && not plan) outcome.PlanRefused
    (cond (not read) outcome.Refused (cond (given && other) outcome.Another (cond kept outcome.Accepted outcome.Broken)))

by_tests : (given plan read other kept : Bool) → answered given plan read other kept ≡ outcome.Accepted
    → ((read && kept) ≡ true) × (given ≡ true → (plan ≡ true) × (other ≡ false))
by_tests true true true false true e = (refl, λ g. (refl, refl))
by_tests true true true false false e = ((cc), λ g. ((cc), (cc)))
by_tests true true true true kept e = ((cc), λ g. ((cc), (cc)))
by_tests true true false other kept e = ((cc), λ g. ((cc), (cc)))
by_tests true false read other kept e = ((cc), λ g. ((cc), (cc)))
by_tests false plan true other true e = (refl, λ g. absurd (false≢true g))
by_tests false plan true other false e = ((cc), λ g. ((cc), (cc)))
by_tests false plan false other kept e = ((cc), λ g. ((cc), (cc)))

pub only_accepted : (given : Bool) (p : ReadPlan) (k : Inspecting) → outcome_of given p k ≡ outcome.Accepted → Accepting given p k
unfolding outcome_of
only_accepted given p k e =
    let tests = by_tests given (eqb p.number 0) (eqb (inspect_number k) 0) (is_other p k) (eqb k.looked.inspection.rule 0) e in
    record { found = tests.0; plan = λ g. (eqb-true _ _ (tests.1 g).0, (tests.1 g).1) }

-- ---- the other words, by the tests alone

by_plan_refused : (given plan read other kept : Bool) → answered given plan read other kept ≡ outcome.PlanRefused → (given ≡ true) × (plan ≡ false)
by_plan_refused true true true true kept e = ((cc), (cc))
by_plan_refused true true true false true e = ((cc), (cc))
by_plan_refused true true true false false e = ((cc), (cc))
by_plan_refused true true false other kept e = ((cc), (cc))
by_plan_refused true false read other kept e = (refl, refl)
by_plan_refused false plan true other true e = ((cc), (cc))
by_plan_refused false plan true other false e = ((cc), (cc))
by_plan_refused false plan false other kept e = ((cc), (cc))

by_refused : (given plan read other kept : Bool) → answered given plan read other kept ≡ outcome.Refused → (given ≡ true → plan ≡ true) × (read ≡ false)
by_refused true true true true kept e = ((λ g. cc), (cc))
by_refused true true true false true e = ((λ g. cc), (cc))
by_refused true true true false false e = ((λ g. cc), (cc))
by_refused true true false other kept e = ((λ g. refl), refl)
by_refused true false read other kept e = ((λ g. cc), (cc))
by_refused false plan true other true e = ((λ g. cc), (cc))
by_refused false plan true other false e = ((λ g. cc), (cc))
by_refused false plan false other kept e = ((λ g. absurd (false≢true g)), refl)

by_another : (given plan read other kept : Bool) → answered given plan read other kept ≡ outcome.Another → (given ≡ true) × ((plan ≡ true) × ((read ≡ true) × (other ≡ true)))
by_another true true true true kept e = (refl, (refl, (refl, refl)))
by_another true true true false true e = ((cc), ((cc), ((cc), (cc))))
by_another true true true false false e = ((cc), ((cc), ((cc), (cc))))
by_another true true false other kept e = ((cc), ((cc), ((cc), (cc))))
by_another true false read other kept e = ((cc), ((cc), ((cc), (cc))))
by_another false plan true other true e = ((cc), ((cc), ((cc), (cc))))
by_another false plan true other false e = ((cc), ((cc), ((cc), (cc))))
by_another false plan false other kept e = ((cc), ((cc), ((cc), (cc))))

by_broken : (given plan read other kept : Bool) → answered given plan read other kept ≡ outcome.Broken → (given ≡ true → (plan ≡ true) × (other ≡ false)) × ((read ≡ true) × (kept ≡ false))
by_broken true true true true kept e = ((λ g. ((cc), (cc))), ((cc), (cc)))
by_broken true true true false true e = ((λ g. ((cc), (cc))), ((cc), (cc)))
by_broken true true true false false e = ((λ g. (refl, refl)), (refl, refl))
by_broken true true false other kept e = ((λ g. ((cc), (cc))), ((cc), (cc)))
by_broken true false read other kept e = ((λ g. ((cc), (cc))), ((cc), (cc)))
by_broken false plan true other true e = ((λ g. ((cc), (cc))), ((cc), (cc)))
by_broken false plan true other false e = ((λ g. absurd (false≢true g)), (refl, refl))
by_broken false plan false other kept e = ((λ g. ((cc), (cc))), ((cc), (cc)))

-- and back
are_refused : (given plan read other kept : Bool) → (given ≡ true → plan ≡ true) → read ≡ false → answered given plan read other kept ≡ outcome.Refused
are_refused true plan read other kept g h = rw (g refl, h) refl
are_refused false plan read other kept g h = rw h refl

are_broken : (given plan read other kept : Bool) → (given ≡ true → (plan ≡ true) × (other ≡ false)) → read ≡ true → kept ≡ false → answered given plan read other kept ≡ outcome.Broken
are_broken true plan read other kept g h f = rw ((g refl).0, h, (g refl).1, f) refl
are_broken false plan read other kept g h f = rw (h, f) refl

module _ (given : Bool) (p : ReadPlan) (k : Inspecting) where
  abbrev plan : Bool
  plan = eqb p.number 0

  abbrev read : Bool
  read = eqb (inspect_number k) 0

  abbrev kept : Bool
  kept = eqb k.looked.inspection.rule 0

  pub says_plan_refused : (outcome_of given p k ≡ outcome.PlanRefused) ↔ PlanRefusing given p
  unfolding outcome_of
  says_plan_refused = (
    λ e. let h = by_plan_refused given plan read (is_other p k) kept e in (h.0, eqb-false _ _ h.1),
    λ h. rw (h.0, ne_eqb p.number 0 h.1) refl,
  )

  pub says_refused : (outcome_of given p k ≡ outcome.Refused) ↔ Refusing given p k
  unfolding outcome_of
  says_refused = (
    λ e. let h = by_refused given plan read (is_other p k) kept e in (λ g. eqb-true _ _ (h.0 g), eqb-false _ _ h.1),
    λ h. are_refused given plan read (is_other p k) kept (λ g. eq-eqb p.number 0 (h.0 g)) (ne_eqb (inspect_number k) 0 h.1),
  )

  pub says_another : (outcome_of given p k ≡ outcome.Another) ↔ Differing given p k
  unfolding outcome_of
  says_another = (
    λ e. let h = by_another given plan read (is_other p k) kept e in (h.0, (eqb-true _ _ h.1.0, (eqb-true _ _ h.1.1.0, h.1.1.1))),
    λ h. rw (h.0, eq-eqb p.number 0 h.1.0, eq-eqb (inspect_number k) 0 h.1.1.0, h.1.1.1) refl,
  )

  pub says_broken : (outcome_of given p k ≡ outcome.Broken) ↔ Breaking given p k
  unfolding outcome_of
  says_broken = (
    λ e. let h = by_broken given plan read (is_other p k) kept e in (λ g. (eqb-true _ _ (h.0 g).0, (h.0 g).1), (eqb-true _ _ h.1.0, eqb-false _ _ h.1.1)),
    λ h. are_broken given plan read (is_other p k) kept (λ g. (eq-eqb p.number 0 (h.0 g).0, (h.0 g).1)) (eq-eqb (inspect_number k) 0 h.1.0) (ne_eqb k.looked.inspection.rule 0 h.1.1),
  )

  pub plan_number_lem : outcome_of given p k ≡ outcome.PlanRefused → refusal_of given p k ≡ p.number
  unfolding refusal_of
  plan_number_lem e = let h = says_plan_refused.0 e in rw (h.0, ne_eqb p.number 0 h.1) refl

log_number_of : (given : Bool) (p : ReadPlan) (k : Inspecting) → (given ≡ true → p.number ≡ 0) → refusal_of given p k ≡ inspect_number k
unfolding refusal_of
log_number_of true p k h = rw (eq-eqb p.number 0 (h refl)) refl
log_number_of false p k h = refl

pub log_number_lem : (given : Bool) (p : ReadPlan) (k : Inspecting) → outcome_of given p k ≡ outcome.Refused → refusal_of given p k ≡ inspect_number k
log_number_lem given p k e = log_number_of given p k ((says_refused given p k).0 e).0

-- ---- where the limit comes from

pub not_through : (mark x : ℕ) → not (eqb mark 0) ≡ false → unless_marked mark x ≡ x
unfolding unless_marked
not_through mark x e = let none : mark ≡ 0 = eqb-true mark 0 (not-false (eqb mark 0) e) in rw (le-ltb 0 mark (omega arith)) refl

pub when_through : (mark x : ℕ) → not (eqb mark 0) ≡ true → unless_marked mark x ≡ 0
unfolding unless_marked
when_through mark x e = let some : mark ≢ 0 = eqb-false mark 0 (not-true (eqb mark 0) e) in rw (lt-ltb 0 mark (omega arith)) refl

pub timely_with : (h : Head) (unused run : ℕ) → h.mode ≢ fddi → limit_with h unused run ≡ h.ttrt - (h.frame - 1) - unused - run
unfolding limit_with
timely_with h unused run n = rw (ne_eqb _ _ n) refl

pub fddi_with : (h : Head) (unused run : ℕ) → h.mode ≡ fddi → limit_with h unused run ≡ h.ttrt - run
unfolding limit_with
fddi_with h unused run e = rw (eq-eqb _ _ e) refl

-- ---- the plan as a whole

-- A* is at most TTRT
pub spare_small : (t : Set) (a : Alloc) → spare_time t (at a.s) ≤ t.head.ttrt
spare_small t a =
    ⊎_elim (λ e. rw (spare_fddi t (at a.s) e) (omega arith)) (λ e. rw (spare_timely t (at a.s) e) (omega arith))
    (true_or_false (is_fddi t))

either_small : (b : Bool) (x y most : ℕ) → x ≤ most → y ≤ most → cond b x y ≤ most
either_small true x y most h k = h
either_small false x y most h k = k

bound_small : (t : Set) (a : Alloc) → t.head.ttrt ≤ 1000000 → t.head.frame ≤ 65535 → sum_below t.n (at a.s) ≤ t.head.ttrt → bound_ticks t a ≤ 2 ^ 32 - 1
unfolding bound_ticks
bound_small t a high long within = either_small (eqb t.head.mode fddi) _ _ _ (omega arith) (omega arith)

pub bound_whole : (t : Set) (a : Alloc) → judged_plan t a ≡ 0 → bound_of t a ≡ bound_ticks t a
bound_whole t a e =
    let kept = (given_none t a).0 e in
    let head = kept.1.0.0.header in
    let token = kept.1.1.1.token in
    let small : bound_ticks t a ≤ 2 ^ 32 - 1 = bound_small t a head.ttrt.1 head.frame.1 (omega (arith, token)) in
    omega arith
