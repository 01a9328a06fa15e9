-- `open` is right because the plan is judged where it stands in the ring; only the number 0 opens, and a plan of that number is of a mode in use, whose timers the silent rotation leaves: τ is at most TTRT, so that no sum is held.
use Prim.Native.Nat.{ℕ, min}
use mathlib.Core.Path.{◌≡◌, sym, ap, ◌∙◌}
use mathlib.Core.List.{List}
use native.Mathlib.Omega.{arith}
use Rattle.units.specs.Places.{at, sum_below, fill}
use Rattle.sets.specs.Judged.{zeros}
use Rattle.sets.specs.declared.Set.{Set}
use Rattle.plans.specs.Planned.{judged_plan}
use Rattle.plans.proofs.PlanLaws.{given_none}
use Rattle.plans.specs.declared.Alloc.{Alloc}
use Rattle.arrays.specs.Held.{sums_to_last}
use Rattle.arrays.proofs.Promised.{promised}
use Rattle.rings.specs.State.{with_plan, with_timers, blank_ring}
use Rattle.rings.specs.Opening.{opening_number, opened_ring, opening}
use Rattle.rings.specs.Timers.{Fddi, silent_trt, silent_unused, silent_timely}
use Rattle.rings.proofs.TimerLaws.{opened_timely}
use Rattle.rings.proofs.RingLaws.{opened_refused, opened_accepted}
use Rattle.rings.specs.declared.Opened.{Opened}
use Rattle.rings.specs.declared.Ring.{Ring}
use Rattle.rings.specs.declared.Timers.{Timers}
use Rattle.rings.proofs.OpeningLaws.{opening_none}
use Rattle.rings.proofs.open.Goals as goal
use Rattle.rings.proofs.open.Goals.{After-sums_to_last-trt, After-sum_lent}

-- the blank ring with the plan and these timers is the opened ring of a mode in use
opened_is : (t : Set) (a : Alloc) (blank : Ring) (trt : List ℕ) (unused : ℕ) → ¬ Fddi t → blank ≡ blank_ring → trt ≡ fill t.n (silent_trt t) zeros → unused ≡ silent_unused t a
    → with_timers (record { trt = trt; late = blank.late; unused = unused }) (with_plan t a blank) ≡ opened_ring t a
unfolding opened_ring silent_timely
opened_is t a blank trt unused n is sums sum = rw (is, sums, sum) (ap (λ (x : Timers). with_timers x (with_plan t a blank_ring)) (sym (opened_timely t a n)))

-- an answer is opening's if its ring is the opened one and its number is 0
answered : (t : Set) (a : Alloc) (x : Opened) → x.ring ≡ opened_ring t a → x.number ≡ 0 → opening_number t a ≡ 0 → x ≡ opening t a
answered t a x ring number opens = (λ i. record { ring = ring i; number = number i }) ∙ sym (opened_accepted (opening_number t a) (opened_ring t a) opens)

pub returns-then-number-ne-ACCEPTED : goal.returns-then-number-ne-ACCEPTED
returns-then-number-ne-ACCEPTED c =
    let set-of : Set = c.args.set in
    let alloc-of : Alloc = c.args.alloc in
    let number_said : c.opening_number-number.result ≡ opening_number (set-of) (alloc-of) = c.opening_number-number.ensures in
    rw (c.blank_ring-ring-then-number-ne-ACCEPTED.ensures, number_said) (sym (opened_refused _ _ (λ e. c.if-number-ne-ACCEPTED.true (number_said ∙ e))))

-- the silent rotation has left the timers at the sums of the walks to the last station
walked : (c : After-sums_to_last-trt) → let t = c.args.set in c.sums_to_last-trt.result ≡ fill t.n (silent_trt t) zeros
walked c =
    let t : Set = c.args.set in
    let a : Alloc = c.args.alloc in
    let plan = (given_none t a).0 ((opening_none t a).0 (sym c.opening_number-number.ensures ∙ c.if-number-ne-ACCEPTED.false)).0 in
    let few : min t.n 128 ≡ t.n = omega (arith, plan.0.1) in
    c.sums_to_last-trt.ensures ∙ ap (λ (n : ℕ). sums_to_last n t.w) few ∙ promised.sums_fit t.n t.w (omega (arith, plan.1.0.0.header.ttrt, plan.1.1.0))

-- u is the sum of S
unused_said : (c : After-sum_lent) → c.sum_lent.result ≡ silent_unused c.args.set c.args.alloc
unused_said c =
    let t : Set = c.args.set in
    let a : Alloc = c.args.alloc in
    let plan = (given_none t a).0 ((opening_none t a).0 (sym c.opening_number-number.ensures ∙ c.if-number-ne-ACCEPTED.false)).0 in
    let few : min t.n 128 ≡ t.n = omega (arith, plan.0.1) in
    c.sum_lent.ensures.sum ∙ ap (λ (n : ℕ). sum_below n (at a.s)) few

pub returns-else-number-ne-ACCEPTED : goal.returns-else-number-ne-ACCEPTED
returns-else-number-ne-ACCEPTED c =
    let t : Set = c.args.set in
    let a : Alloc = c.args.alloc in
    let number_said : c.opening_number-number.result ≡ opening_number t a = c.opening_number-number.ensures in
    let zero : c.opening_number-number.result ≡ 0 = c.if-number-ne-ACCEPTED.false in
    let accepted : (judged_plan t a ≡ 0) × ¬ Fddi t = (opening_none t a).0 (sym number_said ∙ zero) in
    answered t a _ (opened_is t a _ _ _ accepted.1 c.blank_ring-ring.ensures (walked c.before.before) (unused_said c)) zero (sym number_said ∙ zero)
