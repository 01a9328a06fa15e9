-- FDDI's timers: what the loops of `arrays` leave in the arrays is what the definitions say, because a sound ring's timers run on for less than three TTRTs.
use Prim.Native.Nat.{ℕ, ◌+◌, ◌*◌, ◌≤◌, ◌<◌, ◌^◌}
use mathlib.Core.Path.{◌≡◌}
use mathlib.Core.List.{List}
use mathlib.Core.Logic.{⊎_elim}
use native.Mathlib.Omega.{arith}
use Rattle.units.specs.Places.{at}
use Rattle.units.proofs.PlaceLaws.{set_each, sum_split}
use Rattle.units.proofs.SmallLaws.{below_or_not}
use Rattle.sets.specs.declared.Set.{Set}
use Rattle.plans.specs.Planned.{judged_plan}
use Rattle.plans.proofs.PlanLaws.{given_none}
use Rattle.plans.specs.declared.Alloc.{Alloc}
use Rattle.arrays.specs.Laps.{ran_on, laps_counted}
use Rattle.arrays.proofs.Promised.{promised}
use Rattle.fddi_timer_rules.specs.Timers.{Timer, later, visited}
use Rattle.rings.specs.State.{count, ttrt, timers_of}
use Rattle.rings.specs.Timers.{FddiSound, timer_of, rise, token_came, time_passed, fddi_after, silent_trt}
use Rattle.rings.proofs.TimerLaws.{came_late, came_early}
use Rattle.rings.specs.Bounds.{Safe, Sendable}
use Rattle.rings.specs.declared.Ring.{Ring}
use Rattle.rings.specs.declared.Timers.{Timers}

-- ---- a token comes

-- no timer and no count rises
came_small : (t : Timer) → ((visited t).timer ≤ t.timer) × ((visited t).count ≤ t.count)
came_small t =
    ⊎_elim (λ (l : 0 < t.count). rw (came_late t l) (omega arith, omega arith))
    (λ (l : t.count ≤ 0). let z : t.count ≡ 0 = omega arith in rw (came_early t z) (omega arith, omega arith))
    (below_or_not 0 t.count)

pub came_timers : (p i most : ℕ) (t : Timers) → at t.trt p < most → at t.trt i < most → at (token_came p t).trt i < most
unfolding token_came
came_timers p i most t own l =
    set_each t.trt p i (visited (timer_of t p)).timer (λ (x : ℕ). x < most) l (λ e. omega (arith, (came_small (timer_of t p)).0))

pub came_lates : (p i most : ℕ) (t : Timers) → at t.late p ≤ most → at t.late i ≤ most → at (token_came p t).late i ≤ most
unfolding token_came
came_lates p i most t own l =
    set_each t.late p i (visited (timer_of t p)).count (λ (x : ℕ). x ≤ most) l (λ e. omega (arith, (came_small (timer_of t p)).1))

-- ---- time passes in the arrays as it does in the definition

ran_on_lem : (n ttrt x : ℕ) (t : Timers) → 0 < ttrt → ttrt < 2 ^ 32 → ((i : ℕ) → i < n → at t.trt i + x < 3 * ttrt) → ((i : ℕ) → i < n → at t.late i + 2 < 2 ^ 32)
    → record { trt = ran_on n x ttrt t.trt; late = laps_counted n x ttrt t.trt t.late; unused = t.unused } ≡ time_passed n ttrt x t
unfolding time_passed later
ran_on_lem n ttrt x t some small short few =
    rw (promised.run_fits n x ttrt t.trt some small short, promised.laps_fit n x ttrt t.trt t.late some short few)

-- the code's arrays after a visit
pub ran : (r : Ring) (sync async by : ℕ) (came : Timers) (trt late : List ℕ) → came ≡ token_came r.token (timers_of r) → by ≡ rise r sync async
    → trt ≡ ran_on (count r) by (ttrt r) came.trt → late ≡ laps_counted (count r) by (ttrt r) came.trt came.late
    → Safe r → FddiSound r → Sendable r sync async → record { trt = trt; late = late; unused = came.unused } ≡ fddi_after r sync async
ran r sync async by came trt late is rises runs counts s m t =
    let p = r.token in
    let own = m.timers p s.token in
    let now = token_came p (timers_of r) in
    rw (runs, counts, is, rises)
    (ran_on_lem (count r) (ttrt r) (rise r sync async) now (omega arith) (omega (arith, s.rotation))
    (λ i l. omega (arith, came_timers p i (ttrt r) (timers_of r) own (m.timers i l), t.short))
    (λ i l. omega (arith, came_lates p i 3 (timers_of r) (m.lates p s.token) (m.lates i l))))

-- ---- opening

-- a silent timer is at most TTRT
pub silent_small : (t : Set) (a : Alloc) → judged_plan t a ≡ 0 → (i : ℕ) → i < t.n → silent_trt t i ≤ t.head.ttrt
silent_small t a h i l = omega (arith, sum_split t.n (at t.w) i (omega arith), ((given_none t a).0 h).1.1.0.1)
