-- A set that leaves FDDI has a timely-token plan: FDDI's X counts at most q whole shares, which the timely-token X of the same S has at least; the other rules are the same.
use Prim.Native.Nat.{ℕ, zero, suc, ◌*◌, ◌≤◌}
use mathlib.Core.Path.{◌≡◌, refl}
use mathlib.Core.Bool.{true}
use native.Mathlib.Omega.{arith}
use Rattle.units.specs.Places.{at}
use Rattle.units.proofs.SmallLaws.{one_more_lem}
use Rattle.units.specs.Vectors.{whole_rotations}
use Rattle.sets.specs.Rules.{NumbersAllowed}
use Rattle.sets.proofs.SetLaws.{allowed}
use Rattle.sets.specs.declared.Set.{Set}
use Rattle.fddi.specs.Rules as fddi-rules
use Rattle.fddi.specs.Rules.{time_with}
use Rattle.plans.specs.Rules.{load_of, time_at, MeetsRules, Retired, timely_of}
use Rattle.plans.specs.Planned.{judged_plan, smallest_fits}
use Rattle.plans.specs.Promised.{PlannedAnew}
use Rattle.plans.proofs.PlanLaws.{time_timely, time_fddi, given_none}
use Rattle.plans.proofs.LeastLaws.{smallest_needed, plan_found, is_plan_lem}
use Rattle.plans.specs.declared.Alloc.{Alloc}

-- FDDI's X is at most q whole shares
shares_most : (q over s : ℕ) → time_with q over s ≤ q * s
unfolding time_with
shares_most zero over s = omega arith
shares_most (suc k) over s = omega (arith, one_more_lem k s)

older_most : (t : Set) (s : ℕ → ℕ) (i : ℕ) → fddi-rules.time_at (load_of t) s i ≤ whole_rotations t.head.ttrt (at t.d i) * s i
older_most t s i = shares_most _ _ (s i)

module _ (t : Set) (m : Retired t) where
  -- and the timely-token X is at least as many
  time_most : (s : ℕ → ℕ) (i : ℕ) → time_at t s i ≤ time_at (timely_of t) s i
  time_most s i =
      rw (time_fddi t s i (rw m refl), time_timely (timely_of t) s i refl) (omega (arith, older_most t s i))

  rules_anew : (s : ℕ → ℕ) → MeetsRules t s → MeetsRules (timely_of t) s
  rules_anew s r = record { deadlines = λ i l. omega (arith, r.deadlines i l, time_most s i); token = r.token; grid = r.grid }

numbers_anew : (t : Set) → NumbersAllowed t → NumbersAllowed (timely_of t)
numbers_anew t n =
    record {
      header = record { ttrt = n.header.ttrt; mode = (omega arith, omega arith); frame = n.header.frame; grid = n.header.grid };
      stations = n.stations;
    }

pub leaves_fddi : (t : Set) (a : Alloc) → Retired t → judged_plan t a ≡ 0 → PlannedAnew t a
leaves_fddi t a m h =
    let given = (given_none t a).0 h in
    let numbers = numbers_anew t given.1.0.0 in
    let rules = rules_anew t m (at a.s) given.1.1.1 in
    let few = given.0.1 in
    let fits : smallest_fits (timely_of t) ≡ true = smallest_needed (timely_of t) refl few numbers.header.grid.0 (at a.s) rules in
    let found = plan_found (timely_of t) ((allowed (timely_of t)).1 (given.0, (numbers, given.1.1.0))) refl fits in
    record {
      accepted = rw found refl;
      no_more = λ i l. rw found ((is_plan_lem (timely_of t) refl few fits).plan.least.least (at a.s) rules i l);
    }
