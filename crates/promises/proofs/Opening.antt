-- A plan that is judged 0 gives what the proofs need, and the opened ring keeps all that a run keeps.
use Prim.Native.Nat.{ℕ, zero, suc, ◌+◌, ◌-◌, ◌<◌}
use mathlib.Core.Path.{◌≡◌, refl}
use mathlib.Core.List.{[]}
use mathlib.Core.Logic.{inl}
use native.Mathlib.Omega.{arith}
use Rattle.units.specs.Places.{at, sum_below}
use Rattle.units.proofs.PlaceLaws.{zero_at, sum_none, sum_split}
use Rattle.sets.specs.Judged.{zeros}
use Rattle.sets.specs.declared.Set.{Set}
use Rattle.plans.specs.Rules.{least_time, time_at}
use Rattle.plans.specs.Planned.{judged_plan}
use Rattle.plans.proofs.PlanLaws.{given_none}
use Rattle.plans.specs.declared.Alloc.{Alloc}
use Rattle.rings.specs.State.{Unmarked, timers_of, Shaped}
use Rattle.fddi_timer_rules.proofs.Promised.{promised as timers-promised}
use Rattle.rings.specs.Timers.{Fddi, has_run}
use Rattle.rings.proofs.TimerLaws.{fddi_false}
use Rattle.rings.proofs.StationLaws.{opened_ran, opened_below}
use Rattle.ring_rules.proofs.OpenedLaws.{fresh}
use Rattle.rings.specs.Opening.{opened_ring}
use Rattle.promises.specs.History.{async_of, latest, due}
use Rattle.promises.specs.Facts.{timing, timer_plan}
use Rattle.promises.proofs.Windows.{own}
use Rattle.promises.proofs.Course.{Plan, Course, InRange}
use Rattle.promises.proofs.Arrivals.{Passed}
use Rattle.promises.proofs.Stores.{Stored, Told}
use Rattle.promises.proofs.Timing.{Timed}
use Rattle.promises.proofs.Laps.{Lapped}
use Rattle.promises.proofs.Messages.{Messaged}

-- X of a timely-token set is the station's own
timely_time : (t : Set) (a : Alloc) → ¬ Fddi t → (i : ℕ) → time_at t (at a.s) i ≡ least_time t.head.ttrt (at t.d i) (at a.s i)
unfolding time_at
timely_time t a n i = rw (fddi_false t n)

pub plan_of_lem : (t : Set) (a : Alloc) → judged_plan t a ≡ 0 → Plan t a
plan_of_lem t a h =
    let g = (given_none t a).0 h in
    record {
      judged = h;
      some = g.0.0;
      few = g.0.1;
      rotation = g.1.0.0.header.ttrt;
      walk = g.1.1.0.0;
      token = omega (arith, g.1.1.1.token);
      deadlines = λ n i l. omega (arith, g.1.1.1.deadlines i l, timely_time t a n i);
      gaps = λ i l. (g.1.0.0.stations i l).gap.0;
    }

-- ---- nothing but zeros

sum_zeros : (n : ℕ) → sum_below n (at zeros) ≡ 0
unfolding sum_below
sum_zeros zero = refl
sum_zeros (suc n) = omega (arith, sum_zeros n, zero_at n)

async_nothing : (n : ℕ) → async_of n [] ≡ 0
unfolding async_of
async_nothing n = refl

-- ---- the opened ring

module _ (t : Set) (a : Alloc) (P : Plan t a) where
  pub opened_places : Shaped (opened_ring t a)
  opened_places = (fresh t a P.judged).shaped

  pub opened_course : Course t a (timing (opened_ring t a)) []
  unfolding opened_ring due latest
  opened_course =
      record {
        set = refl;
        alloc = refl;
        token = P.some;
        turn = refl;
        counted = refl;
        rounds = (0, record { visits = omega arith; walked = omega (arith, sum_none (at t.w)) });
        sents = λ i l. omega (arith, zero_at i);
        arrived = λ i l. inl (record { latest = refl; early = omega arith; nothing = zero_at i });
      }

  pub opened_range : InRange t (timing (opened_ring t a))
  unfolding opened_ring
  opened_range = record { bounded = omega arith; clock = omega arith }

  pub opened_timed : ¬ Fddi t → Timed t a (timing (opened_ring t a)) []
  unfolding opened_ring latest
  opened_timed mode =
      let F = fresh t a P.judged in
      let trt = F.trts mode in
      record {
        mode = mode;
        course = opened_course;
        unused = omega (arith, F.unused, sum_zeros t.n);
        passed = λ i l. absurd (omega arith);
        coming = λ i l b.
            omega
            (arith, trt i l, sum_split t.n (at t.w) i (omega arith), async_nothing (0 + t.n - i - own t), sum_none (at t.w), sum_none (at zeros), sum_zeros i, sum_zeros t.n);
        window = omega (arith, async_nothing t.n, P.token);
        silent = λ i l _. omega (arith, trt i l);
        since = λ i l u e. let z : ◌≡◌ {A = ℕ} 0 1 = cc e in absurd (omega arith);
      }

  pub opened_lapped : Fddi t → Lapped t a (timing (opened_ring t a)) []
  unfolding opened_ring
  opened_lapped e =
      record {
        mode = e;
        course = opened_course;
        below = opened_below t a P.judged e;
        kept = timers-promised.opened (timer_plan t a) (has_run t (timers_of (timing (opened_ring t a)))) (omega (arith, P.token)) (opened_ran t a P.judged e);
        silent = λ i l _. omega (arith, opened_ran t a P.judged e i l);
        since = λ i l. omega arith;
      }

  pub opened_stored : (i : ℕ) → i < t.n → Stored t (opened_ring t a) i
  unfolding opened_ring
  opened_stored i l = record { small = omega (arith, zero_at i); range = omega (arith, zero_at i) }

  pub opened_told : (i : ℕ) → Told (opened_ring t a) [] i
  unfolding opened_ring latest
  opened_told i = inl (record { latest = refl; had = zero_at i })

  pub opened_passed : Passed t (opened_ring t a) [] []
  unfolding opened_ring
  opened_passed = record { arrived = λ i. omega (arith, zero_at i); messages = tt; lasts = λ i. omega (arith, zero_at i); visits = tt }

  pub opened_mark : (i : ℕ) → Unmarked (opened_ring t a) i
  unfolding opened_ring
  opened_mark i = zero_at i

  pub opened_clear : (i : ℕ) → 0 < at (opened_ring t a).rest i → Unmarked (opened_ring t a) i
  unfolding opened_ring
  opened_clear i h = zero_at i

  pub opened_messaged : (i : ℕ) → i < t.n → Messaged t a (opened_ring t a) i
  unfolding opened_ring
  opened_messaged i l = inl (record { none = zero_at i; ended = inl (zero_at i) })
