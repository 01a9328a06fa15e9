-- The opened ring is sound because its TRTs are parts of τ, nothing was sent, and its sums are those of an accepted plan.
use Prim.Native.Nat.{ℕ, ◌-◌, ◌<◌}
use mathlib.Core.Path.{◌≡◌, refl, ◌∙◌}
use mathlib.Core.Logic.{⊎_elim}
use native.Mathlib.Omega.{arith}
use lib.ListN.{length}
use Rattle.units.specs.Places.{at, sum_below}
use Rattle.units.proofs.PlaceLaws.{zero_at, sum_same, fill_length, fill_inside}
use Rattle.sets.specs.Judged.{zeros}
use Rattle.sets.specs.declared.Set.{Set}
use Rattle.plans.specs.Planned.{judged_plan}
use Rattle.plans.proofs.PlanLaws.{given_none}
use Rattle.plans.specs.declared.Alloc.{Alloc}
use Rattle.rings.specs.State.{Shaped}
use Rattle.rings.specs.Timers.{Fddi, silent_trt, silent_timers, silent_timely, silent_fddi, TimelySound}
use Rattle.rings.proofs.TimerLaws.{fddi_or_not, opened_fddi, opened_timely}
use Rattle.rings.proofs.ShapeLaws.{blank_shaped, timers_shaped}
use Rattle.rings.proofs.FddiLaws.{silent_small}
use Rattle.rings.proofs.StationLaws.{opened_timer, opened_below, opened_few}
use Rattle.rings.specs.Opening.{opened_ring}
use Rattle.rings.specs.Sound.{Sound}
use Rattle.ring_rules.specs.Promised.{Fresh}

module _ (t : Set) (a : Alloc) (h : judged_plan t a ≡ 0) where
  -- ---- the timers, by the mode

  trts : ¬ Fddi t → (i : ℕ) → i < t.n → at (opened_ring t a).trt i ≡ silent_trt t i
  unfolding opened_ring silent_timely
  trts n i l = rw (opened_timely t a n) (fill_inside t.n (silent_trt t) zeros i l ((given_none t a).0 h).0.1)

  lates : ¬ Fddi t → (i : ℕ) → at (opened_ring t a).late i ≡ 0
  unfolding opened_ring silent_timely
  lates n i = rw (opened_timely t a n) (zero_at i)

  unused : (silent_timers t a).unused ≡ sum_below t.n (at a.s)
  unfolding silent_timely silent_fddi
  unused = ⊎_elim (λ e. rw (opened_fddi t a e)) (λ n. rw (opened_timely t a n)) (fddi_or_not t)

  timers_long : (length (silent_timers t a).trt ≡ 128) × (length (silent_timers t a).late ≡ 128)
  unfolding silent_timely silent_fddi
  timers_long =
      ⊎_elim (λ e. rw (opened_fddi t a e) (fill_length t.n _ zeros, fill_length t.n _ zeros)) (λ n. rw (opened_timely t a n) (fill_length t.n _ zeros, refl)) (fddi_or_not t)

  shaped : Shaped (opened_ring t a)
  unfolding opened_ring
  shaped = timers_shaped _ (blank_shaped t a) _ timers_long.0 timers_long.1

  pub fresh : Fresh t a (opened_ring t a)
  unfolding opened_ring
  fresh =
      record {
        set = refl;
        alloc = refl;
        clock = refl;
        token = refl;
        trts = trts;
        lates = lates;
        timers = opened_timer t a h;
        sents = zero_at;
        unused = unused;
        rests = zero_at;
        had = zero_at;
        arrivals = zero_at;
        marks = zero_at;
        lasts = zero_at;
        visits = refl;
        shaped = shaped;
      }

  -- ---- sound

  timely_sound_lem : ¬ Fddi t → TimelySound (opened_ring t a)
  unfolding opened_ring
  timely_sound_lem n =
      record {
        trts = λ i l. omega (arith, trts n i l, silent_small t a h i l);
        unused = unused ∙ sum_same t.n (at a.s) (λ i. at a.s i - at zeros i) (λ i l. omega (arith, zero_at i));
      }

  pub opened_sound : Sound (opened_ring t a)
  unfolding opened_ring
  opened_sound =
      record {
        plan = h;
        token = ((given_none t a).0 h).0.0;
        timers = record { timely = timely_sound_lem; fddi = λ e. record { timers = opened_below t a h e; lates = opened_few t a h e } };
        sents = λ i l. omega (arith, zero_at i);
        rests = λ i l. omega (arith, zero_at i);
        arrivals = λ i l. omega (arith, zero_at i);
        clock = omega arith;
        visits = omega arith;
      }
