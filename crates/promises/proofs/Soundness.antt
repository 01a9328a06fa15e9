-- What a run keeps makes its ring sound: every line of 01's list holds, whatever the mode; the lines of the timers by it.
use Prim.Native.Nat.{ℕ, ◌<◌}
use mathlib.Core.Path.{◌≡◌}
use mathlib.Core.Bool.{true}
use mathlib.Core.List.{List}
use native.Mathlib.Omega.{arith}
use Rattle.units.specs.Places.{at}
use Rattle.sets.specs.declared.Set.{Set}
use Rattle.plans.specs.declared.Alloc.{Alloc}
use Rattle.rings.specs.Sound.{is_sound}
use Rattle.rings.specs.Timers.{TimersSound}
use Rattle.rings.proofs.RingLaws.{sound_tests}
use Rattle.rings.specs.declared.Ring.{Ring}
use Rattle.rings.specs.declared.VisitRecord.{VisitRecord}
use Rattle.promises.specs.Facts.{timing}
use Rattle.promises.proofs.Sums.{sum_lacking}
use Rattle.promises.proofs.Course.{Plan, Course, InRange}
use Rattle.promises.proofs.Stores.{Stored}
use Rattle.promises.proofs.Timing.{Timed, never_late}
use Rattle.promises.proofs.Laps.{Lapped, late_small}

module _ (t : Set) (a : Alloc) (r : Ring) (h : List VisitRecord) (P : Plan t a) where
  -- ---- the timers

  pub timed_sound : Timed t a (timing r) h → TimersSound r
  timed_sound T =
      let C = T.course in
      record {
        timely = λ _.
            record {
              trts = rw C.set (λ i l. omega (arith, never_late t a (timing r) h T i l, C.sents i l));
              unused = rw (C.set, C.alloc) (omega (arith, T.unused, sum_lacking t.n (at r.sent) (at a.s) C.sents));
            };
        fddi = rw C.set (λ e. absurd (T.mode e));
      }

  pub lapped_sound : Lapped t a (timing r) h → TimersSound r
  lapped_sound T =
      record {
        timely = rw T.course.set (λ n. absurd (n T.mode));
        fddi = λ _.
            record {
              timers = rw T.course.set T.below;
              lates = rw T.course.set (λ i l. omega (arith, late_small t a (timing r) h P T i l));
            };
      }

  -- ---- all of it

  pub is_sound_lem : Course t a (timing r) h → InRange t (timing r) → TimersSound r → ((i : ℕ) → i < t.n → Stored t r i) → is_sound r ≡ true
  is_sound_lem C range timers K =
      sound_tests r
      (record {
        plan = rw (C.set, C.alloc) P.judged;
        token = rw C.set C.token;
        timers = timers;
        sents = rw (C.set, C.alloc) C.sents;
        rests = rw C.set (λ i l. (K i l).small);
        arrivals = rw C.set (λ i l. (K i l).range);
        clock = omega (arith, range.clock, P.rotation.1);
        visits = omega (arith, range.bounded);
      })
