-- The ★ cases hold because the formula and planning compute to the table's numbers, and both are what the rules ask.
use mathlib.Core.Path.{◌≡◌, refl}
use mathlib.Core.Logic.{◌≢◌}
use native.Mathlib.Omega.{arith}
use Rattle.units.specs.Places.{at, sum_below, all_below, fill}
use Rattle.units.specs.Judging.{or_else}
use Rattle.sets.specs.Rules.{head_in_range, station_in_range}
use Rattle.sets.specs.Judged.{judged_then}
use Rattle.plans.specs.Rules.{time_at, spare_time}
use Rattle.plans.specs.Planned.{smallest_for, smallest_with, answered, planned}
use Rattle.plans.proofs.Promised.{promised}
use Rattle.stars.specs.Allocations.{Case, CaseHolds, SetCase, SetCaseHolds, places, Allocations}

case_holds : (r : Case) → smallest_for 1 100 r.c r.d ≡ r.s → CaseHolds r
case_holds r e = rw (← e) ((promised.every_number 100 r.c r.d _).0 (promised.smallest 1 100 r.c r.d (omega arith)))

set_holds : (r : SetCase) → record { alloc = record { s = places r.s }; number = r.number } ≡ planned r.set → spare_time r.set (at r.s) ≡ r.spare → SetCaseHolds r
set_holds r e spare = record { answer = (promised.one_answer r.set _).1 e; spare = λ _. spare }

none_holds : (r : SetCase) → record { alloc = record { s = places r.s }; number = r.number } ≡ planned r.set → r.number ≢ 0 → SetCaseHolds r
none_holds r e n = record { answer = (promised.one_answer r.set _).1 e; spare = λ h. absurd (n h) }

pub allocations : Allocations
unfolding time_at spare_time smallest_with judged_then or_else answered sum_below all_below fill head_in_range station_in_range
allocations =
    record {
      stations =
          (case_holds _ refl, (case_holds _ refl, (case_holds _ refl, (case_holds _ refl, (case_holds _ refl, (case_holds _ refl, tt))))));
      sets =
          (set_holds _ refl refl, (none_holds _ refl (omega arith), (set_holds _ refl refl, (none_holds _ refl (omega arith), tt))));
    }
