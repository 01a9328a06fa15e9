-- A run on a grid above 1: the controller holds S in steps of 8 ticks, so S is 16 where 15 would do, and a message that takes two visits is sent in time.
use Rattle.std.specs.Prelude.{ℕ, ◌≡◌, [], ◌∷◌, pos}
use Rattle.units.specs.Numbers.{timely, fddi, earlier}
use Rattle.units.specs.Places.{at}
use Rattle.sets.specs.declared.Set.{Set}
use Rattle.plans.specs.Rules.{spare_time}
use Rattle.plans.specs.Planned.{judged_plan, planned}
use Rattle.plans.specs.declared.Alloc.{Alloc}
use Rattle.rings.specs.Opening.{opening}
use Rattle.promises.specs.Run.{records_of}
use Rattle.promises.specs.Witness.{two, shares, completed, row}

-- the set of `Witness` on a grid of 8: TTRT 100, w 1 each; station 0 has C 30, D 250, P 250
abbrev pub eights : ℕ → Set
eights mode =
    record {
      head = record { ttrt = 100; mode = mode; frame = 1; grid = 8 };
      n = 2;
      w = two 1 1;
      c = two 30 0;
      d = two 250 100;
      p = two 250 100;
    }

-- S 16 and 0, in every mode
abbrev pub sixteen : Alloc
sixteen = record { s = two 16 0 }

pub record GridHappens : Type 0 where
  -- planning gives this plan in both editions, and it meets the rules in every mode
  pub plan : planned (eights timely) ≡ record { alloc = sixteen; number = 0 }
  pub earlier_plan : planned (eights earlier) ≡ record { alloc = sixteen; number = 0 }
  pub judged : judged_plan (eights timely) sixteen ≡ 0
  pub older_judged : judged_plan (eights fddi) sixteen ≡ 0
  -- of FDDI none is planned or opened any more
  pub older_not_planned : (planned (eights fddi)).number ≡ 16
  pub older_not_opened : (opening (eights fddi) sixteen).number ≡ 16
  -- the smallest S, 15, is off the grid
  pub off : judged_plan (eights timely) shares ≡ 7
  -- the ticks that the step costs come off A*: 100 − 2 − 16
  pub spare : spare_time (eights timely) (at sixteen.s) ≡ 82
  -- 16 of the message are sent at the first visit and 14 at the second, which ends 136 ticks before the deadline
  pub records : records_of (eights timely) sixteen completed
      ≡ row 0 100 100 0 14 0 114 (pos 136) 1 ∷ row 1 99 100 0 0 0 0 (pos 0) 0 ∷ row 0 0 2 82 16 82 0 (pos 0) 0 ∷ []
