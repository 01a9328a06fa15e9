-- Cases that a person can check by hand.
use Rattle.std.specs.Prelude.{◌≡◌}
use Rattle.sets.specs.declared.Set.{Set}
use Rattle.reasons.specs.Cases.{four}
use Rattle.tuning.specs.Tunings.{tuned}

-- the worked run's four stations: C 20, D 100, τ 2, and its own TTRT 100
abbrev pub worked : Set
worked = four 1 1

pub record Cases : Type 0 where
  -- from 60 to 100 one whole rotation fits into D, and S is 20 at each station; at 101 and 102 none does, and S is 21 and 22. A* is 16, 17, 18, 15 and 12, and 18 of 100 is the largest part
  pub around : tuned worked 98 5
      ≡ record { count = 5; smallest = 98; largest = 102; below = 99; above = 101; best = 100; spare = 18 }
  -- at 52 S is 12 at each station, and 50 ticks are needed; at 53 it is 13, and 54 are: a larger TTRT may have no plan where a smaller one has
  pub falls : tuned worked 52 2
      ≡ record { count = 1; smallest = 52; largest = 52; below = 52; above = 0; best = 52; spare = 2 }
  -- from 60 on S is 20, and 82 is enough again, with nothing spare
  pub rises : tuned worked 81 2
      ≡ record { count = 1; smallest = 82; largest = 82; below = 82; above = 0; best = 82; spare = 0 }
  -- at TTRT 1 τ is above it
  pub none : (tuned worked 1 1).count ≡ 0
