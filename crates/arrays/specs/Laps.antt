-- Numbers that run on by x and, on reaching a top, begin again: what they are then, and how often they have reached it. Two looks at the top are enough below three tops; `Promised` says so.
use Rattle.std.specs.Prelude.{ℕ, ◌+◌, ◌-◌, cond, List, leb}
use Rattle.units.specs.Places.{at, fill}
use Rattle.arrays.specs.Held.{held}

-- a number that has reached the top, less the top
unfoldable pub lapped : ℕ → ℕ → ℕ
lapped top t = cond (leb top t) (t - top) t

-- 1 where it has reached the top, else 0
unfoldable pub lap : ℕ → ℕ → ℕ
lap top t = cond (leb top t) 1 0

-- two looks: what is left, and how often the top was reached
abbrev pub lapped_twice : ℕ → ℕ → ℕ
lapped_twice top t = lapped top (lapped top t)

abbrev pub laps : ℕ → ℕ → ℕ
laps top t = lap top t + lap top (lapped top t)

-- each of the first n numbers has run on by x, held at the largest; a place past the end is none
unfoldable pub ran_on : ℕ → ℕ → ℕ → List ℕ → List ℕ
ran_on n x top xs = fill n (λ i. held (lapped_twice top (at xs i + x))) xs

-- each of the first n counts has risen by the laps of its number, held at the largest
unfoldable pub laps_counted : ℕ → ℕ → ℕ → List ℕ → List ℕ → List ℕ
laps_counted n x top xs counts = fill n (λ i. held (at counts i + laps top (at xs i + x))) counts
