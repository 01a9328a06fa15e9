-- What is promised beside the contracts: where every number fits, none is held, and two looks at a top are enough below three tops. `proofs/Promised.antt` proves it.
use Rattle.std.specs.Prelude.{ℕ, ◌+◌, ◌*◌, ◌/◌, ◌%◌, ◌<◌, ◌^◌, ◌≡◌, List}
use Rattle.units.specs.Places.{at, sum_below, sum_from, fill, raise}
use Rattle.sets.specs.Judged.{zeros}
use Rattle.arrays.specs.Held.{raised_held, sums_to_last}
use Rattle.arrays.specs.Laps.{ran_on, laps_counted}

pub record Promised : Type 0 where
  -- where each of the first n places can rise by x, each has risen by x
  pub rise_fits : (n x : ℕ) (xs : List ℕ) → ((i : ℕ) → i < n → at xs i + x < 2 ^ 32) → raised_held n x xs ≡ raise n x xs
  -- where the sum of all fits, each place holds the whole sum from it on
  pub sums_fit : (n : ℕ) (xs : List ℕ)
      → sum_below n (at xs) < 2 ^ 32 → sums_to_last n xs ≡ fill n (λ i. sum_from i n (at xs)) zeros
  -- where each number and x are below three tops, each has lost the top as often as it has reached it
  pub run_fits : (n x top : ℕ) (xs : List ℕ)
      → 0 < top → top < 2 ^ 32 → ((i : ℕ) → i < n → at xs i + x < 3 * top)
      → ran_on n x top xs ≡ fill n (λ i. (at xs i + x) % top) xs
  -- and each count has risen by just as much
  pub laps_fit : (n x top : ℕ) (xs counts : List ℕ)
      → 0 < top → ((i : ℕ) → i < n → at xs i + x < 3 * top) → ((i : ℕ) → i < n → at counts i + 2 < 2 ^ 32)
      → laps_counted n x top xs counts ≡ fill n (λ i. at counts i + (at xs i + x) / top) counts
