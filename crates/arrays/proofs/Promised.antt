-- A number that fits is not held, because it is at most the largest; a sum from a place on is at most the whole; and two laps leave less than the top.
use Prim.Native.Nat.{ℕ, ◌+◌, ◌*◌, ◌/◌, ◌%◌, ◌<◌, ◌^◌}
use mathlib.Core.Path.{◌≡◌}
use mathlib.Core.List.{List}
use native.Mathlib.Omega.{arith}
use native.Mathlib.Nat.{mod-lt}
use Rattle.units.specs.Places.{at, sum_below, sum_from, fill, raise}
use Rattle.units.proofs.PlaceLaws.{fill_same, sum_split}
use Rattle.sets.specs.Judged.{zeros}
use Rattle.arrays.specs.Held.{held, raised_held, sums_to_last}
use Rattle.arrays.specs.Laps.{lapped, lapped_twice, laps, ran_on, laps_counted}
use Rattle.arrays.specs.Promised.{Promised}
use Rattle.arrays.proofs.LapLaws.{lap_small, twice_rest, twice_quotient}

rise_fits : (n x : ℕ) (xs : List ℕ) → ((i : ℕ) → i < n → at xs i + x < 2 ^ 32) → raised_held n x xs ≡ raise n x xs
unfolding raised_held raise
rise_fits n x xs small =
    fill_same n (λ i. held (at xs i + x)) (λ i. at xs i + x) xs (λ i l. omega (arith, small i l))

sums_fit : (n : ℕ) (xs : List ℕ) → sum_below n (at xs) < 2 ^ 32 → sums_to_last n xs ≡ fill n (λ i. sum_from i n (at xs)) zeros
unfolding sums_to_last
sums_fit n xs small =
    fill_same n (λ i. held (sum_from i n (at xs))) (λ i. sum_from i n (at xs)) zeros (λ i l. omega (arith, sum_split n (at xs) i (omega arith)))

run_fits : (n x top : ℕ) (xs : List ℕ) → 0 < top → top < 2 ^ 32 → ((i : ℕ) → i < n → at xs i + x < 3 * top) → ran_on n x top xs ≡ fill n (λ i. (at xs i + x) % top) xs
unfolding ran_on
run_fits n x top xs some small short =
    fill_same n (λ i. held (lapped_twice top (at xs i + x))) (λ i. (at xs i + x) % top) xs
    (λ i l. omega (arith, twice_rest top (at xs i + x) some (short i l), mod-lt (at xs i + x) some))

laps_fit : (n x top : ℕ) (xs counts : List ℕ) → 0 < top → ((i : ℕ) → i < n → at xs i + x < 3 * top) → ((i : ℕ) → i < n → at counts i + 2 < 2 ^ 32)
    → laps_counted n x top xs counts ≡ fill n (λ i. at counts i + (at xs i + x) / top) counts
unfolding laps_counted
laps_fit n x top xs counts some short small =
    fill_same n (λ i. held (at counts i + laps top (at xs i + x))) (λ i. at counts i + (at xs i + x) / top) counts
    (λ i l. omega
    (arith, twice_quotient top (at xs i + x) some (short i l), small i l, lap_small top (at xs i + x), lap_small top (lapped top (at xs i + x))))

pub promised : Promised
promised = record { rise_fits = rise_fits; sums_fit = sums_fit; run_fits = run_fits; laps_fit = laps_fit }
