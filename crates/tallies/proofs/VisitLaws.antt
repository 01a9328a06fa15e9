-- The numbers behind one visit: each column has one place of the station, and no other place is touched.
use Rattle.std.proofs.Common.{◌≡◌, ℕ, ◌+◌, ◌%◌, ◌<◌, max, true, false, eqb, leb, ◌≢◌, List, length, set, arith, length-set, get_or-set_other, get_or-set_same, leb-true}
use borrow.Author.Tests.{eqb-false}
use Rattle.units.specs.Places.{at}
use Rattle.log_records.specs.declared.VisitEntry.{VisitEntry}
use Rattle.tallies.specs.Laps.{wrapped}
use Rattle.tallies.specs.Tallies.{visits_column, through_column, last_column, longest_column, most_column, synchronous_column, asynchronous_column, switch_of, gap_of, visit_tallied}

-- two columns have two places of a station
columns_apart : (a b p : ℕ) → eqb a b ≡ false → a + p ≢ b + p
columns_apart a b p h e = eqb-false a b h (omega arith)

-- and a column two of two stations
stations_apart : (a b i p : ℕ) → a % 128 ≡ 0 → b % 128 ≡ 0 → i < 128 → p < 128 → i ≢ p → a + i ≢ b + p
stations_apart a b i p ha hb hi hp h e = h (omega arith)

-- what was stored in a column stands there
stored : (xs : List ℕ) (c p x : ℕ) → length xs ≡ 896 → p < 128 → leb (c + 128) 896 ≡ true → at (set xs (c + p) x) (c + p) ≡ x
stored xs c p x long known h = get_or-set_same xs (c + p) x 0 (omega (arith, leb-true (c + 128) 896 h))

module _ (xs : List ℕ) (p mark clock : ℕ) (v : VisitEntry) (long : length xs ≡ 896) where
  pub tallied_long : length (visit_tallied xs p mark clock v) ≡ 896
  unfolding visit_tallied
  tallied_long = simp length-set long

  module _ (known : p < 128) where
    -- the place of the station in each column
    pub visits_there : at (visit_tallied xs p mark clock v) (visits_column + p) ≡ wrapped (at xs (visits_column + p) + 1)
    unfolding visit_tallied
    visits_there = simp (get_or-set_other, stored, columns_apart, length-set, long)

    pub through_there : at (visit_tallied xs p mark clock v) (through_column + p) ≡ wrapped (at xs (through_column + p) + switch_of mark)
    unfolding visit_tallied
    through_there = simp (get_or-set_other, stored, columns_apart, length-set, long)

    pub last_there : at (visit_tallied xs p mark clock v) (last_column + p) ≡ clock
    unfolding visit_tallied
    last_there = simp (get_or-set_other, stored, columns_apart, length-set, long)

    pub longest_there : at (visit_tallied xs p mark clock v) (longest_column + p) ≡ max (at xs (longest_column + p)) (gap_of (at xs (visits_column + p)) (at xs (last_column + p)) clock)
    unfolding visit_tallied
    longest_there = simp (get_or-set_other, stored, columns_apart, long)

    pub most_there : at (visit_tallied xs p mark clock v) (most_column + p) ≡ max (at xs (most_column + p)) v.synchronous
    unfolding visit_tallied
    most_there = simp (get_or-set_other, stored, columns_apart, length-set, long)

    pub synchronous_there : at (visit_tallied xs p mark clock v) (synchronous_column + p) ≡ wrapped (at xs (synchronous_column + p) + v.synchronous)
    unfolding visit_tallied
    synchronous_there = simp (get_or-set_other, stored, columns_apart, length-set, long)

    pub asynchronous_there : at (visit_tallied xs p mark clock v) (asynchronous_column + p) ≡ wrapped (at xs (asynchronous_column + p) + v.asynchronous)
    unfolding visit_tallied
    asynchronous_there = simp (get_or-set_other, stored, columns_apart, length-set, long)

    -- every other place
    pub elsewhere : (c i : ℕ) → c % 128 ≡ 0 → i < 128 → i ≢ p → at (visit_tallied xs p mark clock v) (c + i) ≡ at xs (c + i)
    unfolding visit_tallied
    elsewhere c i whole inside other = simp (get_or-set_other, stations_apart)
