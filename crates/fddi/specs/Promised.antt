-- What is promised of FDDI's rules, beside the contracts; `proofs/Promised.antt` proves it. A vector is any function from station numbers to numbers.
use Rattle.std.specs.Prelude.{ℕ, ◌+◌, ◌-◌, ◌*◌, ◌≤◌, ◌<◌, ◌≡◌}
use Rattle.units.specs.Places.{sum_below}
use Rattle.units.specs.Vectors.{whole_rotations, SameTerms}
use Rattle.fddi.specs.Rules.{stations, rest, least_time, others, terms_of, SameLoad}
use Rattle.fddi.specs.Cases.{Cases}
use Rattle.fddi.specs.declared.Load.{Load}

-- X in the three regions of 003, (3.2), where D has at least one rotation
pub record Regions (ttrt d away s : ℕ) : Type 0 where
  -- the rest of D has room for all that is taken: q whole shares
  pub first : away + s ≤ rest ttrt d → least_time ttrt d away s ≡ whole_rotations ttrt d * s
  -- it has room for a part of the station's own: X = (q − 1)·S + r − away, written without the second difference
  pub second : away < rest ttrt d
      → rest ttrt d < away + s → least_time ttrt d away s + away ≡ (whole_rotations ttrt d - 1) * s + rest ttrt d
  -- it has none: q − 1 shares
  pub third : rest ttrt d ≤ away → least_time ttrt d away s ≡ (whole_rotations ttrt d - 1) * s

pub record Promised : Type 0 where
  -- X is 003's
  pub regions : (ttrt d away s : ℕ) → 0 < whole_rotations ttrt d → Regions ttrt d away s
  -- for q = 0, X is 0
  pub no_rotation : (ttrt d away s : ℕ) → whole_rotations ttrt d ≡ 0 → least_time ttrt d away s ≡ 0
  -- the others' S and the station's own are all S
  pub all_stations : (l : Load) (s : ℕ → ℕ) (i : ℕ)
      → i < stations l → others (stations l) s i + s i ≡ sum_below (stations l) s
  -- places from N on are never looked at, in what a vector is held to: so neither in the rules nor in their test
  pub first_places_terms : (a b : Load) → SameLoad a b → SameTerms (terms_of a) (terms_of b)
  -- given vectors that a person can check by hand meet the rules or break one, as their table says
  pub cases : Cases
