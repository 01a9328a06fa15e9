-- FDDI's rules keep their promises because X is the definition's in each region, and looks at the first N places alone.
use Prim.Native.Nat.{ℕ, zero, suc, ◌+◌, ◌-◌, ◌*◌, ◌<◌}
use mathlib.Core.Path.{◌≡◌, refl}
use native.Mathlib.Omega.{arith}
use native.Mathlib.Nat.{suc-mul}
use Rattle.units.specs.Places.{sum_below}
use Rattle.units.proofs.PlaceLaws.{sum_same}
use Rattle.units.specs.Vectors.{whole_rotations, SameTerms}
use Rattle.fddi.specs.Rules.{stations, rest, time_with, others, terms_of, SameLoad}
use Rattle.fddi.specs.Promised.{Regions, Promised}
use Rattle.fddi.specs.declared.Load.{Load}
use Rattle.fddi.proofs.Laws.{time_some, others_own}
use Rattle.fddi.proofs.Cases.{cases_hold}

-- ---- X in its three regions

one_share : (q s : ℕ) → 0 < q → q * s ≡ (q - 1) * s + s
one_share zero s h = absurd (omega arith)
one_share (suc k) s h =
    let e : suc k - 1 ≡ k = omega arith in
    rw e (suc-mul k s)

regions : (ttrt d away s : ℕ) → 0 < whole_rotations ttrt d → Regions ttrt d away s
regions ttrt d away s some =
    let e = time_some (whole_rotations ttrt d) (rest ttrt d - away) s some in
    let whole : whole_rotations ttrt d * s ≡ (whole_rotations ttrt d - 1) * s + s = one_share (whole_rotations ttrt d) s some in
    record {
      first = λ h. omega arith;
      second = λ h k. omega arith;
      third = λ h. omega arith;
    }

-- ---- places from N on are never looked at

terms_same : (a b : Load) → SameLoad a b → SameTerms (terms_of a) (terms_of b)
terms_same a b same =
    let n : stations a ≡ stations b = rw same.count in
    record {
      count = n;
      ttrt = same.ttrt;
      lost = same.lost;
      grid = same.grid;
      longest = same.longest;
      time = λ s v each i l.
          let sums : sum_below (stations a) s ≡ sum_below (stations a) v = sum_same (stations a) s v each in
          let away : others (stations a) s i ≡ others (stations a) v i = omega (arith, each i l, others_own (stations a) s i l, others_own (stations a) v i l) in
          rw (away, same.lost, n, same.ttrt, same.deadline i l, each i l);
    }

pub promised : Promised
unfolding time_with
promised =
    record {
      regions = regions;
      no_rotation = λ ttrt d away s none. rw none refl;
      all_stations = λ l. others_own (stations l);
      first_places_terms = terms_same;
      cases = cases_hold;
    }
