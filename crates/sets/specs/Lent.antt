-- A set whose arrays are lent one by one.
use Rattle.std.specs.Prelude.{ℕ, Bool, List}
use Rattle.units.specs.Places.{at}
use Rattle.sets.specs.Rules.{station_in_range}
use Rattle.sets.specs.declared.Head.{Head}
use Rattle.sets.specs.declared.Set.{Set}

-- the set of a header, N, and what w, C, D and P hold
abbrev pub set_of : Head → ℕ → List ℕ → List ℕ → List ℕ → List ℕ → Set
set_of head n w c d p = record { head = head; n = n; w = w; c = c; d = d; p = p }

-- the test of station i
abbrev pub in_range_in : List ℕ → List ℕ → List ℕ → List ℕ → ℕ → Bool
in_range_in w c d p i = station_in_range (at w i) (at c i) (at d i) (at p i)
