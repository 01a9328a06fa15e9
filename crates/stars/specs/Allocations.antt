-- The ★ cases of 01, "Allocations": rows of numbers, and what it means that they hold.
use Rattle.std.specs.Prelude.{ℕ, ◌-◌, ◌≡◌, List, [], ◌∷◌, ◌++◌, length, replicate}
use Rattle.units.specs.Numbers.{timely}
use Rattle.units.specs.Places.{at}
use Rattle.sets.specs.declared.Set.{Set}
use Rattle.plans.specs.Rules.{spare_time}
use Rattle.plans.specs.Answer.{Fitting}
use Rattle.plans.specs.Promised.{SmallestOfAll}

-- ---- one station: D, C and S at TTRT 100

pub record Case : Type 0 where
  pub d : ℕ
  pub c : ℕ
  pub s : ℕ

abbrev case : ℕ → ℕ → ℕ → Case
case d c s = record { d = d; c = c; s = s }

abbrev pub cases : List Case
cases =
    case 250 30 15 ∷
    case 250 100 50 ∷
    case 250 101 51 ∷
    case 250 130 60 ∷
    case 60 10 50 ∷
    case 60 0 0 ∷
    []

-- S is the smallest number that meets the deadline rule
abbrev pub CaseHolds : Case → Type 0
CaseHolds r = SmallestOfAll 100 r.c r.d r.s

-- ---- whole sets: the answer that 01's sentences ask for, and the spare time

-- 128 places: these, then zeros
abbrev pub places : List ℕ → List ℕ
places xs = xs ++ replicate (128 - length xs) 0

-- a timely-token set of TTRT and, station by station, w, C and D; P, which the cases leave open, is D
abbrev pub set_of : ℕ → List ℕ → List ℕ → List ℕ → Set
set_of ttrt w c d =
    record {
      head = record { ttrt = ttrt; mode = timely; frame = 1; grid = 1 };
      n = length w;
      w = places w;
      c = places c;
      d = places d;
      p = places d;
    }

pub record SetCase : Type 0 where
  pub set : Set
  pub number : ℕ
  pub s : List ℕ
  pub spare : ℕ

-- accepted, with these S and this A*
abbrev plan : Set → List ℕ → ℕ → SetCase
plan t s spare = record { set = t; number = 0; s = s; spare = spare }

-- refused, with this number
abbrev refused : Set → ℕ → SetCase
refused t number = record { set = t; number = number; s = []; spare = 0 }

abbrev pub set_cases : List SetCase
set_cases =
    -- τ 2, two stations of D 60, C 9: S 49 and 49, A* 0
    plan (set_of 100 (1 ∷ 1 ∷ []) (9 ∷ 9 ∷ []) (60 ∷ 60 ∷ [])) (49 ∷ 49 ∷ []) 0 ∷
    -- the same with C 10: 6
    refused (set_of 100 (1 ∷ 1 ∷ []) (10 ∷ 10 ∷ []) (60 ∷ 60 ∷ [])) 6 ∷
    -- TTRT 1, τ 1, one station D 1, C 0: accepted, S 0
    plan (set_of 1 (1 ∷ []) (0 ∷ []) (1 ∷ [])) (0 ∷ []) 0 ∷
    -- with C 1: 6
    refused (set_of 1 (1 ∷ []) (1 ∷ []) (1 ∷ [])) 6 ∷
    []

-- the answer is the one that fits the set, and a plan's spare time is A*
pub record SetCaseHolds (r : SetCase) : Type 0 where
  pub answer : Fitting r.set (record { alloc = record { s = places r.s }; number = r.number })
  pub spare : r.number ≡ 0 → spare_time r.set (at r.s) ≡ r.spare

-- ---- the table holds

abbrev pub Every : {A : Type 0} → (A → Type 0) → List A → Type 0
Every P [] = Unit {0}
Every P (x ∷ xs) = P x × Every P xs

pub record Allocations : Type 0 where
  pub stations : Every CaseHolds cases
  pub sets : Every SetCaseHolds set_cases
