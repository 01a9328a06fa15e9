-- Cases that a person can check by hand: loads, each with a given vector, and whether it meets 02's rules.
use Rattle.std.specs.Prelude.{ℕ, ◌-◌, List, [], ◌∷◌, ◌++◌, length, replicate}
use Rattle.units.specs.Places.{at}
use Rattle.units.specs.Vectors.{lost_time}
use Rattle.fddi.specs.Rules.{MeetsFddi}
use Rattle.fddi.specs.declared.Load.{Load}

-- 128 places: these, then zeros
abbrev pub places : List ℕ → List ℕ
places xs = xs ++ replicate (128 - length xs) 0

-- TTRT, τ, F and the grid, and station by station C and D
abbrev pub load_of : ℕ → ℕ → ℕ → ℕ → List ℕ → List ℕ → Load
load_of ttrt tau frame grid c d =
    record { n = length c; ttrt = ttrt; lost = lost_time tau frame; grid = grid; c = places c; d = places d }

-- a load, and S station by station
pub record Case : Type 0 where
  pub load : Load
  pub given : List ℕ

abbrev case : Load → List ℕ → Case
case l s = record { load = l; given = s }

-- one station at TTRT 100, τ 2, plain FDDI: D, C and S
abbrev one : ℕ → ℕ → ℕ → Case
one d c s = case (load_of 100 2 1 1 (c ∷ []) (d ∷ [])) (s ∷ [])

-- one station at TTRT 100, τ 2, F 10, D 220 and C 30: the grid and S
abbrev framed : ℕ → ℕ → Case
framed grid s = case (load_of 100 2 10 grid (30 ∷ []) (220 ∷ [])) (s ∷ [])

-- two stations at TTRT 100, τ 2, plain FDDI, both of C 20, D 150 and 250: their S
abbrev two : ℕ → ℕ → Case
two s₀ s₁ = case (load_of 100 2 1 1 (20 ∷ 20 ∷ []) (150 ∷ 250 ∷ [])) (s₀ ∷ s₁ ∷ [])

-- 003's example: τ 0, five stations of q 6, r 24, C 30, all of the same S
abbrev five : ℕ → Case
five s =
    case (load_of 30 0 1 1 (30 ∷ 30 ∷ 30 ∷ 30 ∷ 30 ∷ []) (204 ∷ 204 ∷ 204 ∷ 204 ∷ 204 ∷ [])) (s ∷ s ∷ s ∷ s ∷ s ∷ [])

-- these meet the rules
abbrev pub meeting : List Case
meeting =
    -- q 2, r 50: two shares of 15, and 2 + 15 is within 50
    one 250 30 15 ∷
    -- q 2, r 50: one share of 82, and 50 − 2 of the second
    one 250 130 82 ∷
    -- q 2, r 0: one share only
    one 200 30 30 ∷
    -- q 1, r 50: 48 is what τ leaves of the rest
    one 150 48 48 ∷
    -- q 0: nothing is sure, and a station without messages needs nothing
    one 60 0 0 ∷
    -- q 3, r 0: two shares of 98 fill the rotation
    one 300 196 98 ∷
    -- F 10: q 2, r 20: one share of 21, and 20 − 11 of the second; on a grid of 5 25 is the next
    framed 1 21 ∷
    framed 5 25 ∷
    -- the first: q 1, r 50, and 50 − 2 − 10 is enough for 20; the second: q 2, two shares of 10, and 2 + 20 + 10 is within 50
    two 20 10 ∷
    -- five shares of 6, and the rest is what the others take
    five 6 ∷
    []

-- these break one
abbrev pub breaking : List Case
breaking =
    -- two shares of 14 are 28
    one 250 30 14 ∷
    -- one share of 81 and 48 are 129
    one 250 130 81 ∷
    -- the second share is not sure
    one 200 30 29 ∷
    -- a larger S does not help: 48 is all that the rest leaves
    one 150 49 49 ∷
    one 150 49 98 ∷
    -- q 0: nothing is sure
    one 60 10 98 ∷
    -- two shares of 98 are 196; two of 99 would be enough, but with τ they are more than TTRT
    one 300 197 98 ∷
    one 300 197 99 ∷
    -- one share of 20 and 9 are 29; 24 is enough, but off the grid of 5
    framed 1 20 ∷
    framed 5 24 ∷
    -- the second counts its own S: 9 and 9 are 18; the first counts the second's: 50 − 2 − 29 is 19
    two 20 9 ∷
    two 20 29 ∷
    -- five shares of 5 and 24 − 20 are 29
    five 5 ∷
    []

-- the given vector meets the rules
abbrev pub Meets : Case → Type 0
Meets r = MeetsFddi r.load (at r.given)

-- it breaks one
abbrev pub Breaks : Case → Type 0
Breaks r = ¬ Meets r

abbrev pub Every : {A : Type 0} → (A → Type 0) → List A → Type 0
Every P [] = Unit {0}
Every P (x ∷ xs) = P x × Every P xs

-- every case is as its table says
pub record Cases : Type 0 where
  pub meet : Every Meets meeting
  pub break : Every Breaks breaking
