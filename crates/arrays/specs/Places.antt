-- What a loop asks or makes at each of the 128 places, as a function: `post` is what a call at a place may answer.
use Rattle.std.specs.Prelude.{ℕ, ◌<◌, ◌≡◌, Bool}

-- the test answers p at each place
abbrev pub Told : (ℕ → Bool → Type 0) → (ℕ → Bool) → Type 0
Told post p = (i : ℕ) (r : Bool) → i < 128 → post i r → r ≡ p i

-- of the number x at place i is made f i x
abbrev pub Made : (ℕ → ℕ → ℕ → Type 0) → (ℕ → ℕ → ℕ) → Type 0
Made post f = (i x r : ℕ) → i < 128 → post i x r → r ≡ f i x
