-- What is promised of text beside the contracts; `proofs/Promised.antt` proves it.
use Rattle.std.specs.Prelude.{ℕ, ◌+◌, ◌-◌, ◌*◌, ◌<◌, ◌^◌, ◌≡◌, List, [], ◌∷◌}
use Rattle.text.specs.Text.{PutWithin, decimal_of}

-- the number that decimal digits write, behind those of a number before them
unfoldable pub value_on : ℕ → List ℕ → ℕ
value_on v [] = v
value_on v (d ∷ ds) = value_on (v * 10 + (d - 48)) ds

pub record Promised : Type 0 where
  -- the digits of a 64-bit number write that number
  pub decimal : (n : ℕ) → n < 2 ^ 64 → value_on 0 (decimal_of n) ≡ n
  -- whatever is put, and whether or not there is room for it, the contract leaves no second page and no second answer
  pub put_decided : (most : ℕ) (before : List ℕ) (a : ℕ) (segment : List ℕ) (after after' : List ℕ) (r r' : ℕ)
      → PutWithin most before a segment after r
      → PutWithin most before a segment after' r' → (after ≡ after') × (r ≡ r')
