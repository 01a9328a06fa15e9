-- The asynchronous amount of a record: which amounts some request in frames gives.
use Rattle.std.specs.Prelude.{ℕ, zero, suc, ◌+◌, ◌%◌, Bool, false, ◌&&◌, ◌||◌, ◌==◌, nat_le, nat_lt}

-- the test f holds at one of the places 0 to n − 1
unfoldable pub any_below : ℕ → (ℕ → Bool) → Bool
any_below zero f = false
any_below (suc n) f = any_below n f || f n

-- frames of this length give the amount at this limit: it is a whole number of them, and the last one began below the limit
abbrev pub given_by : ℕ → ℕ → ℕ → Bool
given_by limit amount length = amount % length == 0 && nat_lt amount (limit + length)

-- the amount is nothing, or frames of some length from 1 to the longest give it
unfoldable pub frames_fit : ℕ → ℕ → ℕ → Bool
frames_fit limit longest amount = amount == 0 || any_below longest (λ k. given_by limit amount (k + 1))

-- some number from low to high, low above 0, divides the amount
unfoldable pub divided_between : ℕ → ℕ → ℕ → Bool
divided_between amount low high = any_below high (λ k. (amount % (k + 1) == 0) && nat_le low (k + 1))
