-- A word that writes a whole number, of any size.
use Rattle.std.specs.Prelude.{ℕ, zero, suc, ◌+◌, ◌-◌, ◌*◌, min, Bool, false, cond, ◌&&◌, List, leb, eqb, length}
use Rattle.units.specs.Places.{at, all_below}

-- a digit's byte
abbrev pub is_digit : ℕ → Bool
is_digit b = leb 48 b && leb b 57

-- a whole number: a digit or more, and nothing else
unfoldable pub is_whole : List ℕ → Bool
is_whole word = cond (eqb (length word) 0) false (all_below (length word) (λ i. is_digit (at word i)))

-- a number with one digit more; it stays at the first above all numbers of 32 bits
abbrev pub grown : ℕ → ℕ → ℕ
grown value b = min (value * 10 + (b - 48)) 4_294_967_296

-- the number that the first digits write
unfoldable pub first_digits : ℕ → List ℕ → ℕ
first_digits zero word = 0
first_digits (suc i) word = grown (first_digits i word) (at word i)

-- the number that all of them write, held at the first above all numbers of 32 bits
abbrev pub value_in : List ℕ → ℕ
value_in word = first_digits (length word) word
