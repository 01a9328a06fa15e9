-- What is promised of words that write whole numbers; `proofs/Promised.antt` proves it.
use Rattle.std.specs.Prelude.{ℕ, ◌<◌, ◌^◌, min, ◌≡◌, true, List}
use Rattle.text.specs.Text.{decimal_of}
use Rattle.text.specs.Promised.{value_on}
use Rattle.number_words.specs.Words.{is_whole, value_in}

pub record Promised : Type 0 where
  -- a word's number is the one that its digits write, with zeros in front or without; of more than 32 bits the first above all of these
  pub written : (word : List ℕ) → value_in word ≡ min (value_on 0 word) 4_294_967_296
  -- every number that is printed is a whole number
  pub whole : (n : ℕ) → is_whole (decimal_of n) ≡ true
  -- and is read back, if it has 32 bits
  pub printed : (n : ℕ) → n < 2 ^ 32 → value_in (decimal_of n) ≡ n
