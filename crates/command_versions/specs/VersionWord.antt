-- The word by which a version is asked for: a whole number, of any size.
use Rattle.std.specs.Prelude.{ℕ, cond, List, eqb}
use Rattle.number_words.specs.Words.{value_in}

-- the version that it asks for; 0, which no version has, for a number of more than 32 bits
abbrev pub version_asked : List ℕ → ℕ
version_asked word = cond (eqb (value_in word) 4_294_967_296) 0 (value_in word)
