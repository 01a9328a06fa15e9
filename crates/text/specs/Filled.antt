-- Words with numbers among them: `#` stands for a number, the first for the first of them and so on; any other byte stands for itself.
use Rattle.std.specs.Prelude.{ℕ, zero, suc, ◌+◌, ◌≤◌, ◌<◌, ◌≡◌, cond, List, [], ◌∷◌, ◌++◌, eqb, length}
use Rattle.units.specs.Places.{at}
use Rattle.text.specs.Text.{decimal_of, PutWithin}
use Rattle.text.specs.declared.Page.{Page}

-- `#`
abbrev pub hole : ℕ
hole = 35

-- what a byte stands for, where this number is the next
unfoldable pub piece_of : ℕ → ℕ → List ℕ
piece_of byte n = cond (eqb byte hole) (decimal_of n) (byte ∷ [])

-- how many numbers are used behind a byte, where so many were before it
unfoldable pub used_by : ℕ → ℕ → ℕ
used_by used byte = cond (eqb byte hole) (used + 1) used

-- how many the first i bytes use
unfoldable pub used_in : List ℕ → ℕ → ℕ
used_in words zero = 0
used_in words (suc i) = used_by (used_in words i) (at words i)

-- what the first i bytes stand for
unfoldable pub filled_up_to : List ℕ → List ℕ → ℕ → List ℕ
filled_up_to words numbers zero = []
filled_up_to words numbers (suc i) = filled_up_to words numbers i ++ piece_of (at words i) (at numbers (used_in words i))

-- what all of them stand for
abbrev pub filled : List ℕ → List ℕ → List ℕ
filled words numbers = filled_up_to words numbers (length words)

-- words of at most 100 bytes were put, if the page has room for the most that they may stand for; longer ones are not
pub record PutFilled (words numbers before : List ℕ) (a : ℕ) (after : List ℕ) (r : ℕ) : Type 0 where
  pub fits : length words ≤ 100 → PutWithin 2_000 before a (filled words numbers) after r
  pub long : 100 < length words → (after ≡ before) × (r ≡ a)

-- the same of a page, which is as long as it was, and is the one that was lent
pub record PutsFilled (words numbers : List ℕ) (before after : Page) : Type 0 where
  pub filled : PutFilled words numbers before.bytes.now before.at after.bytes.now after.at
  pub size : length after.bytes.now ≡ length before.bytes.now
  pub same : after.bytes.ghost_name ≡ before.bytes.ghost_name
