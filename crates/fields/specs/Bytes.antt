-- Numbers in bytes, the highest byte first ("all numbers big-endian").
use Rattle.std.specs.Prelude.{ℕ, ◌+◌, ◌*◌, ◌/◌, ◌%◌, ◌<◌, cond, List, [], ◌∷◌, eqb, length}
use Rattle.units.specs.Places.{at}

-- the number in the two bytes from the place a on
unfoldable pub short_at : List ℕ → ℕ → ℕ
short_at bs a = at bs a * 256 + at bs (a + 1)

-- the number in the four bytes from the place a on
unfoldable pub number_at : List ℕ → ℕ → ℕ
number_at bs a = at bs a * 16_777_216 + at bs (a + 1) * 65_536 + at bs (a + 2) * 256 + at bs (a + 3)

-- a number in four bytes
unfoldable pub bytes_of : ℕ → List ℕ
bytes_of x = x / 16_777_216 % 256 ∷ x / 65_536 % 256 ∷ x / 256 % 256 ∷ x % 256 ∷ []

-- the number in a body of one byte or of four
unfoldable pub body_at : ℕ → List ℕ → ℕ → ℕ
body_at size bs a = cond (eqb size 1) (at bs a) (number_at bs a)

-- a number in a body of one byte or of four
unfoldable pub body_of : ℕ → ℕ → List ℕ
body_of size x = cond (eqb size 1) (x % 256 ∷ []) (bytes_of x)

-- every element is a byte, as it is in any lent slice
abbrev pub AllBytes : List ℕ → Type 0
AllBytes bs = (i : ℕ) → i < length bs → at bs i < 256
