-- What the small functions on bytes hand out, with the bounds that their callers need.
use Rattle.std.specs.Prelude.{ℕ, ◌<◌, ◌≡◌, List, length}
use Rattle.fields.specs.Bytes.{short_at, AllBytes}

-- r is the number in two bytes
pub record Short (bs : List ℕ) (a r : ℕ) : Type 0 where
  pub is : r ≡ short_at bs a
  pub small : r < 65_536

-- r is how many bytes were lent, and each of them is a byte
pub record LentBytes (bs : List ℕ) (r : ℕ) : Type 0 where
  pub count : r ≡ length bs
  pub all : AllBytes bs
