-- Lists of bytes put together: rows of like fields, and a segment laid into a buffer.
use Rattle.std.specs.Prelude.{ℕ, zero, suc, ◌+◌, List, [], ◌++◌, length, take, drop}

-- row 0, then row 1, up to row n − 1
unfoldable pub rows : ℕ → (ℕ → List ℕ) → List ℕ
rows zero f = []
rows (suc n) f = rows n f ++ f n

-- the buffer with the segment written from the place a on, all else as it was
unfoldable pub laid : List ℕ → ℕ → List ℕ → List ℕ
laid out a segment = take a out ++ segment ++ drop (a + length segment) out
