-- The lines that a text may have, by their words: how many numbers each has, how large these may be, and what begins a line.
use Rattle.std.specs.Prelude.{ℕ, ◌+◌, Bool, cond, ◌&&◌, ◌||◌, leb, ltb, eqb}
use Rattle.units.specs.Places.{at}
use Rattle.line_reader.specs.Scan.{code_of, is_readable}
use Rattle.line_reader.specs.declared.Scan.{Scan}
use Rattle.command_compose.specs.Compose.{ttrt_word, mode_word, frame_word, grid_word, station_word, visit_word, mark_word}

-- a line of one number: `ttrt`, `mode`, `frame` or `grid`
unfoldable pub is_single : ℕ → Bool
is_single word =
    (eqb word (code_of ttrt_word) || eqb word (code_of mode_word))
    || (eqb word (code_of frame_word) || eqb word (code_of grid_word))

-- how many numbers a line has at least, by its word: `station` 4, `visit` 5, `mark` 2; 0 where no line begins so
unfoldable pub least_of : ℕ → ℕ
least_of word =
    cond (is_single word) 1
    (cond (eqb word (code_of station_word)) 4
    (cond (eqb word (code_of visit_word)) 5 (cond (eqb word (code_of mark_word)) 2 0)))

-- and at most: a station of a plan has S too
unfoldable pub most_of : ℕ → ℕ
most_of word = cond (eqb word (code_of station_word)) 5 (least_of word)

-- number k of a line is one of a byte: a visit's station, both numbers of a mark
unfoldable pub is_byte : ℕ → ℕ → Bool
is_byte word k = (eqb word (code_of visit_word) && eqb k 1) || (eqb word (code_of mark_word) && leb k 2)

-- the largest that number k may be
unfoldable pub limit_of : ℕ → ℕ → ℕ
limit_of word k = cond (is_byte word k) 255 4_294_967_295

-- every number that was read is at most as large as it may be
unfoldable pub fits : Scan → Bool
fits s =
    leb (at s.values 0) (limit_of s.word 1)
    && (leb (at s.values 1) (limit_of s.word 2)
    && (leb (at s.values 2) 4_294_967_295
    && (leb (at s.values 3) 4_294_967_295 && leb (at s.values 4) 4_294_967_295)))

-- what was read of a line begins one: no word yet, or a line's word with no number too many or too large
unfoldable pub begins : Scan → Bool
begins s =
    is_readable s
    && (eqb s.word 0 || (leb 1 (most_of s.word) && (leb s.count (most_of s.word) && fits s)))

-- it is a line that can be read: it begins one, and no number is missing
unfoldable pub is_read : Scan → Bool
is_read s = begins s && leb (least_of s.word) s.count

-- the place of the next word: 0 for the first, else the number that it would be; behind five numbers 6
unfoldable pub place_of : Scan → ℕ
place_of s = cond (eqb s.word 0) 0 (cond (ltb s.count 5) (s.count + 1) 6)
