-- The word of a line that is being read: its first 64 bytes as they are shown, and whether the line can no longer be read behind it.
use Rattle.std.specs.Prelude.{ℕ, ◌+◌, Bool, false, cond, not, ◌&&◌, ◌||◌, leb, eqb, replicate, set}
use Rattle.line_reader.specs.Scan.{is_blank, hash, between, in_comment}
use Rattle.line_reader.specs.declared.Scan.{Scan}
use Rattle.text_faults.specs.Lines.{begins, place_of}
use Rattle.text_faults.specs.declared.Found.{Found}

-- a word ends at a blank and at the start of a comment
abbrev pub is_word_end : ℕ → Bool
is_word_end b = is_blank b || eqb b hash

-- a byte that no terminal shows as one sign is shown as `?`
unfoldable pub shown : ℕ → ℕ
shown b = cond (leb 33 b && leb b 126) b 63

-- no byte of the word at this place yet
abbrev pub nothing_found : ℕ → Found
nothing_found place = record { bytes = replicate 64 0; length = 0; place = place; stuck = false }

-- one byte more, of at most 64
unfoldable pub with_byte : Found → ℕ → Found
with_byte f b =
    cond (leb 64 f.length) f
    (record { bytes = set f.bytes f.length (shown b); length = f.length + 1; place = f.place; stuck = f.stuck })

-- a word ends: with it the line can no longer be read, if what was read so far begins none
unfoldable pub word_ended : Found → Scan → Found
word_ended f s =
    cond f.stuck f
    (record { bytes = f.bytes; length = f.length; place = f.place; stuck = not (begins s) })

-- one byte more of a line of which s was read: behind the word that is named, and in a comment, nothing is looked at
unfoldable pub found_on : Found → Scan → ℕ → Found
found_on f s b =
    cond (f.stuck || eqb s.phase in_comment) f
    (cond (is_word_end b) (word_ended f s)
    (cond (eqb s.phase between) (with_byte (nothing_found (place_of s)) b) (with_byte f b)))
