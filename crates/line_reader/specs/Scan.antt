-- How a line of text is read, byte after byte: a word, and up to five numbers behind it. Blanks part them; what follows `#` is passed over.
use Rattle.std.specs.Prelude.{ℕ, ◌+◌, ◌-◌, ◌*◌, ◌^◌, min, Bool, cond, not, ◌&&◌, ◌||◌, List, [], ◌∷◌, ltb, leb, eqb, replicate, set}
use Rattle.units.specs.Places.{at}
use Rattle.line_reader.specs.declared.Scan.{Scan}

-- ---- kinds of bytes

-- a space, a tab or a carriage return
abbrev pub is_blank : ℕ → Bool
is_blank b = eqb b 32 || eqb b 9 || eqb b 13

-- 0 to 9
abbrev pub is_digit : ℕ → Bool
is_digit b = leb 48 b && leb b 57

-- a to z
abbrev pub is_letter : ℕ → Bool
is_letter b = leb 97 b && leb b 122

-- `#`
abbrev pub hash : ℕ
hash = 35

-- ---- where in a line the reading stands

abbrev pub between : ℕ
between = 0

abbrev pub in_word : ℕ
in_word = 1

abbrev pub in_number : ℕ
in_number = 2

abbrev pub in_comment : ℕ
in_comment = 3

abbrev pub unreadable : ℕ
unreadable = 4

-- nothing was read yet
abbrev pub fresh_scan : Scan
fresh_scan = record { values = replicate 5 0; word = 0; count = 0; phase = between }

-- the same, in another phase
abbrev pub in_phase : Scan → ℕ → Scan
in_phase s phase = record { values = s.values; word = s.word; count = s.count; phase = phase }

-- ---- one byte more

-- a letter of the first word, which has at most eight
unfoldable pub letter_read : Scan → ℕ → Scan
letter_read s b =
    cond (is_letter b && ltb s.word (2 ^ 56))
    (record { values = s.values; word = s.word * 256 + b; count = s.count; phase = in_word })
    (in_phase s unreadable)

-- the first digit of a number; a line has at most five numbers
unfoldable pub number_begun : Scan → ℕ → Scan
number_begun s b =
    cond (is_digit b && ltb s.count 5)
    (record { values = set s.values s.count (b - 48); word = s.word; count = s.count + 1; phase = in_number })
    (in_phase s unreadable)

-- the number that is being read, with one more digit
abbrev pub longer : Scan → ℕ → ℕ
longer s b = at s.values (s.count - 1) * 10 + (b - 48)

-- a further digit of a number, which stays below 2 ^ 64
unfoldable pub digit_read : Scan → ℕ → Scan
digit_read s b =
    cond (is_digit b && (leb 1 s.count && leb s.count 5))
    (cond (ltb (longer s b) (2 ^ 64))
    (record { values = set s.values (s.count - 1) (longer s b); word = s.word; count = s.count; phase = in_number })
    (in_phase s unreadable))
    (in_phase s unreadable)

-- a byte of a word or a number
unfoldable pub character_read : Scan → ℕ → Scan
character_read s b =
    cond (eqb s.phase in_number) (digit_read s b)
    (cond (eqb s.phase in_word || eqb s.word 0) (letter_read s b) (number_begun s b))

-- one byte more of the line
unfoldable pub stepped : Scan → ℕ → Scan
stepped s b =
    cond (eqb s.phase in_comment || eqb s.phase unreadable) s
    (cond (eqb b hash) (in_phase s in_comment)
    (cond (is_blank b) (in_phase s between) (character_read s b)))

-- ---- a line that was read

-- the line could be read
abbrev pub is_readable : Scan → Bool
is_readable s = not (eqb s.phase unreadable)

-- nothing stands in the line, or a comment alone
abbrev pub is_empty_line : Scan → Bool
is_empty_line s = is_readable s && eqb s.word 0

-- the letters of a word as one number to base 256, as a scan has them
abbrev pub code_on : ℕ → List ℕ → ℕ
code_on code [] = code
code_on code (letter ∷ letters) = code_on (code * 256 + letter) letters

abbrev pub code_of : List ℕ → ℕ
code_of word = code_on 0 word

-- the number of the next line; it stays at the largest 64-bit number
abbrev pub next_line : ℕ → ℕ
next_line n = min (n + 1) 18_446_744_073_709_551_615
