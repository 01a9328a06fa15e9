-- The fields of the header behind TTRT, one rule for all: the mode, tag 4, then F, tag 5, then g, tag 6. Each may be absent.
use Rattle.std.specs.Prelude.{ℕ, zero, suc, ◌+◌, ◌-◌, Bool, cond, List, eqb}
use Rattle.fields.specs.Bytes.{body_at}
use Rattle.fields.specs.Fields.{mode_tag, further_size, tag_at}

-- how many they are; their tags follow one another, from the mode's on
abbrev pub further_count : ℕ
further_count = 3

-- the number that an absent field means
abbrev pub absent : ℕ
absent = 1

-- the number that a field of the header gives: what its absence means where it is not there, else its own number.
-- But a field that is there and says what its absence means gives 0, which no range allows
unfoldable pub header_number : Bool → ℕ → ℕ
header_number there number = cond there (cond (eqb number absent) 0 number) absent

-- ---- where they stand

-- the place behind the field with this tag, if it stands at a; else a itself
unfoldable pub behind_tag : List ℕ → ℕ → ℕ → ℕ
behind_tag bs tag a = cond (eqb (tag_at bs a) tag) (a + 3 + further_size tag) a

-- the place of field k, the mode's being 0, if it is there: behind TTRT's 7 bytes and behind those before it that are there
unfoldable pub further_place : List ℕ → ℕ → ℕ
further_place bs zero = 7
further_place bs (suc k) = behind_tag bs (mode_tag + k) (further_place bs k)

-- the same by its tag: 7 for the mode; 7, or 11 behind the mode, for F; for g 7 more behind F
abbrev pub place_of : List ℕ → ℕ → ℕ
place_of bs tag = further_place bs (tag - mode_tag)

-- ---- what they say

-- the number in the body of the field with this tag at a
abbrev pub said_at : List ℕ → ℕ → ℕ → ℕ
said_at bs a tag = body_at (further_size tag) bs (a + 3)

-- the number that the header gives for this tag, if the field would stand at a
abbrev pub given_at : List ℕ → ℕ → ℕ → ℕ
given_at bs a tag = header_number (eqb (tag_at bs a) tag) (said_at bs a tag)
