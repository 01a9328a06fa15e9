-- The fields of a sheet: one tag byte, two length bytes, then the body. What may stand at a place, and what is found there.
use Rattle.std.specs.Prelude.{ℕ, zero, suc, ◌+◌, ◌-◌, ◌≤◌, ◌≡◌, Bool, true, cond, not, ◌&&◌, List, leb, ltb, eqb, length}
use Rattle.units.specs.Numbers.{accepted, cut_short, wrong_shape, most_stations}
use Rattle.units.specs.Places.{at}
use Rattle.units.specs.Judging.{or_else, between}
use Rattle.fields.specs.Bytes.{short_at}
use Rattle.fields.specs.declared.Passed.{Passed}
use Rattle.fields.specs.declared.Field.{Field}

-- ---- the tags, each with its one length

-- tag 1, length 4: TTRT
abbrev pub head_tag : ℕ
head_tag = 1

abbrev pub head_size : ℕ
head_size = 4

-- tag 2, length 16: w, C, D, P of a station
abbrev pub station_tag : ℕ
station_tag = 2

abbrev pub station_size : ℕ
station_size = 16

-- tag 3, length 4: S of a station
abbrev pub allocation_tag : ℕ
allocation_tag = 3

abbrev pub allocation_size : ℕ
allocation_size = 4

-- tag 4, length 1: the mode
abbrev pub mode_tag : ℕ
mode_tag = 4

abbrev pub mode_size : ℕ
mode_size = 1

-- tag 5, length 4: F, the longest frame
abbrev pub frame_tag : ℕ
frame_tag = 5

abbrev pub frame_size : ℕ
frame_size = 4

-- tag 6, as long as F's: g, the grid
abbrev pub grid_tag : ℕ
grid_tag = 6

-- tag 255, length 0: the end
abbrev pub end_tag : ℕ
end_tag = 255

abbrev pub end_size : ℕ
end_size = 0

-- ---- what may stand where

-- how many allocations a sheet with n stations has: a plan one for each station, a request none
abbrev pub allocations_for : Bool → ℕ → ℕ
allocations_for plan n = cond plan n 0

-- as many as belong to the stations that have passed
abbrev pub due : Passed → ℕ
due p = allocations_for p.plan p.stations

-- the first field of the header has passed
abbrev pub headed : Passed → Bool
headed p = leb head_tag p.head

-- a row of the table: what holds for this tag; any other tag goes by the rest
abbrev pub row : ℕ → ℕ → Bool → Bool → Bool
row tag its holds rest = cond (eqb tag its) holds rest

-- the length of a field of the header behind TTRT: the mode's, and F's for every other
unfoldable pub further_size : ℕ → ℕ
further_size tag = cond (eqb tag mode_tag) mode_size frame_size

-- a field of the header behind TTRT, with its one length: the mode, F or g
abbrev pub is_further : ℕ → ℕ → Bool
is_further tag size = between mode_tag grid_tag tag && eqb size (further_size tag)

-- such a field stands behind TTRT and before the first station, and its tag is above those of the header's fields that have passed
abbrev pub in_header : Passed → ℕ → Bool
in_header p tag = headed p && ltb p.head tag && eqb p.stations 0

-- the tag with this length may stand behind the fields that have passed. A row for each tag, with its one length:
-- TTRT, once; then stations, up to 128 and none behind an allocation; then in a plan an allocation for each; then, behind at least one station and all allocations, the end.
-- Any other tag is a further field of the header, in its place
unfoldable pub is_allowed : Passed → ℕ → ℕ → Bool
is_allowed p tag size =
    row tag head_tag (eqb size head_size && not (headed p))
    (row tag station_tag (eqb size station_size && headed p && ltb p.stations most_stations && eqb p.allocations 0)
    (row tag allocation_tag (eqb size allocation_size && headed p && ltb p.allocations (due p))
    (row tag end_tag (eqb size end_size && headed p && leb 1 p.stations && eqb p.allocations (due p))
    (is_further tag size && in_header p tag))))

-- ---- what is found at a place

-- how many bytes are left from the place a on
abbrev pub left : List ℕ → ℕ → ℕ
left bs a = length bs - a

abbrev pub tag_at : List ℕ → ℕ → ℕ
tag_at bs a = at bs a

abbrev pub size_at : List ℕ → ℕ → ℕ
size_at bs a = short_at bs (a + 1)

-- the place behind the field at a
abbrev pub behind : List ℕ → ℕ → ℕ
behind bs a = a + 3 + size_at bs a

-- the field at a has a tag and a length that may stand behind the fields that have passed
abbrev pub allowed_at : List ℕ → ℕ → Passed → Bool
allowed_at bs a p = is_allowed p (tag_at bs a) (size_at bs a)

-- at each field: fewer than three bytes left gives 1; then a tag or length not allowed there gives 2; then a body cut short gives 1
unfoldable pub field_number : List ℕ → ℕ → Passed → ℕ
field_number bs a p =
    or_else (leb 3 (left bs a)) cut_short
    (or_else (allowed_at bs a p) wrong_shape
    (or_else (leb (size_at bs a) (left bs (a + 3))) cut_short accepted))

-- the field that is handed out: its tag, where its body begins, and where the next field does; nothing with a refusal
unfoldable pub handed_out : ℕ → ℕ → ℕ → ℕ → Field
handed_out zero tag body next = record { number = 0; tag = tag; body = body; next = next }
handed_out (suc k) tag body next = record { number = suc k; tag = 0; body = 0; next = 0 }

abbrev pub field_at : List ℕ → ℕ → Passed → Field
field_at bs a p = handed_out (field_number bs a p) (tag_at bs a) (a + 3) (behind bs a)

-- a whole field that may stand there, as a sentence
pub record FieldWhole (bs : List ℕ) (a : ℕ) (p : Passed) : Type 0 where
  pub inside : behind bs a ≤ length bs
  pub allowed : allowed_at bs a p ≡ true
