-- A mark of a log: the station, and 1 where it is switched through, 0 where it is in again; and its field: tag 17, length 2. Any numbers of a byte are read.
use Rattle.std.specs.Prelude.{ℕ, ◌+◌, ◌%◌, ◌<◌, Bool, cond, ◌&&◌, List, [], ◌∷◌, ◌++◌, leb, eqb, length}
use Rattle.units.specs.Places.{at}
use Rattle.fields.specs.Fields.{tag_at, size_at}
use Rattle.log_records.specs.declared.MarkEntry.{MarkEntry}

-- the blank mark
abbrev pub blank_mark : MarkEntry
blank_mark = record { station = 0; mark = 0 }

-- ---- its field

-- tag 17, length 2
abbrev pub mark_tag : ℕ
mark_tag = 17

abbrev pub mark_size : ℕ
mark_size = 2

-- how many bytes the field has
abbrev pub mark_length : ℕ
mark_length = 5

-- its start: the tag, and the length in two bytes
abbrev pub mark_start : List ℕ
mark_start = mark_tag ∷ 0 ∷ mark_size ∷ []

-- the field: the tag, its length, the station and the mark in one byte each
unfoldable pub mark_bytes : MarkEntry → List ℕ
mark_bytes m = mark_start ++ (m.station % 256 ∷ m.mark % 256 ∷ [])

-- the mark whose field begins at the place a
abbrev pub mark_at : List ℕ → ℕ → MarkEntry
mark_at bs a = record { station = at bs (a + 3); mark = at bs (a + 4) }

-- the same; the blank mark where the bytes end before
unfoldable pub mark_or_blank : List ℕ → ℕ → MarkEntry
mark_or_blank bs a = cond (leb (a + mark_length) (length bs)) (mark_at bs a) blank_mark

-- its numbers fit its field: one byte each
pub record MarkFits (m : MarkEntry) : Type 0 where
  pub station : m.station < 256
  pub mark : m.mark < 256

-- ---- where it stands

-- a field of a mark begins at the place a: its tag, with its one length
abbrev pub is_mark : List ℕ → ℕ → Bool
is_mark bs a = eqb (tag_at bs a) mark_tag && eqb (size_at bs a) mark_size

-- and it is whole
unfoldable pub mark_stands : List ℕ → ℕ → Bool
mark_stands bs a = leb (a + mark_length) (length bs) && is_mark bs a
