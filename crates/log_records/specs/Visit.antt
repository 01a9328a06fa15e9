-- A visit of a log: station, start, limit, synchronous, asynchronous; and its field: tag 16, length 17.
use Rattle.std.specs.Prelude.{ℕ, ◌+◌, ◌%◌, ◌^◌, ◌<◌, Bool, cond, ◌&&◌, List, [], ◌∷◌, ◌++◌, leb, eqb, length}
use Rattle.units.specs.Places.{at}
use Rattle.fields.specs.Bytes.{number_at, bytes_of}
use Rattle.fields.specs.Fields.{tag_at, size_at}
use Rattle.log_records.specs.declared.VisitEntry.{VisitEntry}

-- the blank visit
abbrev pub blank_visit : VisitEntry
blank_visit = record { station = 0; start = 0; limit = 0; synchronous = 0; asynchronous = 0 }

-- ---- its field

-- tag 16, length 17
abbrev pub visit_tag : ℕ
visit_tag = 16

abbrev pub visit_size : ℕ
visit_size = 17

-- how many bytes the field has
abbrev pub visit_length : ℕ
visit_length = 20

-- its start: the tag, and the length in two bytes
abbrev pub visit_start : List ℕ
visit_start = visit_tag ∷ 0 ∷ visit_size ∷ []

-- the field: the tag, its length, the station in one byte, the other four numbers in four bytes each
unfoldable pub visit_bytes : VisitEntry → List ℕ
visit_bytes v =
    visit_start
    ++ (v.station % 256 ∷ [])
    ++ bytes_of v.start
    ++ bytes_of v.limit
    ++ bytes_of v.synchronous
    ++ bytes_of v.asynchronous

-- the visit whose field begins at the place a
abbrev pub visit_at : List ℕ → ℕ → VisitEntry
visit_at bs a =
    record {
      station = at bs (a + 3);
      start = number_at bs (a + 4);
      limit = number_at bs (a + 8);
      synchronous = number_at bs (a + 12);
      asynchronous = number_at bs (a + 16);
    }

-- the same; the blank visit where the bytes end before
unfoldable pub visit_or_blank : List ℕ → ℕ → VisitEntry
visit_or_blank bs a = cond (leb (a + visit_length) (length bs)) (visit_at bs a) blank_visit

-- its numbers fit its field: the station one byte, the others 32 bits
pub record VisitFits (v : VisitEntry) : Type 0 where
  pub station : v.station < 256
  pub start : v.start < 2 ^ 32
  pub limit : v.limit < 2 ^ 32
  pub synchronous : v.synchronous < 2 ^ 32
  pub asynchronous : v.asynchronous < 2 ^ 32

-- ---- where it stands

-- a field of a visit begins at the place a: its tag, with its one length
abbrev pub is_visit : List ℕ → ℕ → Bool
is_visit bs a = eqb (tag_at bs a) visit_tag && eqb (size_at bs a) visit_size

-- and it is whole
unfoldable pub visit_stands : List ℕ → ℕ → Bool
visit_stands bs a = leb (a + visit_length) (length bs) && is_visit bs a
