-- The records of a log. Each is of a kind, a visit or a mark, and a kind has its tag and its one length. Nothing else of a log goes by a kind's length: what follows a record stands behind its field.
use Rattle.std.specs.Prelude.{ℕ, Bool, cond, ◌||◌, List}
use Rattle.log_records.specs.Visit.{visit_length, is_visit, visit_stands}
use Rattle.log_records.specs.Mark.{mark_length, is_mark, mark_stands}

-- a record's field begins at the place a
abbrev pub is_record : List ℕ → ℕ → Bool
is_record bs a = is_visit bs a || is_mark bs a

-- how many bytes the field of the whole record has that stands at the place a; 0 where none stands there
unfoldable pub record_size : List ℕ → ℕ → ℕ
record_size bs a = cond (visit_stands bs a) visit_length (cond (mark_stands bs a) mark_length 0)
