-- A whole log, field after field from the left: the plan's fields as in a plan sheet; where all of them have passed, records, as long as whole ones stand there; then the end.
use Rattle.std.specs.Prelude.{ℕ, zero, suc, ◌+◌, Bool, true, cond, ◌&&◌, ◌||◌, List, length, ◌==◌, nat_le}
use Rattle.units.specs.Numbers.{accepted, cut_short, wrong_shape, runs_on}
use Rattle.units.specs.Judging.{or_else}
use Rattle.fields.specs.Fields.{end_tag, end_size, left, tag_at, size_at, allowed_at}
use Rattle.fields.specs.declared.Passed.{Passed}
use Rattle.field_reader.specs.Scanned.{scanned}
use Rattle.sheets.specs.Reading.{plan_passed}
use Rattle.logs.specs.Records.{is_record, record_size}
use Rattle.logs.specs.declared.Walked.{Walked}

-- ---- what may stand where

-- a record may stand where all fields of the plan have passed, as the end may; all else as in a plan sheet. A record is none of the plan's fields, so behind it the same may stand
abbrev pub log_allowed_at : List ℕ → ℕ → Passed → Bool
log_allowed_at bs a p = (plan_passed p && is_record bs a) || allowed_at bs a p

-- ---- the walk

-- the end field begins at the place a
abbrev pub is_end : List ℕ → ℕ → Bool
is_end bs a = tag_at bs a == end_tag && size_at bs a == end_size

-- why the walk over the records stops at a place where no whole one stands: fewer than three bytes left give 1, and so does a record that is cut short;
-- anything but the end gives 2; a byte behind the end 3
unfoldable pub stop_number : List ℕ → ℕ → ℕ
stop_number bs a =
    or_else (nat_le 3 (left bs a)) cut_short
    (cond (is_record bs a) cut_short
    (or_else (is_end bs a) wrong_shape
    (or_else (nat_le (length bs) (a + 3)) runs_on accepted)))

-- the walk over the records from the place a on, behind n of them, over at most so many: each next one stands behind the field of the one before
unfoldable pub walk_from : ℕ → List ℕ → ℕ → ℕ → Walked
walk_from zero bs n a = record { number = cut_short; records = n; at = a }
walk_from (suc most) bs n a =
    cond (record_size bs a == 0) (record { number = stop_number bs a; records = n; at = a })
    (walk_from most bs (n + 1) (a + record_size bs a))

-- all of them. They are fewer than the bytes, so one more than these is never reached
unfoldable pub walked : List ℕ → ℕ → Walked
walked bs a = walk_from (suc (length bs)) bs 0 a

-- the walk over the plan's fields, and where it came by all of them the walk over the records
unfoldable pub log_walked : List ℕ → Walked
log_walked bs =
    cond (plan_passed (scanned true bs).passed) (walked bs (scanned true bs).at)
    (record { number = (scanned true bs).number; records = 0; at = (scanned true bs).at })
