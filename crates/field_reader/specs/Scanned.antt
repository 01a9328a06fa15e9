-- A whole sheet, field after field from the left: at each place the field is handed out that may stand there; the walk stops at the first one that is refused, or at the end field.
use Rattle.std.specs.Prelude.{ℕ, zero, suc, ◌+◌, Bool, cond, not, ◌||◌, List, leb, eqb, length}
use Rattle.units.specs.Numbers.{accepted, cut_short, runs_on}
use Rattle.units.specs.Judging.{or_else}
use Rattle.fields.specs.Fields.{station_tag, allocation_tag, end_tag, field_at}
use Rattle.fields.specs.declared.Field.{Field}
use Rattle.fields.specs.declared.Passed.{Passed}
use Rattle.field_reader.specs.Cursor.{cursor_after}
use Rattle.field_reader.specs.declared.Scanned.{Scanned}

-- nothing has passed yet
abbrev pub nothing_passed : Bool → Passed
nothing_passed plan = record { plan = plan; head = 0; from = 0; stations = 0; allocations = 0 }

-- one more field has passed, by its tag: a station, an allocation, or a field of the header, behind which the stations begin
unfoldable pub with_field : Passed → ℕ → ℕ → Passed
with_field p tag next =
    cond (eqb tag station_tag)
    (record {
      plan = p.plan;
      head = p.head;
      from = p.from;
      stations = p.stations + 1;
      allocations = p.allocations;
    })
    (cond (eqb tag allocation_tag) (record { plan = p.plan; head = p.head; from = p.from; stations = p.stations; allocations = p.allocations + 1 })
    (record { plan = p.plan; head = tag; from = next; stations = p.stations; allocations = p.allocations }))

-- the walk stops at a field that is refused, and at the end field
unfoldable pub stops_at : Field → Bool
stops_at field = not (eqb field.number accepted) || eqb field.tag end_tag

-- why it stops there: the field's number; or 3 where a byte follows the end field, else 0
unfoldable pub stop_number : ℕ → Field → ℕ
stop_number size field =
    cond (eqb field.number accepted) (or_else (leb size field.next) runs_on accepted) field.number

-- the walk from the place a on, behind the fields that have passed, over at most so many fields
unfoldable pub scan_from : ℕ → List ℕ → Passed → ℕ → Scanned
scan_from zero bs p a = record { number = cut_short; passed = p; at = a }
scan_from (suc most) bs p a =
    cond (stops_at (field_at bs a p)) (record { number = stop_number (length bs) (field_at bs a p); passed = p; at = a })
    (scan_from most bs (with_field p (field_at bs a p).tag (cursor_after a (field_at bs a p)))
    (cursor_after a (field_at bs a p)))

-- the walk over a whole sheet. It has fewer fields than bytes, so one more than its bytes is never reached
unfoldable pub scanned : Bool → List ℕ → Scanned
scanned plan bs = scan_from (suc (length bs)) bs (nothing_passed plan) 0
