-- What is promised of the explanation beside the contracts, for any bytes; `proofs/Promised.antt` proves it. What its numbers mean stands in `reasons` and `faults`.
use Rattle.std.specs.Prelude.{ℕ, ◌+◌, ◌≤◌, ◌<◌, ◌≡◌, Bool, true, false, None, Some, List, ◌↔◌}
use Rattle.units.specs.Numbers.{out_of_range}
use Rattle.fields.specs.Bytes.{number_at}
use Rattle.fields.specs.Fields.{head_tag, mode_tag, grid_tag, is_allowed, tag_at}
use Rattle.fields.specs.Header.{place_of, said_at}
use Rattle.fields.specs.declared.Passed.{Passed}
use Rattle.field_reader.specs.FirstFault.{FirstFault}
use Rattle.sheets.specs.Reading.{read_request, read_plan}
use Rattle.command_plan.specs.PlanSheet.{planning_number}
use Rattle.reasons.specs.Shortages.{shortage_of}
use Rattle.faults.specs.Ranges.{header_range, range_at}
use Rattle.text.specs.Phrases.{three, four}
use Rattle.command_explain.specs.declared.Explained.{Explained}
use Rattle.command_explain.specs.Sheet.{is_plan, skipped_by, place_in, explained}
use Rattle.command_explain.specs.First.{kind_at, row_at, out_form, second_phrase}
use Rattle.command_explain.specs.Stations.{out_form as stationForm, station_phrase}
use Rattle.command_explain.specs.Out.{SomeOutSaid}

-- of a sheet that is refused with 4: number j of station i is listed, with its value and its range, exactly if it is out of that range
pub record Listed (e : Explained) (i j : ℕ) : Type 0 where
  pub out : (range_at e.set e.alloc i j).out ≡ true
      → station_phrase e i j
      ≡ Some (four (stationForm j)
      i (range_at e.set e.alloc i j).value (range_at e.set e.alloc i j).low (range_at e.set e.alloc i j).high)
  pub inside : (range_at e.set e.alloc i j).out ≡ false → station_phrase e i j ≡ None

-- and field k of the header, behind the verdict: TTRT, the mode, F and g; the value is the one that stands in the field
pub record HeaderListed (e : Explained) (k : ℕ) : Type 0 where
  pub out : (header_range e.set.head (row_at k).tag).out ≡ true
      → second_phrase e k
      ≡ Some (three (out_form (row_at k) (header_range e.said (row_at k).tag).value)
      (header_range e.said (row_at k).tag).value (row_at k).low (header_range e.set.head (row_at k).tag).high)
  pub inside : (header_range e.set.head (row_at k).tag).out ≡ false → second_phrase e k ≡ None

-- the mode, F or g, by its tag: where its number is out of range its field is there, and where it is there the number that is shown is the one in its body
pub record FieldSaid (bs : List ℕ) (tag : ℕ) : Type 0 where
  pub there : (header_range (explained bs).set.head tag).out ≡ true → tag_at bs (place_of bs tag) ≡ tag
  pub value : tag_at bs (place_of bs tag) ≡ tag
      → (header_range (explained bs).said tag).value ≡ said_at bs (place_of bs tag) tag

pub record Promised : Type 0 where
  -- the number is that of `plan` for a request sheet, and that of reading for a plan sheet
  pub request : (bs : List ℕ) → is_plan bs ≡ false → (explained bs).number ≡ planning_number (read_request bs)
  pub plan : (bs : List ℕ) → is_plan bs ≡ true → (explained bs).number ≡ (read_plan bs).number
  -- 1, 2, 3: the place is that of the first fault, of 3 the byte behind the end field, and the fields that passed are those before it
  pub place : (plan : Bool) (bs : List ℕ) (k : ℕ) (f : FirstFault plan bs k)
      → (place_in plan bs).byte ≡ f.place + skipped_by k
  pub passed : (plan : Bool) (bs : List ℕ) (k : ℕ) (f : FirstFault plan bs k) → (place_in plan bs).passed ≡ f.passed
  -- what may stand there is one of the seven kinds that are tried: none is left out
  pub kinds_all : (p : Passed) (tag size : ℕ)
      → is_allowed p tag size ≡ true
      → (k : ℕ) × ((k < 7) × (((kind_at k).tag ≡ tag) × ((kind_at k).size ≡ size)))
  -- 4: no number of a station is left out of the list, and none is too many
  pub listed : (e : Explained) → e.number ≡ out_of_range → (i j : ℕ) → Listed e i j
  -- and none of the header
  pub header_listed : (e : Explained) → e.number ≡ out_of_range → (k : ℕ) → k < 4 → HeaderListed e k
  -- the value that is shown of a header's field is the one that stands in its bytes
  pub said_ttrt : (bs : List ℕ)
      → (explained bs).number ≡ out_of_range → (header_range (explained bs).said head_tag).value ≡ number_at bs 3
  pub said : (bs : List ℕ)
      → (explained bs).number ≡ out_of_range → (tag : ℕ) → mode_tag ≤ tag → tag ≤ grid_tag → FieldSaid bs tag
  -- 4 is given exactly if a line says that a number is out of its range
  pub four : (bs : List ℕ) → ((explained bs).number ≡ out_of_range) ↔ SomeOutSaid (explained bs)
  -- 6: the ticks that are said to be missing are the shortage
  pub missing : (bs : List ℕ)
      → is_plan bs ≡ false → (explained bs).sums.missing ≡ (shortage_of (explained bs).set).missing
