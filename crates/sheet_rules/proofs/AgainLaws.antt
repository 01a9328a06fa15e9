-- What was read is written again the same: the fields by which the walk went stand in the bytes with the numbers that were read from them.
use Prim.Native.Nat.{ℕ, ◌+◌, ◌*◌, ◌≤◌, ◌<◌}
use mathlib.Core.Path.{◌≡◌, sym, subst, ◌∙◌}
use mathlib.Core.Bool.{Bool}
use mathlib.Core.List.{List}
use native.Mathlib.Omega.{arith}
use lib.ListN.{length}
use Rattle.units.specs.Places.{at}
use Rattle.units.proofs.PlaceLaws.{fill_inside}
use Rattle.sets.specs.Header.{head_number}
use Rattle.sets.specs.Judged.{zeros}
use Rattle.fields.specs.Rows.{rows}
use Rattle.fields.specs.Bytes.{number_at, AllBytes}
use Rattle.fields.specs.Fields.{allocations_for}
use Rattle.fields.proofs.SegmentLaws.{Stands}
use Rattle.fields.proofs.FieldLaws.{allocations_few}
use Rattle.fields.specs.declared.Passed.{Passed}
use Rattle.field_reader.specs.Scanned.{scanned}
use Rattle.field_reader.proofs.PassedLaws.{AllPassed, Ended, scanned_ended}
use Rattle.sheets.specs.Layout.{mark, station_bytes, allocation_bytes, sheet_of}
use Rattle.sheets.specs.Reading.{head_in, set_of, alloc_of, set_in, alloc_in, judged_sheet, read_sheet}
use Rattle.sheets.proofs.ReadLaws.{then_none, read_number_lem, judged_kept}
use Rattle.sheets.proofs.ReadingLaws.{head_ranges}
use Rattle.sheet_rules.proofs.HeaderLaws.{read_header, read_from}
use Rattle.sheet_rules.proofs.StandLaws.{mark_stands_lem, StationNumbers, stations_stand, allocations_stand}
use Rattle.sheet_rules.proofs.BackLaws.{behind_head, behind_stations, behind_all, FieldParts, SheetParts, parts_sheet}

module _ (plan : Bool) (bs : List ℕ) (bytes : AllBytes bs) (p : Passed) (a : ℕ) (all : AllPassed plan bs p a) where
  read_numbers : StationNumbers bs p.from (set_of bs p) p.stations
  read_numbers =
      let n = p.stations in
      let few = all.few in
      record {
        walk = λ i l. sym (fill_inside n (λ k. number_at bs (p.from + 3 + 19 * k)) zeros i l few);
        longest = λ i l. sym (fill_inside n (λ k. number_at bs (p.from + 7 + 19 * k)) zeros i l few);
        deadline = λ i l. sym (fill_inside n (λ k. number_at bs (p.from + 11 + 19 * k)) zeros i l few);
        gap = λ i l. sym (fill_inside n (λ k. number_at bs (p.from + 15 + 19 * k)) zeros i l few);
      }

  read_allocations : (i : ℕ) → i < p.allocations → number_at bs (p.from + 19 * p.stations + 3 + 7 * i) ≡ at (alloc_of bs p).s i
  read_allocations i l =
      let few : p.allocations ≤ 128 = omega (arith, all.few, all.all, allocations_few plan p.stations) in
      sym (fill_inside p.allocations (λ k. number_at bs (p.from + 19 * p.stations + 3 + 7 * k)) zeros i l few)

  -- where no number of the header is 0
  module _ (some : (tag : ℕ) → 1 ≤ head_number (head_in bs) tag) where
    -- the place behind the fields of what was read is the place up to which they passed
    pub read_behind : a ≡ behind_all plan (set_of bs p)
    read_behind =
        let from : p.from ≡ behind_head (set_of bs p) = read_from bs bytes p.from all.header some in
        omega (arith, all.place, all.all)

    -- and these fields stand in the bytes
    pub read_fields : FieldParts plan bs (set_of bs p) (alloc_of bs p)
    read_fields =
        let n = p.stations in
        let m = p.allocations in
        let fit : p.from + 19 * p.stations + 7 * p.allocations ≤ length bs = omega (arith, all.place, all.inside) in
        let each : p.allocations ≡ allocations_for plan p.stations = all.all in
        let from : p.from ≡ behind_head (set_of bs p) = read_from bs bytes p.from all.header some in
        let behind : p.from + 19 * p.stations ≡ behind_stations (set_of bs p) = omega arith in
        let share = allocation_bytes (alloc_of bs p) in
        record {
          header = read_header bs bytes p.from all.header some;
          stations = subst (λ (b : ℕ). Stands bs b (rows n (station_bytes (set_of bs p)))) from
              (stations_stand bs p.from (set_of bs p) n bytes (omega arith) all.stations read_numbers);
          allocations = subst (λ (b : ℕ). Stands bs b (rows (allocations_for plan n) share)) behind
              (subst (λ (k : ℕ). Stands bs (p.from + 19 * n) (rows k share)) each
              (allocations_stand bs (p.from + 19 * n) (alloc_of bs p) m bytes (omega arith) all.allocations read_allocations));
        }

-- the end too, where nothing follows it
read_parts : (plan : Bool) (bs : List ℕ) → AllBytes bs → (p : Passed) → Ended plan bs p → ((tag : ℕ) → 1 ≤ head_number (head_in bs) tag) → SheetParts plan bs (set_of bs p) (alloc_of bs p)
read_parts plan bs bytes p ended some =
    let a = p.from + 19 * p.stations + 7 * p.allocations in
    let behind = read_behind plan bs bytes p a ended.before some in
    record {
      fields = read_fields plan bs bytes p a ended.before some;
      ending = subst (λ (b : ℕ). Stands bs b (mark 255 0)) behind (mark_stands_lem bs a 255 0 bytes (omega arith) ended.end);
      long = omega (arith, ended.last, behind);
    }

-- bytes without a fault, whose header has no number 0, are the sheet of what they hold
holds_sheet : (plan : Bool) (bs : List ℕ) → AllBytes bs → (scanned plan bs).number ≡ 0 → ((tag : ℕ) → 1 ≤ head_number (head_in bs) tag) → bs ≡ sheet_of plan (set_in plan bs) (alloc_in plan bs)
holds_sheet plan bs bytes z some =
    parts_sheet plan (set_in plan bs) (alloc_in plan bs) bs (read_parts plan bs bytes (scanned plan bs).passed (scanned_ended plan bs z) some)

-- what is accepted is the sheet of what was read, and that is judged 0
pub read_again : (plan : Bool) (bs : List ℕ) → AllBytes bs → (read_sheet plan bs).number ≡ 0
    → (judged_sheet plan (set_in plan bs) (alloc_in plan bs) ≡ 0) × ((bs ≡ sheet_of plan (set_in plan bs) (alloc_in plan bs)) × ((scanned plan bs).number ≡ 0))
unfolding read_sheet
read_again plan bs bytes h =
    let both = then_none _ _ (sym (read_number_lem _ _ _) ∙ h) in
    let header = (judged_kept plan (set_in plan bs) (alloc_in plan bs) both.1).numbers.header in
    (both.1, (holds_sheet plan bs bytes both.0 (λ tag. (head_ranges (head_in bs) header tag).0), both.0))
