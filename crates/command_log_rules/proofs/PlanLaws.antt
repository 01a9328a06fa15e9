-- What was read of a sheet has 0 past its places: taken over its first N places it is itself.
use Prim.Native.Nat.{ℕ, ◌+◌, ◌≤◌}
use mathlib.Core.Path.{◌≡◌, refl, sym, ap, ◌∙◌}
use mathlib.Core.Bool.{true}
use mathlib.Core.List.{List}
use native.Mathlib.Omega.{arith}
use Rattle.units.specs.Places.{at, fill}
use Rattle.units.proofs.PlaceLaws.{fill_inside, fill_same}
use Rattle.sets.specs.Judged.{zeros}
use Rattle.field_reader.specs.Scanned.{scanned}
use Rattle.field_reader.proofs.PassedLaws.{scanned_ended}
use Rattle.sheets.specs.Reading.{column, set_in, alloc_in, judged_sheet, read_number, read_sheet, read_plan}
use Rattle.sheets.proofs.ReadLaws.{then_none, judged_kept, read_number_lem, read_accepted}
use Rattle.sheet_rules.specs.Promised.{first_places, first_allocations}

filled_again : (n : ℕ) (f : ℕ → ℕ) → n ≤ 128 → fill n (at (fill n f zeros)) zeros ≡ fill n f zeros
filled_again n f few = fill_same n (at (fill n f zeros)) f zeros (λ i l. fill_inside n f zeros i l (omega arith))

module _ (sheet : List ℕ) (h : (read_plan sheet).number ≡ 0) where
  number : read_number true sheet ≡ 0
  unfolding read_sheet
  number = sym (read_number_lem (read_number true sheet) (set_in true sheet) (alloc_in true sheet)) ∙ h

  was_read : read_plan sheet ≡ record { set = set_in true sheet; alloc = alloc_in true sheet; number = 0 }
  unfolding read_sheet
  was_read = read_accepted (read_number true sheet) (set_in true sheet) (alloc_in true sheet) number

  both : ((scanned true sheet).number ≡ 0) × (judged_sheet true (set_in true sheet) (alloc_in true sheet) ≡ 0)
  both = then_none _ _ number

  few : (set_in true sheet).n ≤ 128
  few = (judged_kept true (set_in true sheet) (alloc_in true sheet) both.1).count.1

  same_set : first_places (set_in true sheet) ≡ set_in true sheet
  same_set =
      let p = (scanned true sheet).passed in
      let again : (k : ℕ) → fill p.stations (at (column sheet (p.from + k) 19 p.stations)) zeros ≡ column sheet (p.from + k) 19 p.stations =
      λ k. filled_again p.stations _ few in
      rw (again 3, again 7, again 11, again 15) refl

  same_alloc : first_allocations (set_in true sheet).n (alloc_in true sheet) ≡ alloc_in true sheet
  same_alloc =
      let p = (scanned true sheet).passed in
      let all : p.allocations ≡ p.stations = (scanned_ended true sheet both.0).before.all in
      rw all (ap (λ (s : List ℕ). record { s = s }) (filled_again p.stations _ few))

  pub first_set : first_places (read_plan sheet).set ≡ (read_plan sheet).set
  first_set = rw was_read same_set

  pub first_alloc : first_allocations (read_plan sheet).set.n (read_plan sheet).alloc ≡ (read_plan sheet).alloc
  first_alloc = rw was_read same_alloc
