-- What was laid out is read back: the parts of a sheet stand one behind the other, so the walk goes by all of them, and the numbers that it finds are those that were laid.
use Prim.Native.Nat.{ℕ, zero, suc, ◌+◌, ◌*◌, ◌^◌, ◌≤◌, ◌<◌}
use mathlib.Core.Path.{◌≡◌, refl, sym, ap, subst, ◌∙◌}
use mathlib.Core.Bool.{Bool, true, false}
use mathlib.Core.List.{List, ◌++◌}
use native.Mathlib.Numerals.{add-one}
use native.Mathlib.Omega.{arith}
use lib.ListN.{length, length-append}
use Rattle.units.specs.Places.{at}
use Rattle.units.proofs.PlaceLaws.{fill_same, fill_inside}
use Rattle.sets.specs.Header.{head_number}
use Rattle.sets.specs.Rules.{SameSet, CountAllowed}
use Rattle.sets.specs.Judged.{zeros}
use Rattle.sets.proofs.SetLaws.{judged_same}
use Rattle.sets.specs.declared.Set.{Set}
use Rattle.plans.proofs.SameLaws.{judged_plan_same}
use Rattle.plans.specs.declared.Alloc.{Alloc}
use Rattle.fields.specs.Rows.{rows}
use Rattle.fields.specs.Fields.{further_size, allocations_for, tag_at}
use Rattle.fields.proofs.SegmentLaws.{Stands, stands_itself, stands_whole, stands_left, stands_right, stands_join}
use Rattle.field_reader.specs.Scanned.{scanned}
use Rattle.field_reader.specs.FirstFault.{WellFormed}
use Rattle.field_reader.specs.declared.Scanned.{Scanned}
use Rattle.field_reader.proofs.PassedLaws.{passed_all, header_passes, station_passes, allocation_passes, end_passes}
use Rattle.sheets.specs.Layout.{head_bytes, head_length, station_bytes, allocation_bytes, end_bytes, fields_of, sheet_of}
use Rattle.sheets.specs.Reading.{set_of, alloc_of, set_in, alloc_in, judged_sheet, read_sheet}
use Rattle.sheets.proofs.ReadLaws.{then_rest, read_number_lem, sheet_accepted, Kept, judged_kept}
use Rattle.sheet_rules.specs.Promised.{first_places, first_allocations, Numbers32}
use Rattle.sheets.proofs.WritingLaws.{head_long, stations_length, fields_long, sheet_long}
use Rattle.sheet_rules.proofs.HeaderLaws.{laid_ttrt, laid_head, laid_header}
use Rattle.sheet_rules.proofs.StandLaws.{whole_stands, stations_whole, stations_read, allocations_whole, allocations_read}

-- ---- the parts of a sheet stand one behind the other

-- the place behind the header
abbrev pub behind_head : Set → ℕ
behind_head t = 7 + head_length t.head

-- the place behind the stations
abbrev pub behind_stations : Set → ℕ
behind_stations t = behind_head t + 19 * t.n

-- the place behind the allocations
abbrev pub behind_all : Bool → Set → ℕ
behind_all plan t = behind_stations t + 7 * allocations_for plan t.n

-- all fields but the end
pub record FieldParts (plan : Bool) (bs : List ℕ) (t : Set) (a : Alloc) : Type 0 where
  pub header : Stands bs 0 (head_bytes t.head)
  pub stations : Stands bs (behind_head t) (rows t.n (station_bytes t))
  pub allocations : Stands bs (behind_stations t) (rows (allocations_for plan t.n) (allocation_bytes a))

-- and the end, with nothing behind it
pub record SheetParts (plan : Bool) (bs : List ℕ) (t : Set) (a : Alloc) : Type 0 where
  pub fields : FieldParts plan bs t a
  pub ending : Stands bs (behind_all plan t) end_bytes
  pub long : length bs ≡ behind_all plan t + 3

module _ (plan : Bool) (t : Set) (a : Alloc) (bs : List ℕ) where
  -- fields that stand at the start, one by one
  pub fields_apart : Stands bs 0 (fields_of plan t a) → FieldParts plan bs t a
  fields_apart h =
      let m = allocations_for plan t.n in
      let hd = head_bytes t.head in
      let st = rows t.n (station_bytes t) in
      let al = rows m (allocation_bytes a) in
      let h₁ = stands_left bs 0 (hd ++ st) al h in
      let l₁ = head_long t.head in
      let l₂ = stations_length t t.n in
      let e₁ : 0 + length hd ≡ behind_head t = omega arith in
      let e₂ : 0 + length (hd ++ st) ≡ behind_stations t = omega (arith, length-append hd st) in
      record {
        header = stands_left bs 0 hd st h₁;
        stations = rw e₁ at (stands_right bs 0 hd st h₁);
        allocations = rw e₂ at (stands_right bs 0 (hd ++ st) al h);
      }

  -- and together
  pub fields_together : FieldParts plan bs t a → Stands bs 0 (fields_of plan t a)
  fields_together p =
      let m = allocations_for plan t.n in
      let hd = head_bytes t.head in
      let st = rows t.n (station_bytes t) in
      let al = rows m (allocation_bytes a) in
      let l₁ = head_long t.head in
      let l₂ = stations_length t t.n in
      let e₁ : behind_head t ≡ 0 + length hd = omega arith in
      let e₂ : behind_stations t ≡ 0 + length (hd ++ st) = omega (arith, length-append hd st) in
      let h₁ = stands_join bs 0 hd st p.header (rw e₁ at p.stations) in
      stands_join bs 0 (hd ++ st) al h₁ (rw e₂ at p.allocations)

  -- the place behind them
  pub fields_behind : 0 + length (fields_of plan t a) ≡ behind_all plan t
  fields_behind = omega (arith, fields_long plan t a)

module _ (plan : Bool) (t : Set) (a : Alloc) where
  sheet_apart : (bs : List ℕ) → Stands bs 0 (sheet_of plan t a) → length bs ≡ behind_all plan t + 3 → SheetParts plan bs t a
  unfolding sheet_of
  sheet_apart bs h long =
      record {
        fields = fields_apart plan t a bs (stands_left bs 0 (fields_of plan t a) end_bytes h);
        ending = subst (λ (b : ℕ). Stands bs b end_bytes) (fields_behind plan t a bs) (stands_right bs 0 (fields_of plan t a) end_bytes h);
        long = long;
      }

  -- the sheet has its parts
  pub sheet_parts : SheetParts plan (sheet_of plan t a) t a
  sheet_parts = sheet_apart (sheet_of plan t a) (stands_itself (sheet_of plan t a)) (omega (arith, sheet_long plan t a))

  -- bytes with these parts are the sheet
  pub parts_sheet : (bs : List ℕ) → SheetParts plan bs t a → bs ≡ sheet_of plan t a
  unfolding sheet_of
  parts_sheet bs p =
      let end = subst (λ (b : ℕ). Stands bs b end_bytes) (sym (fields_behind plan t a bs)) p.ending in
      stands_whole bs (fields_of plan t a ++ end_bytes) (stands_join bs 0 (fields_of plan t a) end_bytes (fields_together plan t a bs p.fields) end)
      (omega (arith, sheet_long plan t a, p.long))

-- ---- the walk over bytes with these parts

module _ (plan : Bool) (bs : List ℕ) (t : Set) (a : Alloc) (parts : FieldParts plan bs t a) (some : 1 ≤ t.n) where
  -- behind the header a station stands
  first_station : tag_at bs (behind_head t) ≡ 2
  first_station =
      let e : behind_head t + 19 * 0 ≡ behind_head t = omega arith in
      subst (λ (b : ℕ). tag_at bs b ≡ 2) e (stations_whole bs (behind_head t) t t.n parts.stations 0 some).has_tag

  -- the header passes, and then all behind it; `head` is the tag of the header's last field
  module _ (few : t.n ≤ 128) (head : ℕ) (begun : 1 ≤ head) (first : WellFormed plan bs (passed_all plan head (behind_head t) 0 0) (behind_head t)) where
    stations_pass : (i : ℕ) → i ≤ t.n → WellFormed plan bs (passed_all plan head (behind_head t) i 0) (behind_head t + 19 * i)
    stations_pass zero l =
        let e : behind_head t ≡ behind_head t + 19 * 0 = omega arith in
        subst (WellFormed plan bs (passed_all plan head (behind_head t) 0 0)) e first
    stations_pass (suc i) l =
        let whole = stations_whole bs (behind_head t) t t.n parts.stations i (omega arith) in
        let next = station_passes plan bs head (behind_head t) begun i (behind_head t + 19 * i) (stations_pass i (omega arith)) (omega arith) whole in
        let e : behind_head t + 19 * i + 3 + 16 ≡ behind_head t + 19 * suc i = omega arith in
        rw (add-one, e) at next

    allocations_pass : (j : ℕ) → j ≤ allocations_for plan t.n → WellFormed plan bs (passed_all plan head (behind_head t) t.n j) (behind_stations t + 7 * j)
    allocations_pass zero l =
        let e : behind_stations t ≡ behind_stations t + 7 * 0 = omega arith in
        subst (WellFormed plan bs (passed_all plan head (behind_head t) t.n 0)) e (stations_pass t.n (omega arith))
    allocations_pass (suc j) l =
        let whole = allocations_whole bs (behind_stations t) a (allocations_for plan t.n) parts.allocations j (omega arith) in
        let next = allocation_passes plan bs head (behind_head t) begun t.n j (behind_stations t + 7 * j) (allocations_pass j (omega arith)) (omega arith) whole in
        let e : behind_stations t + 7 * j + 3 + 4 ≡ behind_stations t + 7 * suc j = omega arith in
        rw (add-one, e) at next

  -- all fields but the end pass
  pub fields_pass : t.n ≤ 128
      → (head : ℕ) × ((1 ≤ head) × WellFormed plan bs (passed_all plan head (behind_head t) t.n (allocations_for plan t.n)) (behind_all plan t))
  fields_pass few =
      let h = header_passes plan bs (behind_head t) (laid_header bs t.head parts.header first_station) in
      (h.0, (h.1.0, allocations_pass few h.0 h.1.0 h.1.1 (allocations_for plan t.n) (omega arith)))

  -- ---- and the numbers that are read from them

  pub parts_set : (head m : ℕ) → Numbers32 t → set_of bs (passed_all plan head (behind_head t) t.n m) ≡ first_places t
  unfolding head_number further_size
  parts_set head m small =
      let numbers = stations_read bs (behind_head t) t t.n parts.stations (omega arith) small in
      let w = fill_same t.n _ (at t.w) zeros numbers.walk in
      let c = fill_same t.n _ (at t.c) zeros numbers.longest in
      let d = fill_same t.n _ (at t.d) zeros numbers.deadline in
      let p = fill_same t.n _ (at t.p) zeros numbers.gap in
      let ttrt = laid_ttrt bs t.head parts.header small.header in
      let mode = laid_head bs t.head parts.header first_station 0 (omega arith) small.mode in
      let frame = laid_head bs t.head parts.header first_station 1 (omega arith) small.frame in
      let grid = laid_head bs t.head parts.header first_station 2 (omega arith) small.grid in
      rw (ttrt, mode, frame, grid, w, c, d, p)

  pub parts_alloc : (head : ℕ) → ((i : ℕ) → i < allocations_for plan t.n → at a.s i < 2 ^ 32)
      → alloc_of bs (passed_all plan head (behind_head t) t.n (allocations_for plan t.n)) ≡ first_allocations (allocations_for plan t.n) a
  parts_alloc head small =
      let m = allocations_for plan t.n in
      rw (fill_same m _ (at a.s) zeros (allocations_read bs (behind_stations t) a m parts.allocations small))

-- and the walk goes by the end too
parts_scanned : (plan : Bool) (bs : List ℕ) (t : Set) (a : Alloc) → SheetParts plan bs t a → 1 ≤ t.n → t.n ≤ 128
    → (head : ℕ) × (scanned plan bs ≡ record { number = 0; passed = passed_all plan head (behind_head t) t.n (allocations_for plan t.n); at = behind_all plan t })
parts_scanned plan bs t a parts some few =
    let p = fields_pass plan bs t a parts.fields some few in
    let end = whole_stands bs _ 255 0 parts.ending (omega (arith, parts.long)) in
    (p.0, end_passes plan bs p.0 (behind_head t) p.1.0 t.n _ (behind_all plan t) p.1.1 some refl end parts.long)

-- ---- the first N places are the set

pub first_same : (t : Set) → t.n ≤ 128 → SameSet t (first_places t)
first_same t few =
    record {
      header = refl;
      count = refl;
      walk = λ i l. sym (fill_inside t.n (at t.w) zeros i l few);
      longest = λ i l. sym (fill_inside t.n (at t.c) zeros i l few);
      deadline = λ i l. sym (fill_inside t.n (at t.d) zeros i l few);
      gap = λ i l. sym (fill_inside t.n (at t.p) zeros i l few);
    }

pub first_allocations_lem : (n : ℕ) (a : Alloc) → n ≤ 128 → (i : ℕ) → i < n → at a.s i ≡ at (first_allocations n a).s i
first_allocations_lem n a few i l = sym (fill_inside n (at a.s) zeros i l few)

pub judged_first : (plan : Bool) (t : Set) (a : Alloc) → t.n ≤ 128 → judged_sheet plan (first_places t) (first_allocations (allocations_for plan t.n) a) ≡ judged_sheet plan t a
unfolding judged_sheet
judged_first true t a few = sym (judged_plan_same t (first_places t) a (first_allocations t.n a) (first_same t few) (first_allocations_lem t.n a few))
judged_first false t a few = sym (judged_same t (first_places t) 0 (first_same t few))

-- ---- what was laid out, judged or not

-- the allocations that belong to the sheet are 32-bit numbers
abbrev pub Shares32 : Bool → Set → Alloc → Type 0
Shares32 plan t a = (i : ℕ) → i < allocations_for plan t.n → at a.s i < 2 ^ 32

module _ (plan : Bool) (t : Set) (a : Alloc) (count : CountAllowed t) (small : Numbers32 t) (shares : Shares32 plan t a) where
  laid_scanned : (head : ℕ)
      × (scanned plan (sheet_of plan t a) ≡ record { number = 0; passed = passed_all plan head (behind_head t) t.n (allocations_for plan t.n); at = behind_all plan t })
  laid_scanned = parts_scanned plan (sheet_of plan t a) t a (sheet_parts plan t a) count.0 count.1

  laid_none : (scanned plan (sheet_of plan t a)).number ≡ 0
  laid_none = ap (λ (r : Scanned). r.number) laid_scanned.1

  laid_set : set_in plan (sheet_of plan t a) ≡ first_places t
  laid_set =
      ap (λ (r : Scanned). set_of (sheet_of plan t a) r.passed) laid_scanned.1
      ∙ parts_set plan (sheet_of plan t a) t a (sheet_parts plan t a).fields count.0 laid_scanned.0 (allocations_for plan t.n) small

  laid_alloc : alloc_in plan (sheet_of plan t a) ≡ first_allocations (allocations_for plan t.n) a
  laid_alloc =
      ap (λ (r : Scanned). alloc_of (sheet_of plan t a) r.passed) laid_scanned.1
      ∙ parts_alloc plan (sheet_of plan t a) t a (sheet_parts plan t a).fields count.0 laid_scanned.0 shares

  laid_judged : judged_sheet plan (set_in plan (sheet_of plan t a)) (alloc_in plan (sheet_of plan t a)) ≡ judged_sheet plan t a
  laid_judged = rw (laid_set, laid_alloc) (judged_first plan t a count.1)

  -- reading what was laid out gives the number of its judgement
  pub laid_number : (read_sheet plan (sheet_of plan t a)).number ≡ judged_sheet plan t a
  unfolding read_sheet
  laid_number = read_number_lem _ _ _ ∙ then_rest _ _ laid_none ∙ laid_judged

  -- and where that is 0, all that was laid out
  laid_read : judged_sheet plan t a ≡ 0 → read_sheet plan (sheet_of plan t a) ≡ record { set = first_places t; alloc = first_allocations (allocations_for plan t.n) a; number = 0 }
  laid_read h = sheet_accepted plan (sheet_of plan t a) laid_none (laid_judged ∙ h) ∙ rw (laid_set, laid_alloc)

-- ---- read back as written

-- what is judged 0 fits into four bytes
pub kept_small : (plan : Bool) (t : Set) (a : Alloc) → Kept plan t a → Numbers32 t
kept_small plan t a k =
    record {
      header = omega (arith, k.numbers.header.ttrt);
      mode = omega (arith, k.numbers.header.mode);
      frame = omega (arith, k.numbers.header.frame);
      grid = omega (arith, k.numbers.header.grid);
      walk = λ i l. omega (arith, (k.numbers.stations i l).walk);
      longest = λ i l. omega (arith, (k.numbers.stations i l).longest);
      deadline = λ i l. omega (arith, (k.numbers.stations i l).deadline.1);
      gap = λ i l. omega (arith, (k.numbers.stations i l).gap.1);
    }

pub kept_allocations : (plan : Bool) (t : Set) (a : Alloc) → Kept plan t a → Shares32 plan t a
kept_allocations true t a k i l = omega (arith, k.allocations refl i l)
kept_allocations false t a k i l = absurd (omega arith)

pub read_back : (plan : Bool) (t : Set) (a : Alloc) → judged_sheet plan t a ≡ 0
    → read_sheet plan (sheet_of plan t a) ≡ record { set = first_places t; alloc = first_allocations (allocations_for plan t.n) a; number = 0 }
read_back plan t a h =
    let k = judged_kept plan t a h in
    laid_read plan t a k.count (kept_small plan t a k) (kept_allocations plan t a k) h
