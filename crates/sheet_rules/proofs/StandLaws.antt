-- Fields that stand in bytes: what is read where they stand, and that they stand where they are read. For any place where the stations or the allocations begin.
use Prim.Native.Nat.{ℕ, ◌+◌, ◌*◌, ◌^◌, ◌≤◌, ◌<◌}
use mathlib.Core.Path.{◌≡◌}
use mathlib.Core.List.{List, ◌++◌}
use native.Mathlib.Nat.{add-zero}
use native.Mathlib.Omega.{arith}
use lib.ListN.{length}
use Rattle.units.specs.Places.{at}
use Rattle.sets.specs.declared.Set.{Set}
use Rattle.plans.specs.declared.Alloc.{Alloc}
use Rattle.fields.specs.Rows.{rows}
use Rattle.fields.specs.Bytes.{short_at, number_at, bytes_of, AllBytes}
use Rattle.fields.specs.Fields.{tag_at, size_at}
use Rattle.fields.proofs.SegmentLaws.{Stands, stands_left, stands_right, stands_join, stands_row, rows_stand}
use Rattle.fields.proofs.ByteLaws.{number_read, number_stands, stands_three}
use Rattle.fields.proofs.FieldLaws.{Whole}
use Rattle.sheet_rules.specs.Promised.{Numbers32}
use Rattle.sheets.specs.Layout.{mark, station_with, allocation_with, station_bytes, allocation_bytes}
use Rattle.sheets.proofs.WritingLaws.{station_length, allocation_length}

-- ---- the start of a field

pub mark_says : (bs : List ℕ) (a tag size : ℕ) → Stands bs a (mark tag size) → (tag_at bs a ≡ tag) × (size_at bs a ≡ size)
unfolding short_at
mark_says bs a tag size h =
    let e₀ : at bs a ≡ tag = rw add-zero at (h.same 0 (omega arith)) in
    let e₁ : at bs (a + 1) ≡ 0 = h.same 1 (omega arith) in
    let e₂ : at bs (a + 2) ≡ size = h.same 2 (omega arith) in
    let p : a + 1 + 1 ≡ a + 2 = omega arith in
    (e₀, rw (p, e₁, e₂) (omega arith))

-- the start of a field stands where the field does
pub mark_stands_lem : (bs : List ℕ) (a tag size : ℕ) → AllBytes bs → size < 256 → Whole bs a tag size → Stands bs a (mark tag size)
unfolding short_at
mark_stands_lem bs a tag size bytes small w =
    let p : a + 1 + 1 ≡ a + 2 = omega arith in
    let inside = w.inside in
    let both : at bs (a + 1) * 256 + at bs (a + 2) ≡ size = rw p at w.has_size in
    let low : at bs (a + 2) < 256 = bytes (a + 2) (omega arith) in
    stands_three bs a tag 0 size (omega arith) w.has_tag (omega arith) (omega arith)

-- a field whose start stands there is whole, if its body lies inside
pub whole_stands : (bs : List ℕ) (a tag size : ℕ) → Stands bs a (mark tag size) → a + 3 + size ≤ length bs → Whole bs a tag size
whole_stands bs a tag size h fit =
    let said = mark_says bs a tag size h in
    record { inside = fit; has_tag = said.0; has_size = said.1 }

-- ---- one station

-- the four numbers of a station that stands at a
pub record StationStands (bs : List ℕ) (a w c d p : ℕ) : Type 0 where
  pub start : Stands bs a (mark 2 16)
  pub walk : Stands bs (a + 3) (bytes_of w)
  pub longest : Stands bs (a + 7) (bytes_of c)
  pub deadline : Stands bs (a + 11) (bytes_of d)
  pub gap : Stands bs (a + 15) (bytes_of p)

pub station_apart : (bs : List ℕ) (a w c d p : ℕ) → Stands bs a (station_with w c d p) → StationStands bs a w c d p
unfolding station_with bytes_of
station_apart bs a w c d p h =
    let m = mark 2 16 in
    let h₃ = stands_left bs a (m ++ bytes_of w ++ bytes_of c ++ bytes_of d) (bytes_of p) h in
    let h₂ = stands_left bs a (m ++ bytes_of w ++ bytes_of c) (bytes_of d) h₃ in
    let h₁ = stands_left bs a (m ++ bytes_of w) (bytes_of c) h₂ in
    record {
      start = stands_left bs a m (bytes_of w) h₁;
      walk = stands_right bs a m (bytes_of w) h₁;
      longest = stands_right bs a (m ++ bytes_of w) (bytes_of c) h₂;
      deadline = stands_right bs a (m ++ bytes_of w ++ bytes_of c) (bytes_of d) h₃;
      gap = stands_right bs a (m ++ bytes_of w ++ bytes_of c ++ bytes_of d) (bytes_of p) h;
    }

pub station_together : (bs : List ℕ) (a w c d p : ℕ) → StationStands bs a w c d p → Stands bs a (station_with w c d p)
unfolding station_with bytes_of
station_together bs a w c d p s =
    let m = mark 2 16 in
    let h₁ = stands_join bs a m (bytes_of w) s.start s.walk in
    let h₂ = stands_join bs a (m ++ bytes_of w) (bytes_of c) h₁ s.longest in
    let h₃ = stands_join bs a (m ++ bytes_of w ++ bytes_of c) (bytes_of d) h₂ s.deadline in
    stands_join bs a (m ++ bytes_of w ++ bytes_of c ++ bytes_of d) (bytes_of p) h₃ s.gap

-- ---- one allocation

pub record AllocationStands (bs : List ℕ) (a s : ℕ) : Type 0 where
  pub start : Stands bs a (mark 3 4)
  pub share : Stands bs (a + 3) (bytes_of s)

pub allocation_apart : (bs : List ℕ) (a s : ℕ) → Stands bs a (allocation_with s) → AllocationStands bs a s
unfolding allocation_with bytes_of
allocation_apart bs a s h =
    record { start = stands_left bs a (mark 3 4) (bytes_of s) h; share = stands_right bs a (mark 3 4) (bytes_of s) h }

pub allocation_together : (bs : List ℕ) (a s : ℕ) → AllocationStands bs a s → Stands bs a (allocation_with s)
unfolding allocation_with bytes_of
allocation_together bs a s h = stands_join bs a (mark 3 4) (bytes_of s) h.start h.share

-- ---- stations one after another

-- the numbers at the places of the stations are the set's
pub record StationNumbers (bs : List ℕ) (from : ℕ) (t : Set) (n : ℕ) : Type 0 where
  pub walk : (i : ℕ) → i < n → number_at bs (from + 3 + 19 * i) ≡ at t.w i
  pub longest : (i : ℕ) → i < n → number_at bs (from + 7 + 19 * i) ≡ at t.c i
  pub deadline : (i : ℕ) → i < n → number_at bs (from + 11 + 19 * i) ≡ at t.d i
  pub gap : (i : ℕ) → i < n → number_at bs (from + 15 + 19 * i) ≡ at t.p i

module _ (bs : List ℕ) (from : ℕ) (t : Set) (n : ℕ) where
  -- station i of stations that stand
  pub station_of_lem : Stands bs from (rows n (station_bytes t)) → (i : ℕ) → i < n → Stands bs (from + 19 * i) (station_bytes t i)
  station_of_lem h i l = stands_row bs from n 19 (station_bytes t) (λ i. station_length _ _ _ _) h i l

  pub stations_whole : Stands bs from (rows n (station_bytes t)) → (i : ℕ) → i < n → Whole bs (from + 19 * i) 2 16
  stations_whole h i l =
      let s = station_of_lem h i l in
      let fit = s.fits in
      let long = station_length (at t.w i) (at t.c i) (at t.d i) (at t.p i) in
      whole_stands bs (from + 19 * i) 2 16 (station_apart bs (from + 19 * i) _ _ _ _ s).start (omega arith)

  pub stations_read : Stands bs from (rows n (station_bytes t)) → n ≤ t.n → Numbers32 t → StationNumbers bs from t n
  stations_read h most small =
      record {
        walk = λ i l.
            let e : from + 3 + 19 * i ≡ from + 19 * i + 3 = omega arith in
            rw e (number_read bs (from + 19 * i + 3) (at t.w i) (small.walk i (omega arith)) (parts i l).walk);
        longest = λ i l.
            let e : from + 7 + 19 * i ≡ from + 19 * i + 7 = omega arith in
            rw e (number_read bs (from + 19 * i + 7) (at t.c i) (small.longest i (omega arith)) (parts i l).longest);
        deadline = λ i l.
            let e : from + 11 + 19 * i ≡ from + 19 * i + 11 = omega arith in
            rw e (number_read bs (from + 19 * i + 11) (at t.d i) (small.deadline i (omega arith)) (parts i l).deadline);
        gap = λ i l.
            let e : from + 15 + 19 * i ≡ from + 19 * i + 15 = omega arith in
            rw e (number_read bs (from + 19 * i + 15) (at t.p i) (small.gap i (omega arith)) (parts i l).gap);
      }
    where
      parts : (i : ℕ) → i < n → StationStands bs (from + 19 * i) (at t.w i) (at t.c i) (at t.d i) (at t.p i)
      parts i l = station_apart bs (from + 19 * i) _ _ _ _ (station_of_lem h i l)

  pub stations_stand : AllBytes bs → from + 19 * n ≤ length bs → ((i : ℕ) → i < n → Whole bs (from + 19 * i) 2 16)
      → StationNumbers bs from t n → Stands bs from (rows n (station_bytes t))
  stations_stand bytes fit whole numbers =
      rows_stand bs from n 19 (station_bytes t) (λ i. station_length _ _ _ _) fit
      (λ i l. station_together bs (from + 19 * i) _ _ _ _ (parts i l))
    where
      parts : (i : ℕ) → i < n → StationStands bs (from + 19 * i) (at t.w i) (at t.c i) (at t.d i) (at t.p i)
      parts i l =
          let inside = (whole i l).inside in
          let e₁ : from + 3 + 19 * i ≡ from + 19 * i + 3 = omega arith in
          let e₂ : from + 7 + 19 * i ≡ from + 19 * i + 7 = omega arith in
          let e₃ : from + 11 + 19 * i ≡ from + 19 * i + 11 = omega arith in
          let e₄ : from + 15 + 19 * i ≡ from + 19 * i + 15 = omega arith in
          record {
            start = mark_stands_lem bs (from + 19 * i) 2 16 bytes (omega arith) (whole i l);
            walk = rw (rw e₁ at (numbers.walk i l)) at (number_stands bs (from + 19 * i + 3) bytes (omega arith));
            longest = rw (rw e₂ at (numbers.longest i l)) at (number_stands bs (from + 19 * i + 7) bytes (omega arith));
            deadline = rw (rw e₃ at (numbers.deadline i l)) at (number_stands bs (from + 19 * i + 11) bytes (omega arith));
            gap = rw (rw e₄ at (numbers.gap i l)) at (number_stands bs (from + 19 * i + 15) bytes (omega arith));
          }

-- ---- allocations one after another

module _ (bs : List ℕ) (from : ℕ) (a : Alloc) (m : ℕ) where
  pub allocation_of : Stands bs from (rows m (allocation_bytes a)) → (i : ℕ) → i < m → Stands bs (from + 7 * i) (allocation_bytes a i)
  allocation_of h i l = stands_row bs from m 7 (allocation_bytes a) (λ i. allocation_length _) h i l

  pub allocations_whole : Stands bs from (rows m (allocation_bytes a)) → (i : ℕ) → i < m → Whole bs (from + 7 * i) 3 4
  allocations_whole h i l =
      let s = allocation_of h i l in
      let fit = s.fits in
      let long = allocation_length (at a.s i) in
      whole_stands bs (from + 7 * i) 3 4 (allocation_apart bs (from + 7 * i) _ s).start (omega arith)

  pub allocations_read : Stands bs from (rows m (allocation_bytes a)) → ((i : ℕ) → i < m → at a.s i < 2 ^ 32) → (i : ℕ) → i < m → number_at bs (from + 3 + 7 * i) ≡ at a.s i
  allocations_read h small i l =
      let e : from + 3 + 7 * i ≡ from + 7 * i + 3 = omega arith in
      rw e (number_read bs (from + 7 * i + 3) (at a.s i) (small i l) (allocation_apart bs (from + 7 * i) _ (allocation_of h i l)).share)

  pub allocations_stand : AllBytes bs → from + 7 * m ≤ length bs → ((i : ℕ) → i < m → Whole bs (from + 7 * i) 3 4)
      → ((i : ℕ) → i < m → number_at bs (from + 3 + 7 * i) ≡ at a.s i) → Stands bs from (rows m (allocation_bytes a))
  allocations_stand bytes fit whole numbers =
      rows_stand bs from m 7 (allocation_bytes a) (λ i. allocation_length _) fit
      (λ i l. allocation_together bs (from + 7 * i) _ (parts i l))
    where
      parts : (i : ℕ) → i < m → AllocationStands bs (from + 7 * i) (at a.s i)
      parts i l =
          let inside = (whole i l).inside in
          let e : from + 3 + 7 * i ≡ from + 7 * i + 3 = omega arith in
          record {
            start = mark_stands_lem bs (from + 7 * i) 3 4 bytes (omega arith) (whole i l);
            share = rw (rw e at (numbers i l)) at (number_stands bs (from + 7 * i + 3) bytes (omega arith));
          }
