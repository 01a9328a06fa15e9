-- The laws of a mark's field: how long it is, what is read where it stands, and that it stands where it is read.
use Prim.Native.Nat.{ℕ, ◌+◌, ◌*◌, ◌%◌}
use mathlib.Core.Path.{◌≡◌, refl, sym, ◌∙◌}
use mathlib.Core.Bool.{true}
use mathlib.Core.List.{List, [], ◌∷◌, ◌++◌}
use native.Mathlib.Nat.{add-zero, mod-eq_of_lt}
use native.Mathlib.Omega.{arith}
use lib.ListN.{length}
use Rattle.units.specs.Places.{at}
use Rattle.fields.specs.Bytes.{short_at, AllBytes}
use Rattle.fields.proofs.SegmentLaws.{Stands, stands_join}
use Rattle.fields.proofs.ByteLaws.{stands_one, stands_three}
use Rattle.log_records.proofs.FieldLaws.{FieldThere, field_there, there_field}
use Rattle.log_records.specs.Mark.{mark_start, mark_bytes, mark_at, MarkFits, mark_stands}
use Rattle.log_records.specs.declared.MarkEntry.{MarkEntry}

pub mark_length_lem : (m : MarkEntry) → length (mark_bytes m) ≡ 5
unfolding mark_bytes
mark_length_lem m = refl

-- ---- a mark that stands there

-- what it says of the bytes
abbrev pub MarkThere : List ℕ → ℕ → Type 0
MarkThere bs a = FieldThere bs a 17 2 5

pub mark_there : (bs : List ℕ) (a : ℕ) → mark_stands bs a ≡ true → MarkThere bs a
unfolding mark_stands
mark_there bs a h = field_there bs a 17 2 5 h

pub there_mark : (bs : List ℕ) (a : ℕ) → MarkThere bs a → mark_stands bs a ≡ true
unfolding mark_stands
there_mark bs a m = there_field bs a 17 2 5 m

-- ---- its bytes

module _ (bs : List ℕ) (a : ℕ) (m : MarkEntry) where
  -- where its field stands, a mark does
  pub stands_mark : Stands bs a (mark_bytes m) → MarkThere bs a
  unfolding short_at mark_bytes
  stands_mark h =
      let e₀ : at bs a ≡ 17 = rw add-zero at (h.same 0 (omega arith)) in
      let e₁ : at bs (a + 1) ≡ 0 = h.same 1 (omega arith) in
      let e₂ : at bs (a + 2) ≡ 2 = h.same 2 (omega arith) in
      let q : a + 1 + 1 ≡ a + 2 = omega arith in
      record { inside = omega (arith, h.fits, mark_length_lem m); has_tag = e₀; has_size = rw (q, e₁, e₂) refl }

  -- and its numbers are read, if they fit
  pub mark_read : MarkFits m → Stands bs a (mark_bytes m) → mark_at bs a ≡ m
  unfolding mark_bytes
  mark_read f h =
      let station : at bs (a + 3) ≡ m.station = h.same 3 (omega arith) ∙ mod-eq_of_lt f.station in
      let mark : at bs (a + 4) ≡ m.mark = h.same 4 (omega arith) ∙ mod-eq_of_lt f.mark in
      rw (station, mark) refl

module _ (bs : List ℕ) (a : ℕ) (bytes : AllBytes bs) (there : MarkThere bs a) where
  -- the numbers of the mark that is read where one stands fit its field
  pub mark_fits : MarkFits (mark_at bs a)
  mark_fits = let inside = there.inside in record { station = bytes (a + 3) (omega arith); mark = bytes (a + 4) (omega arith) }

  -- and that field stands there
  pub mark_bytes_lem : Stands bs a (mark_bytes (mark_at bs a))
  unfolding short_at mark_bytes
  mark_bytes_lem =
      let inside = there.inside in
      let q : a + 1 + 1 ≡ a + 2 = omega arith in
      let both : at bs (a + 1) * 256 + at bs (a + 2) ≡ 2 = rw q at there.has_size in
      let station = at bs (a + 3) % 256 ∷ [] in
      let start = stands_three bs a 17 0 2 (omega arith) there.has_tag (omega arith) (omega arith) in
      let fourth = stands_join bs a mark_start station start (stands_one bs (a + 3) (at bs (a + 3) % 256) (omega arith) (sym (mod-eq_of_lt mark_fits.station))) in
      stands_join bs a (mark_start ++ station) (at bs (a + 4) % 256 ∷ []) fourth
      (stands_one bs (a + 4) (at bs (a + 4) % 256) (omega arith) (sym (mod-eq_of_lt mark_fits.mark)))
