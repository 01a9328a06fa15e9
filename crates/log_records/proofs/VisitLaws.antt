-- The laws of a visit's field: how long it is, what is read where it stands, and that it stands where it is read.
use Prim.Native.Nat.{ℕ, ◌+◌, ◌*◌, ◌%◌, ◌≤◌, ◌<◌}
use mathlib.Core.Path.{◌≡◌, refl, sym, ◌∙◌}
use mathlib.Core.Bool.{true}
use mathlib.Core.List.{List, [], ◌∷◌, ◌++◌}
use native.Mathlib.Nat.{add-zero, mod-eq_of_lt}
use native.Mathlib.Omega.{arith}
use lib.ListN.{length}
use Rattle.units.specs.Places.{at}
use Rattle.fields.specs.Bytes.{short_at, number_at, bytes_of, AllBytes}
use Rattle.fields.proofs.SegmentLaws.{Stands, stands_left, stands_right, stands_join}
use Rattle.fields.proofs.ByteLaws.{number_read, number_stands, stands_one, stands_three}
use Rattle.log_records.proofs.FieldLaws.{FieldThere, field_there, there_field}
use Rattle.log_records.specs.Visit.{visit_start, visit_bytes, visit_at, VisitFits, visit_stands}
use Rattle.log_records.specs.declared.VisitEntry.{VisitEntry}

pub visit_length_lem : (e : VisitEntry) → length (visit_bytes e) ≡ 20
unfolding visit_bytes bytes_of
visit_length_lem e = refl

-- ---- a visit that stands there

-- what it says of the bytes
abbrev pub VisitThere : List ℕ → ℕ → Type 0
VisitThere bs a = FieldThere bs a 16 17 20

pub visit_there : (bs : List ℕ) (a : ℕ) → visit_stands bs a ≡ true → VisitThere bs a
unfolding visit_stands
visit_there bs a h = field_there bs a 16 17 20 h

pub there_visit : (bs : List ℕ) (a : ℕ) → VisitThere bs a → visit_stands bs a ≡ true
unfolding visit_stands
there_visit bs a v = there_field bs a 16 17 20 v

-- ---- its bytes

-- the six parts of the field
record VisitStands (bs : List ℕ) (a : ℕ) (e : VisitEntry) : Type 0 where
  start : Stands bs a visit_start
  station : Stands bs (a + 3) (e.station % 256 ∷ [])
  counter : Stands bs (a + 4) (bytes_of e.start)
  limit : Stands bs (a + 8) (bytes_of e.limit)
  synchronous : Stands bs (a + 12) (bytes_of e.synchronous)
  asynchronous : Stands bs (a + 16) (bytes_of e.asynchronous)

module _ (bs : List ℕ) (a : ℕ) (e : VisitEntry) where
  visit_apart : Stands bs a (visit_bytes e) → VisitStands bs a e
  unfolding visit_bytes bytes_of
  visit_apart h =
      let m = visit_start in
      let s = e.station % 256 ∷ [] in
      let h₄ = stands_left bs a (m ++ s ++ bytes_of e.start ++ bytes_of e.limit ++ bytes_of e.synchronous) (bytes_of e.asynchronous) h in
      let h₃ = stands_left bs a (m ++ s ++ bytes_of e.start ++ bytes_of e.limit) (bytes_of e.synchronous) h₄ in
      let h₂ = stands_left bs a (m ++ s ++ bytes_of e.start) (bytes_of e.limit) h₃ in
      let h₁ = stands_left bs a (m ++ s) (bytes_of e.start) h₂ in
      record {
        start = stands_left bs a m s h₁;
        station = stands_right bs a m s h₁;
        counter = stands_right bs a (m ++ s) (bytes_of e.start) h₂;
        limit = stands_right bs a (m ++ s ++ bytes_of e.start) (bytes_of e.limit) h₃;
        synchronous = stands_right bs a (m ++ s ++ bytes_of e.start ++ bytes_of e.limit) (bytes_of e.synchronous) h₄;
        asynchronous = stands_right bs a (m ++ s ++ bytes_of e.start ++ bytes_of e.limit ++ bytes_of e.synchronous) (bytes_of e.asynchronous) h;
      }

  visit_together : VisitStands bs a e → Stands bs a (visit_bytes e)
  unfolding visit_bytes bytes_of
  visit_together p =
      let m = visit_start in
      let s = e.station % 256 ∷ [] in
      let h₁ = stands_join bs a m s p.start p.station in
      let h₂ = stands_join bs a (m ++ s) (bytes_of e.start) h₁ p.counter in
      let h₃ = stands_join bs a (m ++ s ++ bytes_of e.start) (bytes_of e.limit) h₂ p.limit in
      let h₄ = stands_join bs a (m ++ s ++ bytes_of e.start ++ bytes_of e.limit) (bytes_of e.synchronous) h₃ p.synchronous in
      stands_join bs a (m ++ s ++ bytes_of e.start ++ bytes_of e.limit ++ bytes_of e.synchronous) (bytes_of e.asynchronous) h₄ p.asynchronous

  -- where its field stands, a visit does
  pub stands_visit : Stands bs a (visit_bytes e) → VisitThere bs a
  unfolding short_at
  stands_visit h =
      let p = visit_apart h in
      let e₀ : at bs a ≡ 16 = rw add-zero at (p.start.same 0 (omega arith)) in
      let e₁ : at bs (a + 1) ≡ 0 = p.start.same 1 (omega arith) in
      let e₂ : at bs (a + 2) ≡ 17 = p.start.same 2 (omega arith) in
      let q : a + 1 + 1 ≡ a + 2 = omega arith in
      record { inside = omega (arith, h.fits, visit_length_lem e); has_tag = e₀; has_size = rw (q, e₁, e₂) refl }

  -- and its numbers are read, if they fit
  pub stands_read : VisitFits e → Stands bs a (visit_bytes e) → visit_at bs a ≡ e
  stands_read f h =
      let p = visit_apart h in
      let station : at bs (a + 3) ≡ e.station = (rw add-zero at (p.station.same 0 (omega arith))) ∙ mod-eq_of_lt f.station in
      let start = number_read bs (a + 4) e.start f.start p.counter in
      let limit = number_read bs (a + 8) e.limit f.limit p.limit in
      let synchronous = number_read bs (a + 12) e.synchronous f.synchronous p.synchronous in
      let asynchronous = number_read bs (a + 16) e.asynchronous f.asynchronous p.asynchronous in
      rw (station, start, limit, synchronous, asynchronous) refl

-- the field of the entry that is read where a visit stands, stands there
pub visit_bytes_lem : (bs : List ℕ) (a : ℕ) → AllBytes bs → VisitThere bs a → Stands bs a (visit_bytes (visit_at bs a))
unfolding short_at
visit_bytes_lem bs a bytes v =
    let inside = v.inside in
    let q : a + 1 + 1 ≡ a + 2 = omega arith in
    let both : at bs (a + 1) * 256 + at bs (a + 2) ≡ 17 = rw q at v.has_size in
    let small : at bs (a + 3) < 256 = bytes (a + 3) (omega arith) in
    visit_together bs a (visit_at bs a)
    (record {
      start = stands_three bs a 16 0 17 (omega arith) v.has_tag (omega arith) (omega arith);
      station = stands_one bs (a + 3) (at bs (a + 3) % 256) (omega arith) (sym (mod-eq_of_lt small));
      counter = number_stands bs (a + 4) bytes (omega arith);
      limit = number_stands bs (a + 8) bytes (omega arith);
      synchronous = number_stands bs (a + 12) bytes (omega arith);
      asynchronous = number_stands bs (a + 16) bytes (omega arith);
    })

-- and its numbers fit it
pub visit_fits : (bs : List ℕ) (a : ℕ) → AllBytes bs → VisitThere bs a → VisitFits (visit_at bs a)
unfolding number_at
visit_fits bs a bytes v =
    let inside = v.inside in
    record {
      station = bytes (a + 3) (omega arith);
      start = number_small (a + 4) (omega arith);
      limit = number_small (a + 8) (omega arith);
      synchronous = number_small (a + 12) (omega arith);
      asynchronous = number_small (a + 16) (omega arith);
    }
  where
    number_small : (b : ℕ) → b + 4 ≤ length bs → number_at bs b < 4_294_967_296
    number_small b l = omega (arith, bytes b (omega arith), bytes (b + 1) (omega arith), bytes (b + 2) (omega arith), bytes (b + 3) (omega arith))
