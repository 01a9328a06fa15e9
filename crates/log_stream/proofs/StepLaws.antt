-- One byte more, by what is kept: a fault stays, a byte behind the end is one, and any other belongs to a field, which may be whole then.
use Prim.Native.Nat.{ℕ, ◌<◌}
use mathlib.Core.Path.{◌≡◌, refl, sym, ap}
use mathlib.Core.Bool.{Bool, true, false, cond, ◌||◌, true≢false}
use mathlib.Core.Logic.{◌≢◌, ⊎_elim}
use native.Mathlib.Omega.{arith}
use borrow.Author.Tests.{eq-eqb, ne_eqb, lt-leb, leb-false}
use lib.Dec.{leb}
use Rattle.units.proofs.JudgingLaws.{true_or_false}
use Rattle.log_records.specs.Entry.{blank_entry, next_entry}
use Rattle.logs.specs.Records.{record_size}
use Rattle.log_stream.specs.Pieces.{nothing_read, is_whole, at_field, with_byte, faulty, told, stepped, entry_in}
use Rattle.log_stream.specs.declared.Gathered.{Gathered}

module _ (v : Gathered) (b : ℕ) where
  pub step_stopped : v.number ≢ 0 → v ≡ stepped v b
  unfolding stepped
  step_stopped k = rw (ne_eqb v.number 0 k)

  pub step_ended : v.number ≡ 0 → v.ended ≡ true → faulty v 3 ≡ stepped v b
  unfolding stepped
  step_ended z e = rw (eq-eqb v.number 0 z) (ap (λ (x : Bool). cond x (faulty v 3) (told (with_byte (at_field v) b))) (sym e))

  pub step_on : v.number ≡ 0 → v.ended ≡ false → told (with_byte (at_field v) b) ≡ stepped v b
  unfolding stepped
  step_on z e = rw (eq-eqb v.number 0 z) (ap (λ (x : Bool). cond x (faulty v 3) (told (with_byte (at_field v) b))) (sym e))

-- ---- whether the record is whole

module _ (v : Gathered) (whole : Bool) (is : whole ≡ is_whole v) where
  -- the next byte begins another field
  pub begins_anew : (whole || leb 20 v.count) ≡ true → at_field v ≡ nothing_read
  unfolding at_field
  begins_anew h = rw (← is, h) refl

  pub goes_on : (whole || leb 20 v.count) ≡ false → at_field v ≡ v
  unfolding at_field
  goes_on h = rw (← is, h) refl

  -- its last byte was just read
  pub none_in : whole ≡ false → record { entry = blank_entry; next = 0 } ≡ entry_in v
  unfolding entry_in
  none_in h = rw (← is, h) refl

  pub one_in : whole ≡ true → next_entry v.bytes 0 ≡ entry_in v
  unfolding entry_in
  one_in h = rw (← is, h) refl

neither : (a b : Bool) → (a || b) ≡ false → b ≡ false
neither true b h = absurd (true≢false h)
neither false b h = h

module _ (v : Gathered) where
  pub at_whole : v.count ≡ record_size v.bytes 0 → at_field v ≡ nothing_read
  at_whole e = begins_anew v (is_whole v) refl (rw (eq-eqb v.count (record_size v.bytes 0) e) refl)

  pub at_part : v.count < 20 → v.count ≢ record_size v.bytes 0 → at_field v ≡ v
  at_part l n = goes_on v (is_whole v) refl (rw (ne_eqb v.count (record_size v.bytes 0) n, lt-leb 20 v.count l) refl)

  -- a field that goes on has room for a byte
  pub room : (at_field v).count < 20
  room =
      ⊎_elim (λ h. rw (begins_anew v (is_whole v) refl h) (omega arith))
      (λ h. rw (goes_on v (is_whole v) refl h) (leb-false 20 v.count (neither (is_whole v) (leb 20 v.count) h)))
      (true_or_false (is_whole v || leb 20 v.count))

pub at_first : at_field nothing_read ≡ nothing_read
at_first =
    let whole = is_whole nothing_read in
    ⊎_elim (begins_anew nothing_read whole refl) (goes_on nothing_read whole refl) (true_or_false (is_whole nothing_read || leb 20 nothing_read.count))
