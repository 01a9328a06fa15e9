-- A line of wagons or of changes goes by what it is; the numbers of such a line are 32-bit numbers.
use Prim.Native.Nat.{ℕ, ◌^◌}
use mathlib.Core.Path.{◌≡◌, refl, sym, ap}
use mathlib.Core.Bool.{Bool, true, false, true≢false}
use native.Mathlib.Omega.{arith}
use lib.Dec.{ltb, eqb}
use borrow.Author.Tests.{ltb-true}
use Rattle.std.specs.Prelude.{Option, None, Some, is_some}
use Rattle.std.specs.Option.{option_or}
use Rattle.units.specs.Places.{at}
use Rattle.units.proofs.JudgingLaws.{and-true}
use Rattle.hopper.specs.Wagons.{with_more, without_last}
use Rattle.hopper.specs.Trains.{changed_train, changed_wagon}
use Rattle.hopper.specs.declared.Train.{Train}
use Rattle.hopper.specs.declared.Coupled.{Coupled}
use Rattle.line_reader.specs.Scan.{is_readable, is_empty_line}
use Rattle.line_reader.specs.declared.Scan.{Scan}
use Rattle.command_compose.specs.Compose.{all_fit, is_line}
use Rattle.command_hopper.specs.Lists.{is_wagon, wagon_in, Narrow, on_next_line, first_unread, line_listed}
use Rattle.command_hopper.specs.Refits.{is_change, is_couple, is_uncouple, told_of, line_changed}
use Rattle.command_hopper.specs.declared.Change.TheVariants.{Nothing, Unread}
use Rattle.command_hopper.specs.declared.Listing.{Listing}

-- ---- numbers

module _ (s : Scan) (code count : ℕ) (h : is_line s code count ≡ true) where
  fits : all_fit s ≡ true
  fits = (and-true (eqb s.count count) _ (and-true (eqb s.word code) _ (and-true (is_readable s) _ h).1).1).1

  narrow : ℕ → Bool
  narrow k = ltb (at s.values k) (2 ^ 32)

  first_fits : (narrow 0 ≡ true) × (narrow 1 ≡ true) × (narrow 2 ≡ true) × (narrow 3 ≡ true)
  unfolding narrow
  first_fits =
      let a = and-true (ltb (at s.values 0) (2 ^ 32)) _ fits in
      let b = and-true (ltb (at s.values 1) (2 ^ 32)) _ a.1 in
      let c = and-true (ltb (at s.values 2) (2 ^ 32)) _ b.1 in
      let d = and-true (ltb (at s.values 3) (2 ^ 32)) _ c.1 in
      (a.0, b.0, c.0, d.0)

  pub narrow_first : Narrow s 0
  unfolding narrow
  narrow_first =
      let f = first_fits in
      record { inside = omega arith; boxes = ltb-true _ _ f.0; brake = ltb-true _ _ f.1; door = ltb-true _ _ f.2 }

  pub narrow_second : Narrow s 1
  unfolding narrow
  narrow_second =
      let f = first_fits in
      record { inside = omega arith; boxes = ltb-true _ _ f.1; brake = ltb-true _ _ f.2; door = ltb-true _ _ f.3 }

-- ---- a line of wagons

or_kept : (known other : Option ℕ) → is_some known ≡ true → known ≡ option_or known other
or_kept None other e = absurd (true≢false (sym e))
or_kept (Some n) other e = refl

module _ (u : Listing) where
  pub listed_empty : is_empty_line u.scan ≡ true → on_next_line u u.list u.unread ≡ line_listed u
  unfolding line_listed
  listed_empty e = rw e

  pub listed_wagon : is_empty_line u.scan ≡ false → is_wagon u.scan ≡ true → on_next_line u (with_more u.list (wagon_in u.scan 0)) u.unread ≡ line_listed u
  unfolding line_listed
  listed_wagon e w = rw (e, w)

  pub listed_unread : is_empty_line u.scan ≡ false → is_wagon u.scan ≡ false → on_next_line u u.list (first_unread u) ≡ line_listed u
  unfolding line_listed
  listed_unread e w = rw (e, w)

-- where none is named it is this one, and what is named stays named
pub first_none : (u : Listing) → u.unread ≡ None → Some u.line ≡ first_unread u
first_none u e = rw e refl

pub first_kept : (u : Listing) → is_some u.unread ≡ true → u.unread ≡ first_unread u
first_kept u e = or_kept u.unread (Some u.line) e

-- ---- a line of changes

module _ (t : Train) (s : Scan) where
  pub changed_empty : is_empty_line s ≡ true → record { train = t; change = Nothing } ≡ line_changed t s
  unfolding line_changed
  changed_empty e = rw e

  pub changed_wagon_lem : (c : Coupled) → is_empty_line s ≡ false → is_change s ≡ true → c ≡ changed_wagon t (record { 0 = at s.values 0 }) (wagon_in s 1) → told_of c ≡ line_changed t s
  unfolding line_changed
  changed_wagon_lem c e i m = rw (e, i) (ap told_of m)

  pub changed_more : (c : Coupled) → is_empty_line s ≡ false → is_change s ≡ false → is_couple s ≡ true → c ≡ changed_train t (with_more t.list (wagon_in s 0)) → told_of c ≡ line_changed t s
  unfolding line_changed
  changed_more c e i j m = rw (e, i, j) (ap told_of m)

  pub changed_fewer : (c : Coupled) → is_empty_line s ≡ false → is_change s ≡ false → is_couple s ≡ false → is_uncouple s ≡ true
      → c ≡ changed_train t (without_last t.list) → told_of c ≡ line_changed t s
  unfolding line_changed
  changed_fewer c e i j k m = rw (e, i, j, k) (ap told_of m)

  pub changed_unread : is_empty_line s ≡ false → is_change s ≡ false → is_couple s ≡ false → is_uncouple s ≡ false
      → record { train = t; change = Unread } ≡ line_changed t s
  unfolding line_changed
  changed_unread e i j k = rw (e, i, j, k)
