-- `put_pieces` is right because what the bytes before this one stand for is put, each of them at most 20 bytes.
use Prim.Native.Nat.{ℕ, ◌+◌, ◌≤◌}
use mathlib.Core.Path.{◌≡◌, refl, ◌∙◌}
use native.Mathlib.Numerals.{add-one}
use native.Mathlib.Omega.{arith}
use lib.Dec.{eqb}
use mathlib.Core.Bool.{Bool, cond, true, false}
use Rattle.units.specs.Places.{at}
use Rattle.text.specs.Filled.{hole, used_by, used_in, filled_up_to}
use Rattle.text.proofs.PageLaws.{puts_none, puts_then, puts_as}
use Rattle.text.proofs.Page.put_pieces.Goals as goal

-- a byte uses at most one number
test_most_one : (b : Bool) (used : ℕ) → cond b (used + 1) used ≤ used + 1
test_most_one true used = omega arith
test_most_one false used = omega arith

at_most_one : (used byte : ℕ) → used_by used byte ≤ used + 1
unfolding used_by
at_most_one used byte = test_most_one (eqb byte hole) used

pub loop-byte-init : goal.loop-byte-init
unfolding used_in filled_up_to
loop-byte-init c =
    record { used = refl; few = omega arith; put = puts_none _ }

pub put_piece-requires : goal.put_piece-requires
put_piece-requires c =
    let before = c.loop-byte.invariant.put in
    omega (arith, c.requires, before.put.put.next, before.put.short, before.size)

pub loop-byte-preserved : goal.loop-byte-preserved
unfolding used_in filled_up_to
loop-byte-preserved c =
    let before = c.loop-byte.invariant in
    let byte = at c.args.words.now c.loop-byte.byte-index in
    let used : c.used_by-used.result ≡ used_by c.loop-byte.used byte = c.used_by-used.ensures in
    let more = puts_then before.put c.put_piece.ensures (omega (arith, c.requires)) in
    record {
      used = rw add-one (used ∙ rw before.used refl);
      few = omega (arith, used, at_most_one c.loop-byte.used byte);
      put = rw add-one (puts_as more (rw (c.number_of-n.ensures, before.used) refl) (omega arith));
    }
