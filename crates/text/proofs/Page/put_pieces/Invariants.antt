-- `put_pieces` is right because what the bytes before this one stand for is put, each of them at most 20 bytes.
use Prim.Native.Nat.{◌*◌, ◌≤◌}
use mathlib.Core.Path.{◌≡◌}
use Rattle.text.specs.Pages.{Puts}
use Rattle.text.specs.Filled.{used_in, filled_up_to}
use Rattle.text.proofs.Page.put_pieces.Given as goal

abbrev pub invariant-loop-byte : goal.invariant-loop-byte
invariant-loop-byte l =
    record {
      used : l.used ≡ used_in l.words l.byte-index;
      few : l.used ≤ l.byte-index;
      put : Puts (20 * l.byte-index) l.initial.self (filled_up_to l.words l.numbers l.byte-index) l.self;
    }
