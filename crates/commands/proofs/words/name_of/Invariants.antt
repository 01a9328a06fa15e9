-- `name_of` is right because the bytes of the word before this one have been put, each as it is shown.
use Prim.Native.Nat.{◌-◌}
use mathlib.Core.Path.{◌≡◌}
use lib.ListN.{length, drop, replicate}
use Rattle.commands.proofs.NameLaws.{Shown}
use Rattle.commands.proofs.words.name_of.Given as goal

abbrev pub invariant-loop-i : goal.invariant-loop-i
invariant-loop-i l =
    record {
      places : length l.bytes ≡ 64;
      rest : drop l.i l.bytes ≡ replicate (64 - l.i) 0;
      shown : Shown l.word l.bytes l.i;
    }
