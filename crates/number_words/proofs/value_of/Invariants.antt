-- `value_of` is right because the digits before this one have been read.
use Prim.Native.Nat.{◌≤◌}
use mathlib.Core.Path.{◌≡◌}
use Rattle.number_words.specs.Words.{first_digits}
use Rattle.number_words.proofs.value_of.Given as goal

abbrev pub invariant-loop-byte : goal.invariant-loop-byte
invariant-loop-byte l =
    record {
      read : l.value ≡ first_digits l.byte-index l.word;
      small : l.value ≤ 4_294_967_296;
    }
