-- `value_of` is right because the digits before this one have been read.
use mathlib.Core.Path.{sym}
use native.Mathlib.Omega.{arith}
use Rattle.number_words.proofs.WordLaws.{digits_none, digits_step}
use Rattle.number_words.proofs.value_of.Goals as goal

pub loop-byte-init : goal.loop-byte-init
loop-byte-init c =
    record { read = sym (digits_none _); small = omega arith }

pub loop-byte-preserved : goal.loop-byte-preserved
loop-byte-preserved c =
    record {
      read = rw (digits_step, ← c.loop-byte.invariant.read) c.grow-value.ensures;
      small = omega (arith, c.grow-value.ensures);
    }
