-- `visit_of` is right because its body is the definition.
use Rattle.std.proofs.Common.{refl}
use Rattle.logs.proofs.writing.visit_of.Goals as goal

pub returns : goal.returns
returns c =
    rw (c.counter_at.ensures, c.low_bits.ensures, c.low_bits-2.ensures, c.low_bits-3.ensures) refl
