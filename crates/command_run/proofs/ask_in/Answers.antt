-- `ask_in` is right because a visit's numbers are 32-bit numbers, and a line of one number names no length.
use native.Mathlib.Omega.{arith}
use Rattle.command_run.proofs.RunLaws.{ask_small, length_small, ask_alone, ask_named}
use Rattle.command_run.proofs.ask_in.Goals as goal

pub overflow_cast-frames : goal.overflow_cast-frames
overflow_cast-frames c =
    omega (arith, ask_small c.args.s c.requires)

pub returns-then-s-eq1 : goal.returns-then-s-eq1
returns-then-s-eq1 c =
    ask_alone c.args.s c.if-s-eq1.true

pub overflow_cast-length : goal.overflow_cast-length
overflow_cast-length c =
    omega (arith, length_small c.args.s c.requires c.if-s-eq1.false)

pub returns : goal.returns
returns c =
    ask_named c.args.s c.if-s-eq1.false
