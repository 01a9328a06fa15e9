-- `refusal_of` is right because its body is the definition.
use Rattle.std.proofs.Common.{refl}
use Rattle.command_page.specs.Account.{refusal_of}
use Rattle.command_page.proofs.answer.refusal_of.Goals as goal

pub returns-then-refused : goal.returns-then-refused
unfolding refusal_of
returns-then-refused c =
    rw c.if-refused.true refl

pub returns : goal.returns
unfolding refusal_of
returns c =
    rw c.if-refused.false c.number_of.ensures
