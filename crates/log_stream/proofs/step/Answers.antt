-- `step` is right because it stops at a fault, as the definition does, and else adds the byte to its field.
use mathlib.Core.Path.{ap, ◌∙◌}
use Rattle.log_stream.specs.Pieces.{with_byte, told}
use Rattle.log_stream.specs.declared.Gathered.{Gathered}
use Rattle.log_stream.proofs.StepLaws.{step_stopped, step_ended, step_on, room}
use Rattle.log_stream.proofs.step.Goals as goal

pub returns-then-v-ne-ACCEPTED : goal.returns-then-v-ne-ACCEPTED
returns-then-v-ne-ACCEPTED c =
    step_stopped _ _ c.if-v-ne-ACCEPTED.true

pub returns-then-v : goal.returns-then-v
returns-then-v c =
    c.with_fault.ensures ∙ step_ended _ _ c.if-v-ne-ACCEPTED.false c.if-v.true

pub with_byte-requires : goal.with_byte-requires
with_byte-requires c =
    rw c.at_field-begun.ensures (room _)

pub returns : goal.returns
returns c =
    let byte = c.args.byte in
    c.tell.ensures
    ∙ ap told (c.with_byte.ensures ∙ ap (λ (v : Gathered). with_byte v byte) c.at_field-begun.ensures)
    ∙ step_on _ _ c.if-v-ne-ACCEPTED.false c.if-v.false
