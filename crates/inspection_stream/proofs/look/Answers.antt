-- `look` is right because the loop over the records looks at the one that the bytes hold, and behind a broken rule at none.
use mathlib.Core.Path.{refl, sym, ap, ◌∙◌}
use Rattle.log_records.specs.declared.NextEntry.{NextEntry}
use Rattle.logs.specs.Reading.{handed_from}
use Rattle.inspection.specs.Records.{inspected_all}
use Rattle.inspection_stream.proofs.LookLaws.{looked_as, look_stopped, look_on}
use Rattle.inspection_stream.proofs.look.Goals as goal

pub returns-then-state-ne0 : goal.returns-then-state-ne0
returns-then-state-ne0 c =
    sym (look_stopped _ _ _ _ c.if-state-ne0.true)

pub returns : goal.returns
unfolding handed_from inspected_all
returns c =
    looked_as c.inspect_records-inspection.ensures refl (ap (λ (x : NextEntry). x.entry) c.log_entry-handed.ensures) ∙ sym (look_on _ _ _ _ c.if-state-ne0.false)
