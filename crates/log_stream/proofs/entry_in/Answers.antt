-- `entry_in` is right because it asks whether the record is whole, as the definition does.
use mathlib.Core.Path.{◌∙◌}
use Rattle.log_stream.proofs.StepLaws.{none_in, one_in}
use Rattle.log_stream.proofs.entry_in.Goals as goal

pub returns-then-is_whole : goal.returns-then-is_whole
returns-then-is_whole c =
    c.log_entry.ensures ∙ one_in _ _ c.is_whole.ensures c.if-is_whole.true

pub returns : goal.returns
returns c =
    rw c.blank_visit.ensures (none_in _ _ c.is_whole.ensures c.if-is_whole.false)
