-- `at_field` is right because it asks whether the record is whole, and for 20 bytes, as the definition does.
use mathlib.Core.Path.{sym, ◌∙◌}
use Rattle.log_stream.proofs.StepLaws.{begins_anew, goes_on}
use Rattle.log_stream.proofs.at_field.Goals as goal

pub returns-then-begins : goal.returns-then-begins
returns-then-begins c =
    c.begin.ensures ∙ sym (begins_anew _ _ c.is_whole.ensures c.if-begins.true)

pub returns : goal.returns
returns c =
    sym (goes_on _ _ c.is_whole.ensures c.if-begins.false)
