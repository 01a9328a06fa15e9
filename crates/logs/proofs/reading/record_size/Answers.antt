-- `record_size` is right because a record is a visit of 20 bytes or a mark of 5.
use Rattle.std.proofs.Common.{sym, refl, ◌∙◌}
use Rattle.logs.specs.Records.{record_size}
use Rattle.logs.proofs.reading.record_size.Goals as goal

pub returns-then-visit_stands : goal.returns-then-visit_stands
unfolding record_size
returns-then-visit_stands c =
    rw (sym c.visit_stands.ensures ∙ c.if-visit_stands.true) refl

pub returns-then-mark_stands : goal.returns-then-mark_stands
unfolding record_size
returns-then-mark_stands c =
    rw (sym c.visit_stands.ensures ∙ c.if-visit_stands.false, sym c.mark_stands.ensures ∙ c.if-mark_stands.true) refl

pub returns : goal.returns
unfolding record_size
returns c =
    rw (sym c.visit_stands.ensures ∙ c.if-visit_stands.false, sym c.mark_stands.ensures ∙ c.if-mark_stands.false) refl
