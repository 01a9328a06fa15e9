-- `versions_in` is right because it hands on what was judged.
use mathlib.Core.Path.{◌∙◌}
use Rattle.versions.proofs.AnswerLaws.{versions_refused, versions_none, versions_some}
use Rattle.versions.proofs.versions_in.Goals as goal

pub returns-in_default : goal.returns-in_default
returns-in_default c =
    c.none_kept.ensures ∙ versions_refused _ c.in_default.ensures

pub returns-then-held-eq0 : goal.returns-then-held-eq0
returns-then-held-eq0 c =
    c.none_kept-then-held-eq0.ensures ∙ versions_none c.in-Some.ensures c.if-held-eq0.true

pub returns : goal.returns
returns c =
    versions_some c.in-Some.ensures c.if-held-eq0.false
