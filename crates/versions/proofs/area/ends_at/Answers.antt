-- `ends_at` is right because it goes by the tests of the definition, in their order.
use mathlib.Core.Path.{sym, ◌∙◌}
use native.Mathlib.Omega.{arith}
use Rattle.versions.proofs.AreaLaws.{ends_short, ends_other, ends_zeros}
use Rattle.versions.proofs.area.ends_at.Goals as goal

pub returns-then-saturating_sub-lt3 : goal.returns-then-saturating_sub-lt3
returns-then-saturating_sub-lt3 c =
    let some = c.saturating_sub.ensures in
    sym (ends_short _ _ (omega arith))

pub returns-then-area-at : goal.returns-then-area-at
returns-then-area-at c =
    let args = c.args in
    let some = c.saturating_sub.ensures in
    sym (ends_other args.area.now args.at (omega arith) c.size_at-size.ensures.is c.if-area-at.true)

pub returns : goal.returns
returns c =
    let args = c.args in
    let some = c.saturating_sub.ensures in
    c.zeros_from.ensures
    ∙ sym (ends_zeros args.area.now args.at (omega arith) c.size_at-size.ensures.is c.if-area-at.false)
