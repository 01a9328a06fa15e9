-- `walk_on` is right because it counts a version exactly where the definition does.
use mathlib.Core.Path.{sym, ◌∙◌}
use native.Mathlib.Omega.{arith}
use Rattle.versions.proofs.AreaLaws.{version_here, turn_over, turn_fails, turn_more}
use Rattle.versions.proofs.area.walk_on.Goals as goal

pub returns-then-walked-k : goal.returns-then-walked-k
returns-then-walked-k c =
    turn_over c.requires c.if-walked-k.true

pub returns-then-not-version_stands : goal.returns-then-not-version_stands
returns-then-not-version_stands c =
    let asked = rw (c.from.ensures, c.from-2.ensures) at c.version_stands.ensures in
    turn_fails c.requires c.if-walked-k.false (sym asked ∙ c.if-not-version_stands.true)

pub overflow_add-result-2 : goal.overflow_add-result-2
overflow_add-result-2 c =
    let here = version_here _ _ _ (sym c.version_stands.ensures ∙ c.if-not-version_stands.false) in
    omega (arith, here.field.start)

pub size_at-requires : goal.size_at-requires
size_at-requires c =
    let here = version_here _ _ _ (sym c.version_stands.ensures ∙ c.if-not-version_stands.false) in
    omega (arith, here.field.start)

pub overflow_add-result-3 : goal.overflow_add-result-3
overflow_add-result-3 c =
    let here = version_here _ _ _ (sym c.version_stands.ensures ∙ c.if-not-version_stands.false) in
    omega (arith, here.field.inside, c.size_at.ensures.is)

pub returns : goal.returns
returns c =
    let asked = rw (c.from.ensures, c.from-2.ensures) at c.version_stands.ensures in
    rw c.size_at.ensures.is (turn_more c.requires c.if-walked-k.false (sym asked ∙ c.if-not-version_stands.false))
