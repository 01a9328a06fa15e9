-- `find_version` is right because the number says which of the kept versions it is, and the places of these are known.
use mathlib.Core.Path.{◌∙◌}
use native.Mathlib.Omega.{arith}
use Rattle.versions.proofs.AreaLaws.{FieldHere}
use Rattle.versions.proofs.AnswerLaws.{found_refused, found_none, found_field, found_there}
use Rattle.versions.proofs.find_version.Goals as goal

pub returns-in_default : goal.returns-in_default
returns-in_default c =
    c.not_found.ensures ∙ found_refused _ c.in_default.ensures _

pub returns-then-version-held : goal.returns-then-version-held
returns-then-version-held c =
    c.not_found-then-version-held.ensures ∙ found_none c.in-Some.ensures _ c.if-version-held.true

pub overflow_add-result : goal.overflow_add-result
overflow_add-result c =
    let here : FieldHere c.args.area.now c.place_of-at.result = rw c.place_of-at.ensures (found_field c.in-Some.ensures _ c.if-version-held.false) in
    omega (arith, here.start)

pub size_at-requires : goal.size_at-requires
size_at-requires c =
    let here : FieldHere c.args.area.now c.place_of-at.result = rw c.place_of-at.ensures (found_field c.in-Some.ensures _ c.if-version-held.false) in
    omega (arith, here.start)

pub overflow_sub-result : goal.overflow_sub-result
overflow_sub-result c =
    let here : FieldHere c.args.area.now c.place_of-at.result = rw c.place_of-at.ensures (found_field c.in-Some.ensures _ c.if-version-held.false) in
    omega (arith, here.some, c.size_at.ensures.is)

pub returns : goal.returns
returns c =
    found_there c.in-Some.ensures _ c.if-version-held.false _ c.place_of-at.ensures _ c.size_at.ensures.is
