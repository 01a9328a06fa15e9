-- `head_length` is right because it adds the lengths of the fields behind TTRT, one after another.
use Prim.Native.Nat.{ℕ, ◌+◌}
use mathlib.Core.Path.{◌≡◌, sym, ap, ◌∙◌}
use native.Mathlib.Omega.{arith}
use Rattle.sets.specs.Header.{head_number}
use Rattle.fields.specs.Header.{further_count}
use Rattle.sheets.specs.Layout.{further_length, length_up_to}
use Rattle.sheets.proofs.TagLaws.{tag_at}
use Rattle.sheets.proofs.WritingLaws.{lengths_none, length_small, length_turn, head_small}
use Rattle.sheets.proofs.writing.head_length.Goals as goal

pub loop-tag-init : goal.loop-tag-init
loop-tag-init c =
    sym (lengths_none _)

pub overflow_add-sum : goal.overflow_add-sum
overflow_add-sum c =
    let k = c.loop-tag.tag-index in
    let tag = tag_at c.loop-tag.tag-index c.loop-tag-test.true in
    let size = c.further_length-sum.ensures ∙ ap (λ (t : ℕ). further_length t c.head_number.result) tag in
    omega (arith, size, length_small (4 + k) c.head_number.result, head_small c.args.h k)

pub loop-tag-preserved : goal.loop-tag-preserved
loop-tag-preserved c =
    let tag = tag_at c.loop-tag.tag-index c.loop-tag-test.true in
    length_turn c.args.h c.loop-tag.tag-index c.loop-tag.invariant (c.head_number.ensures ∙ ap (head_number c.args.h) tag)
    (c.further_length-sum.ensures ∙ ap (λ (t : ℕ). further_length t c.head_number.result) tag)

pub returns : goal.returns
returns c =
    let all : c.loop-tag.tag-index ≡ further_count = omega arith in
    c.loop-tag.invariant ∙ ap (length_up_to c.args.h) all
