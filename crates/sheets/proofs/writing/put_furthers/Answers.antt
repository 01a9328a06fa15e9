-- `put_furthers` is right because each turn lays one more field behind those laid.
use Prim.Native.Nat.{ℕ, ◌+◌}
use mathlib.Core.Path.{◌≡◌, ap, ◌∙◌}
use native.Mathlib.Omega.{arith}
use Rattle.sets.specs.Header.{head_number}
use Rattle.fields.specs.Rows.{rows, laid}
use Rattle.fields.specs.Header.{further_count}
use Rattle.sheets.specs.Layout.{further_bytes, further_length, further_field}
use Rattle.sheets.proofs.TagLaws.{tag_at}
use Rattle.sheets.proofs.WritingLaws.{length_small, head_small, further_begin, further_room, further_turn}
use Rattle.sheets.proofs.writing.put_furthers.Goals as goal

pub loop-tag-init : goal.loop-tag-init
loop-tag-init c =
    further_begin c.requires

pub put_further-requires : goal.put_further-requires
put_further-requires c =
    let tag = tag_at c.loop-tag.tag-index c.loop-tag-test.true in
    rw tag (further_room c.requires c.loop-tag.invariant c.loop-tag-test.true (c.head_number-number.ensures ∙ ap (head_number c.args.h) tag))

pub overflow_add-at : goal.overflow_add-at
overflow_add-at c =
    let k = c.loop-tag.tag-index in
    let tag = tag_at c.loop-tag.tag-index c.loop-tag-test.true in
    omega (
      arith,
      c.loop-tag.invariant.here,
      c.further_length-at.ensures ∙ ap (λ (t : ℕ). further_length t c.head_number-number.result) tag,
      length_small (4 + k) c.head_number-number.result,
      head_small c.args.h k,
    )

pub loop-tag-preserved : goal.loop-tag-preserved
loop-tag-preserved c =
    let tag = tag_at c.loop-tag.tag-index c.loop-tag-test.true in
    further_turn c.requires c.loop-tag.invariant c.loop-tag-test.true (c.head_number-number.ensures ∙ ap (head_number c.args.h) tag) (c.further_length-at.ensures ∙ ap (λ (t : ℕ). further_length t c.head_number-number.result) tag)
    (c.put_further.ensures ∙ ap (λ (t : ℕ). laid c.loop-tag.out c.loop-tag.at (further_bytes t c.head_number-number.result)) tag) c.put_further.auto.out

pub returns : goal.returns
returns c =
    let all : c.loop-tag.tag-index ≡ further_count = omega arith in
    c.loop-tag.invariant.so_far ∙ ap (λ (k : ℕ). laid c.args.out.now 7 (rows k (further_field c.args.h))) all
