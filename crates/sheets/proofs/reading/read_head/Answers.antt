-- `read_head` is right because it looks for each field behind those before it, and puts its number into the header.
use Prim.Native.Nat.{ℕ, ◌+◌}
use mathlib.Core.Path.{◌≡◌, sym, ap, ◌∙◌}
use native.Mathlib.Numerals.{add-one}
use native.Mathlib.Omega.{arith}
use Rattle.sets.specs.Header.{head_of, head_number, with_head_number}
use Rattle.sets.proofs.HeaderLaws.{head_so_far, so_far_more, so_far_all}
use Rattle.fields.specs.Fields.{mode_tag}
use Rattle.fields.specs.Header.{further_count, behind_tag, further_place, given_at}
use Rattle.sheets.proofs.TagLaws.{tag_at}
use Rattle.fields.proofs.HeaderLaws.{place_first, place_next}
use Rattle.sheets.specs.Reading.{head_in}
use Rattle.sheets.proofs.ReadingLaws.{number_at_lem, places_rise}
use Rattle.sheets.proofs.reading.read_head.Goals as goal

pub loop-tag-init : goal.loop-tag-init
unfolding head_so_far
loop-tag-init c =
    (sym (place_first _), c.head_of-head.ensures ∙ ap head_of c.number_at-ttrt.ensures)

-- a field begins before the end of the header
pub read_further-number-requires : goal.read_further-number-requires
read_further-number-requires c =
    omega (arith, c.requires, c.loop-tag.invariant.0, places_rise c.args.bs.now c.loop-tag.tag-index (omega arith))

pub behind_further-at-requires : goal.behind_further-at-requires
behind_further-at-requires c =
    omega (arith, c.requires, c.loop-tag.invariant.0, places_rise c.args.bs.now c.loop-tag.tag-index (omega arith))

pub loop-tag-preserved : goal.loop-tag-preserved
loop-tag-preserved c =
    let k = c.loop-tag.tag-index in
    let bs = c.args.bs.now in
    let tag = tag_at c.loop-tag.tag-index c.loop-tag-test.true in
    let place = c.loop-tag.invariant.0 in
    let number : c.read_further-number.result ≡ head_number (head_in bs) (mode_tag + k) =
    c.read_further-number.ensures ∙ ap (given_at bs c.loop-tag.at) tag ∙ ap (λ (a : ℕ). given_at bs a (mode_tag + k)) place ∙ sym (number_at_lem bs k c.loop-tag-test.true) in (
      c.behind_further-at.ensures ∙ ap (λ (t : ℕ). behind_tag bs t c.loop-tag.at) tag ∙ ap (behind_tag bs (mode_tag + k)) place ∙ sym (place_next bs k) ∙ ap (further_place bs) (sym (add-one k)),
      c.with_head_number-head.ensures
          ∙ ap (λ (t : ℕ). with_head_number c.loop-tag.head t c.read_further-number.result) tag
          ∙ rw (c.loop-tag.invariant.1, number) (sym (so_far_more (head_in bs) k)),
    )

pub returns : goal.returns
returns c =
    let bs = c.args.bs.now in
    let all : c.loop-tag.tag-index ≡ further_count = omega arith in
    c.loop-tag.invariant.1 ∙ ap (head_so_far (head_in bs)) all ∙ so_far_all (head_in bs)
