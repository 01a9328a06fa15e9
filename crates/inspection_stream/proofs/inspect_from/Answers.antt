-- `inspect_from` is right because after each byte what is left of the inspection is the same.
use mathlib.Core.Path.{◌≡◌, ap, ◌∙◌}
use native.Mathlib.Omega.{arith}
use Rattle.log_records.specs.declared.NextEntry.{NextEntry}
use Rattle.log_stream.specs.Pieces.{entry_in, entries_of}
use Rattle.inspection_stream.specs.Inspecting.{looked_all}
use Rattle.inspection_stream.proofs.TurnLaws.{none_looked_lem, field_looked, going_first, going_on, going_ends}
use Rattle.inspection_stream.proofs.WholeLaws.{kept_as}
use Rattle.inspection_stream.proofs.inspect_from.Goals as goal
use Rattle.inspection_stream.proofs.inspect_from.Goals.{else-got-ne0, then-got-ne0}

pub loop-i-init : goal.loop-i-init
loop-i-init c =
    (omega arith, going_first _ _ _ _ _ _)

pub loop-i-preserved : goal.loop-i-preserved
loop-i-preserved c =
    let looked_then : let kept = c.args.inspecting in
    c.if-got-ne0.looked ≡ looked_all kept.start.set kept.start.alloc c.loop-i.looked (entries_of (entry_in c.step-gathered.result)) = let kept = c.args.inspecting in
    let t = kept.start.set in
    let a = kept.start.alloc in
    let l = c.loop-i.looked in
    let n = c.entry_in-got.result in
    let same : looked_all t a l (entries_of n) ≡ looked_all t a l (entries_of (entry_in c.step-gathered.result)) =
    ap (λ (x : NextEntry). looked_all t a l (entries_of x)) c.entry_in-got.ensures in
    elim c.if-got-ne0.branch [ then-got-ne0 w ↦ w.looked-is ∙ w.look-looked.ensures ∙ field_looked t a l c.step-gathered.result n c.entry_in-got.ensures w.if-got-ne0.true | else-got-ne0 w ↦ w.looked-is ∙ none_looked_lem t a l n w.if-got-ne0.false ∙ same ] in
    (omega (arith, c.loop-i.invariant.0), going_on _ _ _ _ _ _ _ _ _ _ _ c.loop-i.invariant.1 c.loop-i-test.true c.step-gathered.ensures looked_then)

pub returns : goal.returns
returns c =
    let done = going_ends _ _ _ _ _ _ _ _ _ c.loop-i.invariant.1 c.loop-i-test.false in
    kept_as _ done.0 done.1
