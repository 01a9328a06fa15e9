-- `scan_sheet` is right because at each turn the walk from the cursor on is the rest of the definition's walk, and it stops where the definition stops.
use Prim.Native.Nat.{ℕ, suc, ◌<◌}
use mathlib.Core.Path.{◌≡◌, refl, sym, ap, ◌∙◌}
use mathlib.Core.Bool.{Bool, true, false}
use mathlib.Core.List.{List}
use mathlib.Core.Logic.{◌≢◌}
use native.Mathlib.Omega.{arith}
use lib.ListN.{length}
use Rattle.fields.specs.Fields.{end_tag, tag_at, behind, field_at, FieldWhole}
use Rattle.fields.specs.declared.Field.{Field}
use Rattle.fields.specs.declared.Passed.{Passed}
use Rattle.field_reader.specs.Cursor.{step_of}
use Rattle.field_reader.specs.declared.Step.{Step}
use Rattle.field_reader.specs.Scanned.{stops_at, stop_number, with_field, scanned}
use Rattle.field_reader.proofs.ScannedLaws.{passes, cursor_behind, has_tag, counts_one, scan_stops, scan_more}
use Rattle.field_reader.proofs.scan_sheet.Goals as goal

-- behind a field that passes the cursor stands where the next one begins
next_place : (bs : List ℕ) (at : ℕ) (passed : Passed) → FieldWhole bs at passed → (step_of bs at passed).at ≡ behind bs at
next_place bs at passed whole = cursor_behind bs at passed whole

-- what a turn knows of the field at which the walk does not stop
record Turn (bs : List ℕ) (at : ℕ) (passed : Passed) (step : Step) : Type 0 where
  whole : FieldWhole bs at passed
  inner : tag_at bs at ≢ end_tag
  tag : step.field.tag ≡ tag_at bs at
  next : step.at ≡ behind bs at

turn : (bs : List ℕ) (at : ℕ) (passed : Passed) (step : Step) (stop : Bool) → step ≡ step_of bs at passed → stop ≡ stops_at step.field → stop ≡ false → Turn bs at passed step
turn bs at passed step stop read said going =
    let field : step.field ≡ field_at bs at passed = ap (λ (r : Step). r.field) read in
    let here = passes bs at passed (ap stops_at (sym field) ∙ sym said ∙ going) in
    record {
      whole = here.0;
      inner = here.1;
      tag = ap (λ (f : Field). f.tag) field ∙ has_tag bs at passed here.0;
      next = ap (λ (r : Step). r.at) read ∙ next_place bs at passed here.0;
    }

pub loop-at-init : goal.loop-at-init
unfolding scanned
loop-at-init c =
    let bs = c.args.sheet.now in
    (c.step_of-step.ensures, omega arith, omega arith, (suc (length bs), (omega arith, refl)))

pub with_field-passed-requires : goal.with_field-passed-requires
with_field-passed-requires c =
    let here = turn c.args.sheet.now c.loop-at.at c.loop-at.passed c.loop-at.step _ c.loop-at.invariant.0 c.stops.ensures c.loop-at-test.true in
    let inside = here.whole.inside in
    let few = c.loop-at.invariant.1 in
    (omega arith, omega arith)

pub loop-at-smaller : goal.loop-at-smaller
loop-at-smaller c =
    let here = turn c.args.sheet.now c.loop-at.at c.loop-at.passed c.loop-at.step _ c.loop-at.invariant.0 c.stops.ensures c.loop-at-test.true in
    let inside = here.whole.inside in
    omega (arith, here.next)

pub loop-at-preserved : goal.loop-at-preserved
loop-at-preserved c =
    let bs = c.args.sheet.now in
    let at = c.loop-at.at in
    let passed = c.loop-at.passed in
    let here = turn bs at passed c.loop-at.step _ c.loop-at.invariant.0 c.stops.ensures c.loop-at-test.true in
    let one_more : c.with_field-passed.result ≡ with_field c.loop-at.passed (tag_at c.args.sheet.now c.loop-at.at) (behind c.args.sheet.now c.loop-at.at) =
    c.with_field-passed.ensures ∙ ap (λ (t : ℕ). with_field passed t c.loop-at.step.at) here.tag ∙ ap (with_field passed (tag_at bs at)) here.next in
    let inside = here.whole.inside in
    let inv = c.loop-at.invariant in (
      c.step_of-step-in-loop-at.ensures,
      rw one_more (omega (arith, inv.1, here.next, counts_one passed (tag_at bs at) (behind bs at))),
      omega (arith, here.next),
      scan_more bs at passed inv.3.0 _ inv.3.1.0 here.whole here.inner inv.3.1.1 _ _ one_more here.next,
    )

pub returns : goal.returns
returns c =
    let bs = c.args.sheet.now in
    let p = c.loop-at.passed in
    let a = c.loop-at.at in
    let inv = c.loop-at.invariant in
    let same : c.loop-at.step.field ≡ field_at bs a p = ap (λ (r : Step). r.field) inv.0 in
    let stop : stops_at (field_at bs a p) ≡ true = ap stops_at (sym same) ∙ sym c.stops.ensures ∙ c.loop-at-test.false in
    let some : 0 < inv.3.0 = omega (arith, inv.3.1.0) in
    ap (λ (k : ℕ). record { number = k; passed = p; at = a }) (c.stop_number.ensures ∙ ap (stop_number (length bs)) same) ∙ sym (scan_stops bs a p inv.3.0 some stop) ∙ inv.3.1.1
