-- `watch_on` is right because behind each byte what is left to do is the same, and a byte that ends a record that is drawn is the last.
use Rattle.std.proofs.Common.{◌≡◌, arith}
use Rattle.picture_stream.proofs.TurnLaws.{going_first, going_ends, going_on, going_past, going_stops}
use Rattle.picture_stream.proofs.watch_on.Goals as goal
use Rattle.picture_stream.proofs.watch_on.Goals.{then-got-ne0+else-is_drawn, else-got-ne0}

pub loop-i-init : goal.loop-i-init
loop-i-init c =
    record { behind = omega arith; left = going_first _ _ _ _; inside = omega arith }

-- a record that is not drawn, or no record
pub loop-i-preserved : goal.loop-i-preserved
loop-i-preserved c =
    let left = c.loop-i.invariant.left in
    record {
      behind = omega (arith, c.loop-i.invariant.behind);
      left =
          elim c.if-got-ne0.branch [ then-got-ne0+else-is_drawn w ↦ rw (w.numbers-is, w.mark-is, w.course-is, w.looked-is) (going_past _ _ _ _ _ _ left c.loop-i-test.true _ c.step-gathered.ensures _ c.entry_in-got.ensures w.if-got-ne0.true _ w.look-looked.ensures _ w.see_on-course.ensures _ w.is_drawn.ensures w.if-is_drawn.false) | else-got-ne0 w ↦ rw (w.numbers-is, w.mark-is, w.course-is, w.looked-is) (going_on _ _ _ _ _ _ left c.loop-i-test.true _ c.step-gathered.ensures _ c.entry_in-got.ensures w.if-got-ne0.false) ];
      inside = omega (arith, c.loop-i-test.true);
    }

-- a record that is drawn
pub returns-then-is_drawn : goal.returns-then-is_drawn
returns-then-is_drawn c =
    going_stops _ _ _ _ _ _ c.loop-i.invariant.left c.loop-i-test.true _ c.step-gathered.ensures _ c.entry_in-got.ensures c.if-got-ne0.true _ c.look-looked.ensures _ c.see_on-course.ensures _ c.is_drawn.ensures c.if-is_drawn.true _ c.together-watching.ensures _ c.hand_out-drawn.ensures

-- the end of the bytes
pub returns : goal.returns
returns c =
    let at_end : c.max.result ≡ c.loop-i.i = omega (arith, c.max.ensures, c.loop-i.invariant.behind, c.loop-i.invariant.inside, c.loop-i-test.false) in
    rw (c.together-watching-2.ensures, at_end) (going_ends _ _ _ _ _ _ c.loop-i.invariant.left c.loop-i-test.false)
