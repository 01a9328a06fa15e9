-- `walk_records` is right because at each turn the walk from the place on is the rest of the definition's walk, and it stops where the definition stops.
use Rattle.std.proofs.Common.{◌≡◌, ℕ, suc, ◌<◌, ◌≢◌, length, sym, refl, ap, ◌∙◌, arith}
use Rattle.logs.specs.Records.{record_size}
use Rattle.logs.specs.Walked.{walked}
use Rattle.logs.proofs.RecordLaws.{RecordThere, record_there}
use Rattle.logs.proofs.WalkLaws.{walk_stops, walk_more}
use Rattle.logs.proofs.reading.walk_records.Goals as goal

pub loop-size-init : goal.loop-size-init
unfolding walked
loop-size-init c =
    let bs = c.args.bs.now in
    (omega arith, c.record_size-size.ensures, (suc (length bs), (omega arith, refl)))

pub overflow_add-at : goal.overflow_add-at
overflow_add-at c =
    let some : let args = c.args in
    record_size args.bs.now c.loop-size.at ≢ 0 = λ z. c.loop-size-test.true (c.loop-size.invariant.1 ∙ z) in
    let there : let args = c.args in
    RecordThere args.bs.now c.loop-size.at = let args = c.args in record_there args.bs.now c.loop-size.at (some) in
    omega (arith, there.inside, c.loop-size.invariant.1)

pub overflow_add-records : goal.overflow_add-records
overflow_add-records c =
    let some : let args = c.args in
    record_size args.bs.now c.loop-size.at ≢ 0 = λ z. c.loop-size-test.true (c.loop-size.invariant.1 ∙ z) in
    let there : let args = c.args in
    RecordThere args.bs.now c.loop-size.at = let args = c.args in record_there args.bs.now c.loop-size.at (some) in
    let inv = c.loop-size.invariant in
    omega (arith, there.inside, there.some, inv.0, inv.1)

pub loop-size-smaller : goal.loop-size-smaller
loop-size-smaller c =
    let some : let args = c.args in
    record_size args.bs.now c.loop-size.at ≢ 0 = λ z. c.loop-size-test.true (c.loop-size.invariant.1 ∙ z) in
    let there : let args = c.args in
    RecordThere args.bs.now c.loop-size.at = let args = c.args in record_there args.bs.now c.loop-size.at (some) in
    omega (arith, there.inside, there.some, c.loop-size.invariant.1)

pub loop-size-preserved : goal.loop-size-preserved
loop-size-preserved c =
    let some : let args = c.args in
    record_size args.bs.now c.loop-size.at ≢ 0 = λ z. c.loop-size-test.true (c.loop-size.invariant.1 ∙ z) in
    let there : let args = c.args in
    RecordThere args.bs.now c.loop-size.at = let args = c.args in record_there args.bs.now c.loop-size.at (some) in
    let bs = c.args.bs.now in
    let inv = c.loop-size.invariant in
    let more = walk_more bs c.loop-size.records c.loop-size.at inv.2.0 _ inv.2.1.0 some inv.2.1.1 in
    (omega (arith, there.some, inv.0, inv.1), c.record_size-size-in-loop-size.ensures, rw inv.1 more)

pub returns : goal.returns
returns c =
    let bs = c.args.bs.now in
    let n = c.loop-size.records in
    let a = c.loop-size.at in
    let inv = c.loop-size.invariant in
    let none : record_size bs a ≡ 0 = sym inv.1 ∙ c.loop-size-test.false in
    let more : 0 < inv.2.0 = omega (arith, inv.2.1.0) in
    ap (λ (k : ℕ). record { number = k; records = n; at = a }) c.stop_number.ensures ∙ sym (walk_stops bs n a inv.2.0 more none) ∙ inv.2.1.1
