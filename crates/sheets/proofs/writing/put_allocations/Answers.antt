-- `put_allocations` is right because each turn lays one more row behind the rows laid.
use Prim.Native.Nat.{ℕ, ◌<◌}
use mathlib.Core.Path.{◌≡◌, ap, ◌∙◌}
use native.Mathlib.Omega.{arith}
use lib.ListN.{length-take}
use lib.Seq.{get_or-take}
use Rattle.fields.specs.Rows.{laid, rows}
use Rattle.sheets.specs.Layout.{allocation_bytes}
use Rattle.sheets.proofs.WritingLaws.{allocation_length, rows_begin, rows_turn}
use Rattle.sheets.proofs.writing.put_allocations.Goals as goal

pub loop-i-init : goal.loop-i-init
loop-i-init c =
    rows_begin

pub loop-i-preserved : goal.loop-i-preserved
loop-i-preserved c =
    let args = c.args in
    let inside : c.loop-i.i < c.args.m = omega (arith, length-take args.m args.a.now.s) in
    let laid_there = rw (get_or-take args.m args.a.now.s c.loop-i.i 0 inside) at c.put_allocation.ensures in
    rows_turn (λ i. allocation_length _) c.loop-i.invariant inside c.requires.1 laid_there c.put_allocation.auto.out

pub returns : goal.returns
returns c =
    let args = c.args in
    let all : c.loop-i.i ≡ c.args.m = omega (arith, length-take args.m args.a.now.s) in
    c.loop-i.invariant.so_far ∙ ap (λ (k : ℕ). laid args.out.now args.from (rows k (allocation_bytes args.a.now))) all
