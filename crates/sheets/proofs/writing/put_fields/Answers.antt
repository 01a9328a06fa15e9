-- `put_fields` is right because header, stations and allocations are laid one behind the other.
use Prim.Native.Nat.{ℕ, ◌+◌}
use mathlib.Core.Path.{ap}
use native.Mathlib.Omega.{arith}
use Rattle.fields.proofs.FieldLaws.{allocations_few}
use Rattle.sheets.proofs.WritingLaws.{fields_laid}
use Rattle.sheets.proofs.writing.put_fields.Goals as goal

pub put_allocations-requires : goal.put_allocations-requires
put_allocations-requires c =
    let few = allocations_few c.args.plan c.args.t.now.n in
    let said = c.allocations_for-m.ensures in
    let begun = c.head_length-from.ensures in
    let fit = c.requires in
    (omega arith, omega (arith, fit.1, said, begun, c.put_stations.auto.out, c.put_head.auto.out))

pub returns : goal.returns
returns c =
    fields_laid c.args.plan c.args.t.now c.args.a.now _ _ _ _ _ _
    (record {
      head = c.put_head.ensures;
      stations = c.put_stations.ensures;
      allocations = c.put_allocations.ensures;
    })
    (ap (λ (k : ℕ). 7 + k) c.head_length-from.ensures) c.allocations_for-m.ensures c.requires.1
