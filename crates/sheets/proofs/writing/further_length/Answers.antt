-- `further_length` is right because it asks the definition's test.
use Prim.Native.Nat.{ℕ, ◌+◌}
use mathlib.Core.Path.{sym, ap, ◌∙◌}
use native.Mathlib.Omega.{arith}
use Rattle.fields.proofs.FieldLaws.{further_small}
use Rattle.sheets.proofs.WritingLaws.{length_none, length_some}
use Rattle.sheets.proofs.writing.further_length.Goals as goal

pub returns-then-number-eq-ABSENT : goal.returns-then-number-eq-ABSENT
returns-then-number-eq-ABSENT c =
    let args = c.args in
    sym (length_none args.tag args.number c.if-number-eq-ABSENT.true)

pub overflow_add-result : goal.overflow_add-result
overflow_add-result c =
    omega (arith, c.further_size.ensures, further_small c.args.tag)

pub returns : goal.returns
returns c =
    let args = c.args in
    ap (λ (k : ℕ). 3 + k) c.further_size.ensures ∙ sym (length_some args.tag args.number c.if-number-eq-ABSENT.false)
