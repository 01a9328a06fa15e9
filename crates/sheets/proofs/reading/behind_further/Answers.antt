-- `behind_further` is right because it asks for the tag at the place, as the definition does.
use mathlib.Core.Path.{sym, ap, ◌∙◌}
use Prim.Native.Nat.{ℕ, ◌+◌}
use native.Mathlib.Omega.{arith}
use Rattle.fields.proofs.FieldLaws.{further_small}
use Rattle.fields.proofs.HeaderLaws.{behind_there, behind_not}
use Rattle.sheets.proofs.reading.behind_further.Goals as goal

pub overflow_add-result-then-bs-at : goal.overflow_add-result-then-bs-at
overflow_add-result-then-bs-at c =
    let args = c.args in
    omega (arith, c.further_size.ensures, further_small args.tag)

pub returns-then-bs-at : goal.returns-then-bs-at
returns-then-bs-at c =
    let args = c.args in
    ap (λ (k : ℕ). args.at + 3 + k) c.further_size.ensures ∙ sym (behind_there args.bs.now args.tag args.at c.if-bs-at.true)

pub returns : goal.returns
returns c =
    let args = c.args in
    sym (behind_not args.bs.now args.tag args.at c.if-bs-at.false)
