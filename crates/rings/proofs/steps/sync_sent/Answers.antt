-- `sync_sent` is right because its branch is the definition's own.
use Prim.Native.Nat.{ℕ, min}
use mathlib.Core.Path.{◌≡◌, refl, sym, subst, ◌∙◌}
use mathlib.Core.Bool.{true, false, ◌&&◌}
use native.Mathlib.Omega.{arith}
use lib.Dec.{leb, ltb}
use Rattle.rings.specs.Steps.{most_sent}
use Rattle.rings.proofs.RingLaws.{served, not_served}
use Rattle.rings.specs.Views.{point_of}
use Rattle.rings.proofs.steps.sync_sent.Goals as goal

pub returns-then-held-arrived : goal.returns-then-held-arrived
returns-then-held-arrived c =
    let args = c.args in
    let v = args.v in
    let r = point_of v in
    let is : c.min.result ≡ min (most_sent r) v.rest = c.min.ensures ∙ rw (c.most_sent.ensures.is, c.from.ensures) refl in
    record {
      is = is ∙ sym (served r args.asynchronous (subst (λ (x : ℕ). (ltb 0 v.rest && leb v.arrival x) ≡ true) c.sync_start-start.ensures c.if-held-arrived.true));
      allotted = omega (arith, c.min.ensures, c.most_sent.ensures.small);
      rest = omega (arith, is);
    }

pub returns : goal.returns
returns c =
    let args = c.args in
    let v = args.v in
    record { is = sym (not_served (point_of v) args.asynchronous (subst (λ (x : ℕ). (ltb 0 v.rest && leb v.arrival x) ≡ false) c.sync_start-start.ensures c.if-held-arrived.false)); allotted = omega arith; rest = omega arith }
