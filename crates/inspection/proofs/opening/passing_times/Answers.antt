-- `passing_times` is right because what was walked so far is the sum of w before the present station, on the counter.
use Rattle.std.proofs.Common.{◌≡◌, ℕ, ◌+◌, ◌%◌, ◌^◌, min, sym, refl, ap, ◌∙◌, arith}
use native.Mathlib.Nat.{mod-add-mod}
use Rattle.units.specs.Places.{at, sum_below, fill, zeros}
use Rattle.units.proofs.PlaceLaws.{sum_none, sum_step, fill_none, fill_then}
use Rattle.arrays.proofs.LoopLaws.{fill_all}
use Rattle.inspection.specs.Opening.{passing_times}
use Rattle.inspection.proofs.opening.passing_times.Goals as goal
use Rattle.inspection.proofs.opening.passing_times.Invariants.{passed}

pub loop-i-init : goal.loop-i-init
loop-i-init c =
    (rw (sum_none _) refl, sym (fill_none _ _))

pub loop-i-preserved : goal.loop-i-preserved
loop-i-preserved c =
    let w = c.args.w.now in
    let i = c.loop-i.i in
    let inv = c.loop-i.invariant in
    let walked : c.later-walked.result ≡ passed w (i + 1) =
    c.later-walked.ensures ∙ ap (λ (x : ℕ). (x + at w i) % 2 ^ 32) inv.0 ∙ mod-add-mod (sum_below i (at w)) (2 ^ 32) (at w i) ∙ ap (λ (x : ℕ). x % 2 ^ 32) (sym (sum_step i (at w))) in
    (walked, fill_then i (passed w) zeros _ _ inv.1 inv.0)

pub returns : goal.returns
unfolding passing_times
returns c =
    let w = c.args.w.now in
    let all : c.loop-i.i ≡ min c.args.n 128 = omega arith in
    c.loop-i.invariant.1 ∙ ap (λ (k : ℕ). fill k (passed w) zeros) all ∙ fill_all (passed w) zeros refl c.args.n
