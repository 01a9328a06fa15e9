-- `tried` is right because its tests are the definition's, in its order; what is left of TTRT has room in 32 bits.
use Prim.Native.Nat.{◌+◌, ◌≤◌, ◌<◌}
use mathlib.Core.Path.{◌≡◌, refl, sym, ◌∙◌}
use mathlib.Core.Bool.{true, false}
use native.Mathlib.Omega.{arith}
use borrow.Author.Tests.{lt-leb, le-leb}
use lib.Dec.{leb}
use Rattle.units.specs.Numbers.{most_ttrt}
use Rattle.units.specs.Judging.{between}
use Rattle.units.proofs.JudgingLaws.{decides_between}
use Rattle.tuning.specs.Bounds.{needed_at}
use Rattle.tuning.proofs.TriedLaws.{with_plan_lem, without_plan}
use Rattle.tuning.proofs.tried.Goals as goal

pub returns-then-not-ranged : goal.returns-then-not-ranged
returns-then-not-ranged c =
    let e : between 1 most_ttrt c.args.x ≡ false = c.if-not-ranged.true in
    sym (without_plan _ _ _ _ _ (rw e refl))

pub returns-then-not-walked : goal.returns-then-not-walked
returns-then-not-walked c =
    let ranged : between 1 most_ttrt c.args.x ≡ true = c.if-not-ranged.false in
    let args = c.args in
    let e : between 1 args.x args.h.tau ≡ false = c.if-not-walked.true in
    sym (without_plan _ _ _ _ _ (rw (ranged, e) refl))

pub overflow_cast-ttrt : goal.overflow_cast-ttrt
overflow_cast-ttrt c =
    let ranged : between 1 most_ttrt c.args.x ≡ true = c.if-not-ranged.false in
    let within : let args = c.args in (1 ≤ args.x) × (args.x ≤ most_ttrt) = (decides_between 1 most_ttrt c.args.x).0 (ranged) in
    omega (arith, within.1)

pub sum_at-requires : goal.sum_at-requires
sum_at-requires c =
    let ranged : between 1 most_ttrt c.args.x ≡ true = c.if-not-ranged.false in
    let within : let args = c.args in (1 ≤ args.x) × (args.x ≤ most_ttrt) = (decides_between 1 most_ttrt c.args.x).0 (ranged) in
    let pre = c.requires in
    (within.0, pre.grid, pre.few)

pub returns-then-x-needed : goal.returns-then-x-needed
returns-then-x-needed c =
    let needed : let args = c.args in c.sum_at.result + args.h.lost ≡ needed_at args.h args.c.now args.d.now args.x = rw c.sum_at.ensures.is refl in
    let ranged : between 1 most_ttrt c.args.x ≡ true = c.if-not-ranged.false in
    let walked : let args = c.args in between 1 args.x args.h.tau ≡ true = c.if-not-walked.false in
    let args = c.args in
    let short : args.x < needed_at args.h args.c.now args.d.now args.x = omega (arith, needed) in
    let e : leb (needed_at args.h args.c.now args.d.now args.x) args.x ≡ false = lt-leb _ _ short in
    sym (without_plan _ _ _ _ _ (rw (ranged, walked, e) refl))

pub overflow_cast-x : goal.overflow_cast-x
overflow_cast-x c =
    let ranged : between 1 most_ttrt c.args.x ≡ true = c.if-not-ranged.false in
    let within : let args = c.args in (1 ≤ args.x) × (args.x ≤ most_ttrt) = (decides_between 1 most_ttrt c.args.x).0 (ranged) in
    omega (arith, within.1)

pub returns : goal.returns
returns c =
    let needed : let args = c.args in c.sum_at.result + args.h.lost ≡ needed_at args.h args.c.now args.d.now args.x = rw c.sum_at.ensures.is refl in
    let ranged : between 1 most_ttrt c.args.x ≡ true = c.if-not-ranged.false in
    let walked : let args = c.args in between 1 args.x args.h.tau ≡ true = c.if-not-walked.false in
    let args = c.args in
    let room : needed_at args.h args.c.now args.d.now args.x ≤ args.x = omega (arith, needed) in
    let fit = with_plan_lem args.h args.c.now args.d.now args.x args.k (rw (ranged, walked, le-leb _ _ room) refl) in
    c.counted.ensures ∙ rw needed (sym fit)
