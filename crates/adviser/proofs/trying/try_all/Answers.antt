-- `try_all` is right because after each turn the range was gone on with once more; it ends because each turn goes on by one TTRT or more.
use Rattle.std.proofs.Common.{suc, ◌+◌, ◌-◌, ◌<◌, ◌≡◌, false, sym, ap, ◌∙◌, arith}
use borrow.Author.Tests.{ltb-false}
use Rattle.command_tune.specs.Tune.{is_done, went_on}
use Rattle.command_tune.specs.declared.Tune.{Tune}
use Rattle.command_tune.proofs.TuneLaws.{went_more, went_none, went_again}
use Rattle.adviser.proofs.trying.try_all.Goals as goal

-- fewer are left behind a turn
fewer : (k : Tune) → is_done k ≡ false → (went_on k).to + 1 - (went_on k).next < k.to + 1 - k.next
fewer k e =
    let to = ap (λ (j : Tune). j.to) (went_more k e) in
    let next = ap (λ (j : Tune). j.next) (went_more k e) in
    omega (arith, to, next, ltb-false k.to k.next e)

pub loop-k-init : goal.loop-k-init
loop-k-init g c = (0, sym (went_none _))

pub loop-k-smaller : goal.loop-k-smaller
loop-k-smaller g c = rw c.go_on-k.ensures (fewer c.loop-k.k (sym c.loop-k-test.ensures))

pub loop-k-preserved : goal.loop-k-preserved
loop-k-preserved g c = (suc c.loop-k.invariant.0, c.go_on-k.ensures ∙ ap went_on c.loop-k.invariant.1 ∙ sym (went_again c.loop-k.invariant.0 _))
