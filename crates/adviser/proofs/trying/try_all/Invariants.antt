-- After each turn the range was gone on with once more; each turn goes on by one TTRT or more.
use Rattle.std.proofs.Common.{ℕ, ◌+◌, ◌-◌, ◌≡◌}
use Rattle.command_tune.specs.Tune.{went_on_for}
use Rattle.adviser.proofs.trying.try_all.Given as goal

abbrev pub invariant-loop-k : goal.invariant-loop-k
invariant-loop-k g l = (i : ℕ) × (l.k ≡ went_on_for i l.fn.first)

abbrev pub decreases-loop-k : goal.decreases-loop-k
decreases-loop-k g l = l.k.to + 1 - l.k.next
