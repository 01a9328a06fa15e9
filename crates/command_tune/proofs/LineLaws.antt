-- What is said of a refusal, and of a range that was tried.
use Prim.Native.Nat.{ℕ, zero, suc}
use mathlib.Core.Path.{◌≡◌, refl}
use mathlib.Core.Bool.{cond}
use mathlib.Core.Logic.{◌≢◌}
use lib.Dec.{eqb}
use Rattle.command_tune.specs.Lines.{count_for}

pub count_refused : (k count : ℕ) → k ≢ 0 → count_for k count ≡ 1
unfolding count_for
count_refused zero count n = absurd (n refl)
count_refused (suc k) count n = refl

pub count_accepted : (k count : ℕ) → k ≡ 0 → count_for k count ≡ cond (eqb count 0) 3 9
unfolding count_for
count_accepted k count e = rw e refl
