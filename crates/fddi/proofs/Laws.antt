-- The laws of FDDI's rules: X, and sums. No rule stands here.
use Prim.Native.Nat.{ℕ, zero, suc, ◌+◌, ◌-◌, ◌*◌, ◌<◌, min}
use mathlib.Core.Path.{◌≡◌}
use native.Mathlib.Omega.{arith}
use Rattle.units.specs.Places.{sum_below}
use Rattle.units.proofs.PlaceLaws.{sum_split, from_step}
use Rattle.fddi.specs.Rules.{time_with, others}

-- ---- X

pub time_none : (q over s : ℕ) → q ≡ 0 → time_with q over s ≡ 0
unfolding time_with
time_none q over s h = rw h

pub time_some : (q over s : ℕ) → 0 < q → time_with q over s ≡ (q - 1) * s + min over s
unfolding time_with
time_some zero over s h = absurd (omega arith)
time_some (suc k) over s h =
    let e : suc k - 1 ≡ k = omega arith in
    rw e

-- ---- the others' S

-- the others' S and the station's own are all S
pub others_own : (n : ℕ) (s : ℕ → ℕ) (i : ℕ) → i < n → others n s i + s i ≡ sum_below n s
others_own n s i l = omega (arith, sum_split n s i (omega arith), from_step n s i l)
