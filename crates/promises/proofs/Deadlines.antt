-- The arithmetic of a held message, with the station's numbers as they come: it is in time while k visits, each at most TTRT after the one before, are enough for what remains of it.
use Prim.Native.Nat.{ℕ, zero, suc, ◌+◌, ◌*◌, ◌≤◌, ◌<◌}
use mathlib.Core.Path.{◌≡◌}
use mathlib.Core.Logic.{⊎_elim}
use native.Mathlib.Omega.{arith}
use native.Mathlib.Nat.{mul-le-mul_left}
use Rattle.units.proofs.SmallLaws.{below_or_not, one_more_lem}
use Rattle.units.specs.Vectors.{whole_rotations}
use Rattle.plans.specs.Rules.{alpha, time_with, least_time}
use Rattle.plans.proofs.PlanLaws.{rotations_within}

-- k visits to come are enough for the remainder, and the last of them ends its synchronous part by the deadline: `clock + sent` less `trt` is when the last synchronous part ended
pub record Enough (ttrt s clock trt sent rest deadline k : ℕ) : Type 0 where
  pub shares : rest ≤ k * s
  pub ends : clock + sent + k * ttrt + rest ≤ deadline + k * s + trt

-- some number of visits is enough
abbrev pub InTime : ℕ → ℕ → ℕ → ℕ → ℕ → ℕ → ℕ → Type 0
InTime ttrt s clock trt sent rest deadline = (k : ℕ) × Enough ttrt s clock trt sent rest deadline k

module _ {ttrt s clock trt sent rest deadline : ℕ} (share : s ≤ ttrt) (held : 0 < rest) where
  -- looked at x ticks from now on, while the token is not late, the remainder can still be sent by the deadline
  pub in_time : (x : ℕ) → trt + x + s ≤ ttrt + sent → InTime ttrt s clock trt sent rest deadline → clock + x + rest ≤ deadline
  in_time x soon e = go e.0 e.1
    where
      go : (k : ℕ) → Enough ttrt s clock trt sent rest deadline k → clock + x + rest ≤ deadline
      go zero h = absurd (omega arith)
      go (suc k) h = omega (arith, mul-le-mul_left k share)

  -- the station sends its whole share of it x ticks from now on, and something is left: one visit less is enough for that
  pub served_in_time : (x rise left : ℕ) → trt + x + s ≤ ttrt + sent → left + s ≡ rest → InTime ttrt s clock trt sent rest deadline → InTime ttrt s (clock + x + rise) rise s left deadline
  served_in_time x rise left soon parts e = go e.0 e.1
    where
      go : (k : ℕ) → Enough ttrt s clock trt sent rest deadline k → InTime ttrt s (clock + x + rise) rise s left deadline
      go zero h = absurd (omega arith)
      go (suc k) h = (k, record { shares = omega arith; ends = omega arith })

-- while a message is in time, the last synchronous part ended by its deadline
pub ended_in_time : {ttrt s clock trt sent rest deadline : ℕ} → s ≤ ttrt → InTime ttrt s clock trt sent rest deadline → clock + sent ≤ deadline + trt
ended_in_time share e = omega (arith, e.1.ends, mul-le-mul_left e.0 share)

-- a station whose last synchronous part ended by the arrival is in time, whatever is at most X of it remains
pub fresh_in_time : {ttrt s clock trt sent rest : ℕ} (arrival d : ℕ) → rest ≤ least_time ttrt d s → clock + sent ≤ arrival + trt → InTime ttrt s clock trt sent rest (arrival + d)
fresh_in_time {ttrt} {s} {clock} {trt} {sent} {rest} arrival d fits ended = go (whole_rotations ttrt d) (alpha ttrt d) fits (rotations_within ttrt d) (omega arith)
  where
    go : (m α : ℕ) → rest ≤ time_with m α s → m * ttrt ≤ d → (m + 1) * ttrt ≤ d + α → InTime ttrt s clock trt sent rest (arrival + d)
    go m α fit whole more =
        ⊎_elim (λ (b : m * s < rest). (m + 1, record { shares = omega (arith, one_more_lem m s); ends = omega (arith, one_more_lem m s) }))
        (λ (b : rest ≤ m * s). (m, record { shares = b; ends = omega arith }))
        (below_or_not (m * s) rest)

-- while another station is visited, nothing changes but clock and TRT, by as much
pub later_in_time : {ttrt s clock trt sent rest deadline : ℕ} (x : ℕ) → InTime ttrt s clock trt sent rest deadline → InTime ttrt s (clock + x) (trt + x) sent rest deadline
later_in_time x e = (e.0, record { shares = e.1.shares; ends = omega (arith, e.1.ends) })
