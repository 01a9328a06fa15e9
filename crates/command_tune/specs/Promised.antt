-- What is promised of `tune`; `proofs/Promised.antt` proves it.
use Rattle.std.specs.Prelude.{ℕ, ◌+◌, ◌-◌, ◌<◌, ◌≡◌, true, List, ◌↔◌, ◌≢◌}
use Rattle.tuning.specs.Shown.{PlannedIn, Shown}
use Rattle.tuning.specs.Tunings.{with_ttrt}
use Rattle.command_tune.specs.Lines.{found_line, plan_line_of, number_of}
use Rattle.command_tune.specs.Tune.{requested, tune_number, begun, is_done, went_on_for, ended}

pub record Promised : Type 0 where
  -- wherever it is found that all were tried, all were: what is shown is that of the whole range
  pub whole : (bs : List ℕ) (from to i : ℕ)
      → is_done (went_on_for i (begun bs from to)) ≡ true → went_on_for i (begun bs from to) ≡ ended bs from to
  -- what the range shows is what planning says of it (`Shown`): none is missed, the count is exact, the best is the best
  pub shown : (bs : List ℕ) (from to : ℕ)
      → tune_number bs from to ≡ 0 → Shown (requested bs) from (to + 1 - from) (ended bs from to).seen
  -- status 0 exactly where the set has a plan at some TTRT of the range
  pub status : (bs : List ℕ) (from to : ℕ)
      → tune_number bs from to ≡ 0
      → (number_of (ended bs from to) ≡ 0) ↔ ((x : ℕ) × PlannedIn (requested bs) from (to + 1 - from) x)
  -- a refusal is its number
  pub refused : (bs : List ℕ) (from to : ℕ)
      → tune_number bs from to ≢ 0 → number_of (ended bs from to) ≡ tune_number bs from to
  -- the last line has the numbers of the first line that `plan` prints at the best TTRT
  pub plan_line_lem : (bs : List ℕ) (from to : ℕ)
      → tune_number bs from to ≡ 0 → 0 < (ended bs from to).seen.best
      → found_line (ended bs from to) 8 ≡ plan_line_of (with_ttrt (requested bs) (ended bs from to).seen.best)
  -- 245 times are enough
  pub ends : (bs : List ℕ) (from to : ℕ) → is_done (went_on_for 245 (begun bs from to)) ≡ true
