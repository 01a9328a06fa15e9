-- What is promised of FDDI's timers; `proofs/Promised.antt` proves it.
use Rattle.std.specs.Prelude.{ℕ, ◌+◌, ◌-◌, ◌≤◌, ◌<◌, ◌≡◌, ◌⊎◌, ◌≢◌}
use Rattle.units.specs.Places.{sum_from}
use Rattle.fddi_timer_rules.specs.Timers.{Timer, ran, ticks, later, started_at, visited, offered}
use Rattle.fddi_timer_rules.specs.Kept.{Plan, tau, all_shares, TokenRule, Visit, Kept, Since}

pub record Promised : Type 0 where
  -- a timer that starts within TTRT stands at its number, and below TTRT: one that starts at TTRT is 0 with count 1
  pub started : (ttrt x : ℕ)
      → 0 < ttrt → x ≤ ttrt → (ran ttrt (started_at ttrt x) ≡ x) × ((started_at ttrt x).timer < ttrt)
  -- x ticks at once are x ticks one after another
  pub later_ticks : (ttrt x : ℕ) (t : Timer) → t.timer < ttrt → later ttrt x t ≡ ticks ttrt x t
  -- time passing raises the number by the ticks, and the timer stays below TTRT
  pub later_ran : (ttrt x : ℕ) (t : Timer) → ran ttrt (later ttrt x t) ≡ ran ttrt t + x
  pub later_below : (ttrt x : ℕ) (t : Timer) → 0 < ttrt → (later ttrt x t).timer < ttrt
  -- a token takes TTRT off the number, held at 0, and offers TTRT less the number, held at 0
  pub visited_ran : (ttrt : ℕ) (t : Timer) → t.timer < ttrt → ran ttrt (visited t) ≡ ran ttrt t - ttrt
  pub offered_is : (ttrt : ℕ) (t : Timer) → t.timer < ttrt → offered ttrt t ≡ ttrt - ran ttrt t
  -- so an asynchronous part that is at most f above what is offered, and nothing where nothing is, is as `Visit` asks
  pub early : (ttrt f v a : ℕ) → a ≤ ttrt - v + f → (ttrt - v ≡ 0 → a ≡ 0) → (a ≡ 0) ⊎ ((v < ttrt) × (a + v ≤ ttrt + f))
  -- opening: the silent rotation has left each timer at the walk from its station to the last
  pub opened : (r : Plan) (v : ℕ → ℕ) → TokenRule r → ((i : ℕ) → i < r.n → v i ≡ sum_from i r.n r.w) → Kept r v 0
  -- a visit keeps it, with the token at the next station, after the last one at station 0
  pub next : (r : Plan) (v u : ℕ → ℕ) (p x : ℕ)
      → TokenRule r → Kept r v p → Visit r v u p x → p + 1 < r.n → Kept r u (p + 1)
  pub round : (r : Plan) (v u : ℕ → ℕ) (p x : ℕ)
      → TokenRule r → Kept r v p → Visit r v u p x → p + 1 ≡ r.n → Kept r u 0
  -- no number is above that of the token's station, and on its arrival that is at most TTRT + the sum of S + f
  pub first : (r : Plan) (v : ℕ → ℕ) (p : ℕ) → Kept r v p → p < r.n → (i : ℕ) → i < r.n → v i ≤ v p
  pub arrival : (r : Plan) (v : ℕ → ℕ) (p : ℕ) → Kept r v p → p < r.n → v p ≤ r.ttrt + all_shares r + r.f
  -- the clock and the last starts go along
  pub since : (r : Plan) (v u : ℕ → ℕ) (p x : ℕ) (last later : ℕ → ℕ) (clock : ℕ)
      → Visit r v u p x → Since r v last clock
      → later p ≡ clock → ((i : ℕ) → i ≢ p → later i ≡ last i) → Since r u later (clock + x)
  -- so successive arrivals at a station are at most TTRT + the sum of S + f apart, and the first is at most so late
  pub apart : (r : Plan) (v : ℕ → ℕ) (p : ℕ) (last : ℕ → ℕ) (clock : ℕ) → Kept r v p → p < r.n → Since r v last clock
      → clock ≤ last p + (r.ttrt + all_shares r + r.f)
  -- the bound that 02 asks for has τ in it too
  pub apart_with_walk : (r : Plan) (v : ℕ → ℕ) (p : ℕ) (last : ℕ → ℕ) (clock : ℕ)
      → Kept r v p → p < r.n → Since r v last clock
      → clock ≤ last p + (r.ttrt + all_shares r + tau r + r.f)
  -- no late count is ever above 1
  pub counts : (r : Plan) (v : ℕ → ℕ) (p : ℕ) (i : ℕ) (t : Timer)
      → TokenRule r → 0 < tau r → Kept r v p → p < r.n → i < r.n → v i ≡ ran r.ttrt t
      → t.count ≤ 1
