-- What every visit of an FDDI ring keeps. v i is how long station i's timer has run (`Timers`); the token is at station p, or about to go from the last one to station 0 (p = N).
-- The picture. Every station has a mark on a line, at E: v i and the walk from the token to station i, which is what its timer will show when the token comes if nobody sends on the way. The mark furthest to the right is that of the station that the token comes to next, and the others follow to the left in ring order (`falls`). No two are further apart than TTRT − τ (`near`), and none lies left of τ, for a timer has run for the walk all round when the token is back (`walked`). How far to the right a mark may lie is `late`: with every S on the way to it used, it comes to TTRT + f + the sum of S at most.
-- A visit takes the mark at the right end and puts it TTRT − τ further left, or at τ: so it is the last one then, and none of this is undone. Then all marks move to the right together by what the visit sent. Synchronous time is in `late` already; asynchronous time is sent only where the token came early, and it ends at most f after TTRT.
use Rattle.std.specs.Prelude.{ℕ, ◌+◌, ◌-◌, ◌≤◌, ◌<◌, ◌≡◌, ◌⊎◌, ◌≢◌}
use Rattle.units.specs.Places.{sum_below}

-- a plan: N, TTRT, f = F − 1, and S and w at each station
pub record Plan : Type 0 where
  pub n : ℕ
  pub ttrt : ℕ
  pub f : ℕ
  pub s : ℕ → ℕ
  pub w : ℕ → ℕ

-- the walk from station 0 to station k, and τ, the walk all round
abbrev pub walk : Plan → ℕ → ℕ
walk r k = sum_below k r.w

abbrev pub tau : Plan → ℕ
tau r = walk r r.n

-- the S of the stations before k, and of all
abbrev pub shares : Plan → ℕ → ℕ
shares r k = sum_below k r.s

abbrev pub all_shares : Plan → ℕ
all_shares r = shares r r.n

-- the token rule
abbrev pub TokenRule : Plan → Type 0
TokenRule r = all_shares r + tau r + r.f ≤ r.ttrt

-- a visit at station p that takes x ticks
pub record Visit (r : Plan) (v next : ℕ → ℕ) (p x : ℕ) : Type 0 where
  pub sync : ℕ
  pub async : ℕ
  -- the synchronous part is within S
  pub within : sync ≤ r.s p
  -- there is no asynchronous part, or the token came early and it ends at most f after TTRT
  pub early : (async ≡ 0) ⊎ ((v p < r.ttrt) × (async + v p ≤ r.ttrt + r.f))
  pub length : x ≡ sync + async + r.w p
  -- the station's own number falls by TTRT, held at 0; then every number rises by x
  pub here : next p ≡ v p - r.ttrt + x
  pub there : (i : ℕ) → i < r.n → i ≢ p → next i ≡ v i + x

-- Stations from p on (`ahead`) have the token before them in this round; those below p (`past`) had it already. In ring order the stations ahead come first.
pub record Kept (r : Plan) (v : ℕ → ℕ) (p : ℕ) : Type 0 where
  -- a timer has run at least as long as the token has walked since the station's last visit
  pub walked_ahead : (i : ℕ) → p ≤ i → i < r.n → tau r + walk r p ≤ v i + walk r i
  pub walked_past : (i : ℕ) → i < p → walk r p ≤ v i + walk r i
  -- the numbers fall in ring order from the token on, at least by the walk between
  pub falls_ahead : (i j : ℕ) → p ≤ i → i ≤ j → j < r.n → v j + walk r j ≤ v i + walk r i
  pub falls_past : (i j : ℕ) → i ≤ j → j < p → v j + walk r j ≤ v i + walk r i
  pub falls_round : (i j : ℕ) → p ≤ i → i < r.n → j < p → v j + tau r + walk r j ≤ v i + walk r i
  -- no two differ by more than TTRT less the walk the other way round
  pub near_ahead : (i j : ℕ) → p ≤ i → i ≤ j → j < r.n → v i + walk r i + tau r ≤ v j + walk r j + r.ttrt
  pub near_past : (i j : ℕ) → i ≤ j → j < p → v i + walk r i + tau r ≤ v j + walk r j + r.ttrt
  pub near_round : (i j : ℕ) → p ≤ i → i < r.n → j < p → v i + walk r i ≤ v j + walk r j + r.ttrt
  -- if the token came to the station with every S used and no asynchronous time on the way, it would have run at most TTRT + the sum of S + f
  pub late_ahead : (i : ℕ)
      → p ≤ i → i < r.n → v i + walk r i + shares r i ≤ r.ttrt + r.f + all_shares r + walk r p + shares r p
  pub late_past : (i : ℕ) → i < p → v i + tau r + walk r i + shares r i ≤ r.ttrt + r.f + walk r p + shares r p

-- the clock is at most v i after the start of station i's last visit, or after 0 before its first
abbrev pub Since : Plan → (ℕ → ℕ) → (ℕ → ℕ) → ℕ → Type 0
Since r v last clock = (i : ℕ) → i < r.n → clock ≤ last i + v i
