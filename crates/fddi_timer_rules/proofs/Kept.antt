-- One visit keeps the invariants: for stations that do not have the token every number rises by the same x, so their differences stay;
-- the pairs with the token's station come from what the others say of them.
use Prim.Native.Nat.{ℕ, ◌+◌, ◌≤◌, ◌<◌}
use mathlib.Core.Path.{◌≡◌}
use mathlib.Core.Logic.{◌⊎◌, inl, inr, ⊎_elim, ◌≢◌}
use native.Mathlib.Omega.{arith}
use Rattle.units.specs.Places.{sum_below, sum_from}
use Rattle.units.proofs.PlaceLaws.{sum_step, sum_split, sum_none}
use Rattle.units.proofs.SmallLaws.{below_or_not}
use Rattle.fddi_timer_rules.specs.Kept.{Plan, walk, tau, shares, all_shares, TokenRule, Visit, Kept, Since}

-- the first k places are at most the first n
part : (f : ℕ → ℕ) (k n : ℕ) → k ≤ n → sum_below k f ≤ sum_below n f
part f k n l = omega (arith, sum_split n f k l)

same_or_not : (i p : ℕ) → (i ≡ p) ⊎ (i ≢ p)
same_or_not i p =
    ⊎_elim (λ (a : i < p). inr (λ e. omega arith))
    (λ (a : p ≤ i). ⊎_elim (λ (b : p < i). inr (λ e. omega arith)) (λ (b : i ≤ p). inl (omega arith)) (below_or_not p i))
    (below_or_not i p)

-- ---- opening

pub opened : (r : Plan) (v : ℕ → ℕ) → TokenRule r → ((i : ℕ) → i < r.n → v i ≡ sum_from i r.n r.w) → Kept r v 0
opened r v rule h =
    -- the timer and the walk to the station are τ
    let whole : (i : ℕ) → i < r.n → v i + walk r i ≡ tau r = λ i l. omega (arith, h i l, sum_split r.n r.w i (omega arith)) in
    let w0 = sum_none r.w in
    let s0 = sum_none r.s in
    record {
      walked_ahead = λ i a l. omega (arith, whole i l);
      walked_past = λ i b. absurd (omega arith);
      falls_ahead = λ i j a b l. omega (arith, whole i (omega arith), whole j l);
      falls_past = λ i j a b. absurd (omega arith);
      falls_round = λ i j a l b. absurd (omega arith);
      near_ahead = λ i j a b l. omega (arith, whole i (omega arith), whole j l);
      near_past = λ i j a b. absurd (omega arith);
      near_round = λ i j a l b. absurd (omega arith);
      late_ahead = λ i a l. omega (arith, whole i l, part r.s i r.n (omega arith));
      late_past = λ i b. absurd (omega arith);
    }

-- ---- a visit: the token is then past station p

module _ (r : Plan) (v u : ℕ → ℕ) (p x : ℕ) (rule : TokenRule r) (inside : p < r.n) (k : Kept r v p) (t : Visit r v u p x) where
  -- station p or one before it
  at_or_before : (i : ℕ) → i < p + 1 → (i ≡ p) ⊎ (i < p)
  at_or_before i l = ⊎_elim (λ (b : i < p). inr b) (λ (b : p ≤ i). inl (omega arith)) (below_or_not i p)

  ahead : (i : ℕ) → p + 1 ≤ i → i < r.n → u i ≡ v i + x
  ahead i a l = t.there i l (λ e. omega arith)

  past : (i : ℕ) → i < p → u i ≡ v i + x
  past i b = t.there i (omega arith) (λ e. omega arith)

  step_walk : walk r (p + 1) ≡ walk r p + r.w p
  step_walk = sum_step p r.w

  step_shares : shares r (p + 1) ≡ shares r p + r.s p
  step_shares = sum_step p r.s

  walked_ahead : (i : ℕ) → p + 1 ≤ i → i < r.n → tau r + walk r (p + 1) ≤ u i + walk r i
  walked_ahead i a l = omega (arith, ahead i a l, k.walked_ahead i (omega arith) l, step_walk, t.length)

  walked_past : (i : ℕ) → i < p + 1 → walk r (p + 1) ≤ u i + walk r i
  walked_past i b =
      ⊎_elim (λ e. rw e (omega (arith, t.here, step_walk, t.length))) (λ c. omega (arith, past i c, k.walked_past i c, step_walk, t.length))
      (at_or_before i b)

  falls_ahead : (i j : ℕ) → p + 1 ≤ i → i ≤ j → j < r.n → u j + walk r j ≤ u i + walk r i
  falls_ahead i j a b l = omega (arith, ahead i a (omega arith), ahead j (omega arith) l, k.falls_ahead i j (omega arith) b l)

  -- the token's station falls behind all others
  here_past : (i : ℕ) → i < p → u p + walk r p ≤ u i + walk r i
  here_past i c = omega (arith, t.here, past i c, k.near_round p i (omega arith) inside c, k.walked_past i c)

  falls_past : (i j : ℕ) → i ≤ j → j < p + 1 → u j + walk r j ≤ u i + walk r i
  falls_past i j a b =
      ⊎_elim (λ e.
      rw e (⊎_elim (λ d. rw d (omega arith)) (λ c. here_past i c) (at_or_before i (omega arith))))
      (λ c. omega (arith, past i (omega arith), past j c, k.falls_past i j a c))
      (at_or_before j b)

  falls_round : (i j : ℕ) → p + 1 ≤ i → i < r.n → j < p + 1 → u j + tau r + walk r j ≤ u i + walk r i
  falls_round i j a l b =
      ⊎_elim (λ e. rw e (omega (arith, t.here, ahead i a l, k.near_ahead p i (omega arith) (omega arith) l, k.walked_ahead i (omega arith) l)))
      (λ c. omega (arith, ahead i a l, past j c, k.falls_round i j (omega arith) l c))
      (at_or_before j b)

  near_ahead : (i j : ℕ) → p + 1 ≤ i → i ≤ j → j < r.n → u i + walk r i + tau r ≤ u j + walk r j + r.ttrt
  near_ahead i j a b l = omega (arith, ahead i a (omega arith), ahead j (omega arith) l, k.near_ahead i j (omega arith) b l)

  near_past : (i j : ℕ) → i ≤ j → j < p + 1 → u i + walk r i + tau r ≤ u j + walk r j + r.ttrt
  near_past i j a b =
      ⊎_elim (λ e.
      rw e
      (⊎_elim (λ d. rw d (omega arith))
      (λ c. omega (arith, t.here, past i c, k.falls_round p i (omega arith) inside c))
      (at_or_before i (omega arith))))
      (λ c. omega (arith, past i (omega arith), past j c, k.near_past i j a c))
      (at_or_before j b)

  near_round : (i j : ℕ) → p + 1 ≤ i → i < r.n → j < p + 1 → u i + walk r i ≤ u j + walk r j + r.ttrt
  near_round i j a l b =
      ⊎_elim (λ e. rw e (omega (arith, t.here, ahead i a l, k.falls_ahead p i (omega arith) (omega arith) l)))
      (λ c. omega (arith, ahead i a l, past j c, k.near_round i j (omega arith) l c))
      (at_or_before j b)

  late_ahead : (i : ℕ) → p + 1 ≤ i → i < r.n → u i + walk r i + shares r i ≤ r.ttrt + r.f + all_shares r + walk r (p + 1) + shares r (p + 1)
  late_ahead i a l =
      let rose = ahead i a l in
      ⊎_elim (λ none. omega (arith, k.late_ahead i (omega arith) l, step_walk, step_shares, t.length, t.within))
      (λ early. omega (arith, k.falls_ahead p i (omega arith) (omega arith) l, part r.s i r.n (omega arith), step_walk, step_shares, t.length, t.within))
      t.early

  late_past : (i : ℕ) → i < p + 1 → u i + tau r + walk r i + shares r i ≤ r.ttrt + r.f + walk r (p + 1) + shares r (p + 1)
  late_past i b =
      ⊎_elim (λ e.
      rw e
      (⊎_elim (λ none. omega (arith, t.here, k.late_ahead p (omega arith) inside, step_walk, step_shares, t.length, t.within))
      (λ early. omega (arith, t.here, k.walked_ahead p (omega arith) inside, step_walk, step_shares, t.length, t.within))
      t.early))
      (λ c.
      let rose = past i c in
      ⊎_elim (λ none. omega (arith, k.late_past i c, step_walk, step_shares, t.length, t.within))
      (λ early. omega (arith, k.falls_round p i (omega arith) inside c, part r.s i p (omega arith), step_walk, step_shares, t.length, t.within))
      t.early)
      (at_or_before i b)

  pub stepped : Kept r u (p + 1)
  stepped =
      record {
        walked_ahead = walked_ahead;
        walked_past = walked_past;
        falls_ahead = falls_ahead;
        falls_past = falls_past;
        falls_round = falls_round;
        near_ahead = near_ahead;
        near_past = near_past;
        near_round = near_round;
        late_ahead = late_ahead;
        late_past = late_past;
      }

-- the token past the last station is the token at the first
pub wrapped : (r : Plan) (v : ℕ → ℕ) → Kept r v r.n → Kept r v 0
wrapped r v k =
    let w0 = sum_none r.w in
    let s0 = sum_none r.s in
    record {
      walked_ahead = λ i a l. omega (arith, k.walked_past i l);
      walked_past = λ i b. absurd (omega arith);
      falls_ahead = λ i j a b l. k.falls_past i j b l;
      falls_past = λ i j a b. absurd (omega arith);
      falls_round = λ i j a l b. absurd (omega arith);
      near_ahead = λ i j a b l. k.near_past i j b l;
      near_past = λ i j a b. absurd (omega arith);
      near_round = λ i j a l b. absurd (omega arith);
      late_ahead = λ i a l. omega (arith, k.late_past i l);
      late_past = λ i b. absurd (omega arith);
    }

-- ---- what follows

-- no number is above that of the token's station
pub first : (r : Plan) (v : ℕ → ℕ) (p : ℕ) → Kept r v p → p < r.n → (i : ℕ) → i < r.n → v i ≤ v p
first r v p k inside i l =
    ⊎_elim (λ (b : i < p). omega (arith, k.falls_round p i (omega arith) inside b, part r.w p r.n (omega arith)))
    (λ (b : p ≤ i). omega (arith, k.falls_ahead p i (omega arith) b l, part r.w p i b))
    (below_or_not i p)

pub arrival : (r : Plan) (v : ℕ → ℕ) (p : ℕ) → Kept r v p → p < r.n → v p ≤ r.ttrt + all_shares r + r.f
arrival r v p k inside = omega (arith, k.late_ahead p (omega arith) inside)

pub since : (r : Plan) (v u : ℕ → ℕ) (p x : ℕ) (last later : ℕ → ℕ) (clock : ℕ) → Visit r v u p x → Since r v last clock → later p ≡ clock → ((i : ℕ) → i ≢ p → later i ≡ last i)
    → Since r u later (clock + x)
since r v u p x last later clock t h here there i l =
    ⊎_elim (λ (e : i ≡ p). rw e (omega (arith, t.here))) (λ (d : i ≢ p). omega (arith, t.there i l d, there i d, h i l)) (same_or_not i p)
