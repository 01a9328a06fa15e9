-- FDDI's timers keep their promises: opening gives the invariants, a visit keeps them, and the token's station bounds all others.
use Prim.Native.Nat.{ℕ, ◌+◌, ◌≤◌, ◌<◌}
use mathlib.Core.Path.{◌≡◌}
use native.Mathlib.Omega.{arith}
use Rattle.fddi_timer_rules.specs.Timers.{Timer, ran}
use Rattle.fddi_timer_rules.specs.Kept.{Plan, tau, all_shares, TokenRule, Visit, Kept, Since}
use Rattle.fddi_timer_rules.specs.Promised.{Promised}
use Rattle.fddi_timer_rules.proofs.Timers.{started, later_ticks, later_ran, later_below, visited_ran, offered_is, early, count_small}
use Rattle.fddi_timer_rules.proofs.Kept.{opened, stepped, wrapped, first, arrival, since}

round : (r : Plan) (v u : ℕ → ℕ) (p x : ℕ) → TokenRule r → Kept r v p → Visit r v u p x → p + 1 ≡ r.n → Kept r u 0
round r v u p x rule k t e = wrapped r u (rw e at (stepped r v u p x rule (omega arith) k t))

apart : (r : Plan) (v : ℕ → ℕ) (p : ℕ) (last : ℕ → ℕ) (clock : ℕ) → Kept r v p → p < r.n → Since r v last clock → clock ≤ last p + (r.ttrt + all_shares r + r.f)
apart r v p last clock k inside h = omega (arith, h p inside, arrival r v p k inside)

counts : (r : Plan) (v : ℕ → ℕ) (p : ℕ) (i : ℕ) (t : Timer) → TokenRule r → 0 < tau r → Kept r v p → p < r.n → i < r.n → v i ≡ ran r.ttrt t → t.count ≤ 1
counts r v p i t rule some k inside l e =
    count_small r.ttrt t (omega (arith, first r v p k inside i l, arrival r v p k inside))

pub promised : Promised
promised =
    record {
      started = started;
      later_ticks = later_ticks;
      later_ran = later_ran;
      later_below = later_below;
      visited_ran = visited_ran;
      offered_is = offered_is;
      early = early;
      opened = opened;
      next = λ r v u p x rule k t l. stepped r v u p x rule (omega arith) k t;
      round = round;
      first = first;
      arrival = arrival;
      since = since;
      apart = apart;
      apart_with_walk = λ r v p last clock k inside h. omega (arith, apart r v p last clock k inside h);
      counts = counts;
    }
