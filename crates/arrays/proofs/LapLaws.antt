-- A lap takes the top off a number that has reached it: the rest by the top stays, and the quotient falls by the laps. Below three tops two laps leave less than the top.
use Prim.Native.Nat.{ℕ, ◌+◌, ◌-◌, ◌*◌, ◌/◌, ◌%◌, ◌≤◌, ◌<◌}
use mathlib.Core.Path.{◌≡◌, sym, ◌∙◌}
use mathlib.Core.Logic.{⊎_elim}
use native.Mathlib.Omega.{arith}
use native.Mathlib.Nat.{mod-eq_of_lt, mod-eq-sub-mod, div-eq_of_lt, div-eq-sub-div}
use borrow.Author.Tests.{le-leb, lt-leb}
use Rattle.units.proofs.SmallLaws.{below_or_not}
use Rattle.arrays.specs.Laps.{lapped, lap, lapped_twice, laps}

module _ (top t : ℕ) where
  pub lapped_up : top ≤ t → lapped top t ≡ t - top
  unfolding lapped
  lapped_up h = rw (le-leb top t h)

  pub lapped_same : t < top → lapped top t ≡ t
  unfolding lapped
  lapped_same h = rw (lt-leb top t h)

  pub lap_up : top ≤ t → lap top t ≡ 1
  unfolding lap
  lap_up h = rw (le-leb top t h)

  pub lap_none : t < top → lap top t ≡ 0
  unfolding lap
  lap_none h = rw (lt-leb top t h)

  pub lap_small : lap top t ≤ 1
  lap_small =
      ⊎_elim (λ (b : t < top). omega (arith, lap_none b)) (λ (b : top ≤ t). omega (arith, lap_up b)) (below_or_not t top)

  lapped_rest : lapped top t % top ≡ t % top
  lapped_rest =
      ⊎_elim (λ (b : t < top). rw (lapped_same b)) (λ (b : top ≤ t). rw (lapped_up b) (sym (mod-eq-sub-mod b))) (below_or_not t top)

  lapped_quotient : 0 < top → lap top t + lapped top t / top ≡ t / top
  lapped_quotient some =
      ⊎_elim (λ (b : t < top). rw (lapped_same b, lap_none b) (omega arith))
      (λ (b : top ≤ t). rw (lapped_up b, lap_up b) (omega (arith, div-eq-sub-div some b)))
      (below_or_not t top)

  lapped_below : (k : ℕ) → t < top + k → top ≤ k → lapped top t < k
  lapped_below k h l =
      ⊎_elim (λ (b : t < top). rw (lapped_same b) (omega arith))
      (λ (b : top ≤ t). rw (lapped_up b) (omega arith))
      (below_or_not t top)

module _ (top t : ℕ) (some : 0 < top) (short : t < 3 * top) where
  below : lapped_twice top t < top
  below =
      lapped_below top (lapped top t) top (lapped_below top t (top + top) (omega arith) (omega arith)) (omega arith)

  pub twice_rest : lapped_twice top t ≡ t % top
  twice_rest = sym (mod-eq_of_lt below) ∙ lapped_rest top (lapped top t) ∙ lapped_rest top t

  pub twice_quotient : laps top t ≡ t / top
  twice_quotient =
      omega
      (arith, lapped_quotient top t some, lapped_quotient top (lapped top t) some, div-eq_of_lt below)
