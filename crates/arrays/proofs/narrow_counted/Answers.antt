-- `narrow_counted` is right because it looks at the top twice, as the definition does, and adds a lap for each look that finds it reached.
use Prim.Native.Nat.{ℕ, ◌+◌, ◌-◌, ◌≤◌, ◌<◌, min}
use mathlib.Core.Path.{◌≡◌, refl, sym, ◌∙◌}
use mathlib.Core.Logic.{⊎_elim}
use native.Mathlib.Omega.{arith}
use Rattle.units.proofs.SmallLaws.{below_or_not}
use Rattle.arrays.specs.Held.{held}
use Rattle.arrays.specs.Laps.{lapped, lap, laps}
use Rattle.arrays.proofs.LapLaws.{lap_up, lap_none, lap_small}
use Rattle.arrays.proofs.narrow_counted.Goals as goal

-- the first look, from the number's own side
same_look : (t x top : ℕ) → x < top → lap (top - x) t ≡ lap top (t + x)
same_look t x top below =
    ⊎_elim (λ (b : t < top - x). lap_none (top - x) t b ∙ sym (lap_none top (t + x) (omega arith)))
    (λ (b : top - x ≤ t). lap_up (top - x) t b ∙ sym (lap_up top (t + x) (omega arith)))
    (below_or_not t (top - x))

-- the numbers one after another
counted : (count t x top first left second most r : ℕ) → x < top → first ≡ lap (top - x) t → left ≡ lapped top (t + x) → second ≡ lap top left → first ≤ 1 → second ≤ 1
    → most ≡ min count (4_294_967_295 - (first + second)) → r ≡ most + (first + second) → r ≡ held (count + laps top (t + x))
counted count t x top first left second most r below f l s small₁ small₂ m e =
    let sum : first + second ≡ laps top (t + x) = rw (s, l) (rw (f ∙ same_look t x top below) refl) in
    omega (arith, sum)

pub returns : goal.returns
returns c =
    let once : c.narrow_reached-first.result ≤ 1 = rw c.narrow_reached-first.ensures (lap_small _ _) in
    let twice : c.narrow_reached-second.result ≤ 1 = rw c.narrow_reached-second.ensures (lap_small _ _) in
    counted _ _ _ _ _ _ _ _ _ c.requires c.narrow_reached-first.ensures c.narrow_once.ensures c.narrow_reached-second.ensures once twice c.min.ensures refl
