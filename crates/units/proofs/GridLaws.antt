-- The laws of multiples of a grid, once for all layers.
use Prim.Native.Nat.{ℕ, zero, suc, ◌+◌, ◌-◌, ◌*◌, ◌/◌, ◌%◌, ◌≤◌, ◌<◌}
use mathlib.Core.Path.{◌≡◌, refl, sym, ap, ◌∙◌}
use mathlib.Core.Logic.{⊎_elim}
use native.Mathlib.Omega.{arith}
use native.Mathlib.Nat.{div-mul-le_self, div-add-mod', div-zero, mul-le-mul_left, mul-le-mul_right, mul_comm, mul_assoc, mul-one, mul-pos, mul-mod_left, zero-mul, suc-mul}
use borrow.Author.Tests.{eqb-true, eq-eqb}
use Rattle.units.specs.Small.{rounded_up}
use Rattle.units.proofs.SmallLaws.{below_or_not, shares_enough, shares_least}
use Rattle.units.proofs.PlaceLaws.{decides_all}
use Rattle.units.specs.Grid.{MultipleOf, on_grid, on_grid_at, AllOnGrid, all_on_grid, stepped}
use Rattle.units.specs.Judging.{Decides}

-- the test decides the sentence
pub decides_grid : (g x : ℕ) → Decides (on_grid g x) (MultipleOf g x)
decides_grid g x = (
  λ h. let none : x % g ≡ 0 = eqb-true (x % g) 0 h in (x / g, omega (arith, div-add-mod' x g)),
  λ m. eq-eqb (x % g) 0 (rw m.1 (mul-mod_left m.0 g)),
)

-- and at each of n places
pub decides_grids : (g n : ℕ) (s : ℕ → ℕ) → Decides (all_on_grid g n s) (AllOnGrid g n s)
decides_grids g n s = decides_all n (on_grid_at g s) (λ i. MultipleOf g (s i)) (λ i. decides_grid g (s i))

-- on a grid of 1 stands every whole number
pub every_multiple : (x : ℕ) → MultipleOf 1 x
every_multiple x = (x, sym (mul-one x))

-- ---- the smallest multiple of which q are enough

-- q multiples are k times q steps
steps_of : (g q k : ℕ) → q * (k * g) ≡ q * g * k
steps_of g q k = ap (λ (z : ℕ). q * z) (mul_comm k g) ∙ sym (mul_assoc q g k)

-- it is a multiple
pub step_multiple : (g q x : ℕ) → MultipleOf g (stepped g q x)
step_multiple g q x = (rounded_up x (q * g), refl)

-- q of it are enough
pub step_enough : (g q x : ℕ) → 0 < q → 0 < g → x ≤ q * stepped g q x
step_enough g q x p s = omega (arith, steps_of g q (rounded_up x (q * g)), shares_enough x (q * g) (mul-pos p s))

-- shared among nobody, or in steps of 0, it is 0
pub step_none : (g q x : ℕ) → q * g ≡ 0 → stepped g q x ≡ 0
step_none g q x none = let z : rounded_up x (q * g) ≡ 0 = rw (none, div-zero) refl in rw (z, zero-mul) refl

-- and no smaller multiple has q that are enough
pub step_least : (g q x v : ℕ) → MultipleOf g v → x ≤ q * v → stepped g q x ≤ v
step_least g q x v m h =
    let k = m.0 in
    let e : q * v ≡ q * g * k = ap (λ (z : ℕ). q * z) m.1 ∙ steps_of g q k in
    ⊎_elim (λ (pos : 0 < q * g).
    let l : rounded_up x (q * g) ≤ k = shares_least x (q * g) k pos (omega arith) in
    rw m.1 (mul-le-mul_right g l))
    (λ (none : q * g ≤ 0). omega (arith, step_none g q x (omega arith)))
    (below_or_not 0 (q * g))

-- ---- sizes

-- q of it are less than one step of each too many
pub step_shares : (g q x : ℕ) → q * stepped g q x ≤ x + q * g
step_shares g q x =
    let within : q * g * rounded_up x (q * g) ≤ x + (q * g - 1) = rw mul_comm (div-mul-le_self (x + (q * g - 1)) (q * g)) in
    omega (arith, steps_of g q (rounded_up x (q * g)))

-- and one of them is less than one step too large
pub step_small : (g q x : ℕ) → stepped g q x ≤ x + g
step_small g zero x = omega (arith, step_none g zero x (zero-mul g))
step_small g (suc q) x =
    ⊎_elim (λ (large : x + g < stepped g (suc q) x).
    let l : q * g ≤ q * stepped g (suc q) x = mul-le-mul_left q (omega arith) in
    absurd (omega (arith, step_shares g (suc q) x, suc-mul q (stepped g (suc q) x), suc-mul q g)))
    (λ (small : stepped g (suc q) x ≤ x + g). small)
    (below_or_not (x + g) (stepped g (suc q) x))
