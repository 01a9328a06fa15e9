-- One timer: reaching TTRT moves TTRT from the timer to the count, so that the number rises by the ticks alone; and a timer below TTRT is known by its number.
use Prim.Native.Nat.{ℕ, zero, suc, ◌+◌, ◌-◌, ◌*◌, ◌/◌, ◌≤◌, ◌<◌}
use mathlib.Core.Path.{◌≡◌, sym, ap, ◌∙◌}
use mathlib.Core.Bool.{true, false}
use mathlib.Core.Logic.{◌⊎◌, inl, inr, ⊎_elim}
use native.Mathlib.Omega.{arith}
use native.Mathlib.Nat.{mul-zero, mul-suc, mul-one, mul-add, mul-le-mul_left, div-add-mod, div-eq_of_lt, mul-add-div, mod-lt}
use native.Mathlib.Numerals.{add-one}
use borrow.Author.Tests.{lt-leb, eq-eqb, ne_eqb}
use lib.Dec.{eqb}
use Rattle.units.proofs.SmallLaws.{below_or_not}
use Rattle.fddi_timer_rules.specs.Timers.{Timer, ran, ticked, ticks, later, started_at, visited, offered}

mul_more : (a b : ℕ) → a * (b + 1) ≡ a * b + a
mul_more a b = rw (add-one b) (mul-suc a b)

-- ---- time passes

pub started : (ttrt x : ℕ) → 0 < ttrt → x ≤ ttrt → (ran ttrt (started_at ttrt x) ≡ x) × ((started_at ttrt x).timer < ttrt)
unfolding started_at
started ttrt x some l =
    ⊎_elim (λ (b : x < ttrt).
    let no : eqb x ttrt ≡ false = ne_eqb x ttrt (λ e. omega arith) in
    (rw no (omega (arith, mul-zero ttrt)), rw no b))
    (λ (b : ttrt ≤ x).
    let e : x ≡ ttrt = omega arith in
    let yes : eqb x ttrt ≡ true = eq-eqb x ttrt e in
    (rw yes (omega (arith, mul-one ttrt)), rw yes some))
    (below_or_not x ttrt)

pub later_ran : (ttrt x : ℕ) (t : Timer) → ran ttrt (later ttrt x t) ≡ ran ttrt t + x
unfolding later
later_ran ttrt x t = omega (arith, mul-add ttrt t.count ((t.timer + x) / ttrt), div-add-mod (t.timer + x) ttrt)

pub later_below : (ttrt x : ℕ) (t : Timer) → 0 < ttrt → (later ttrt x t).timer < ttrt
unfolding later
later_below ttrt x t some = mod-lt (t.timer + x) some

-- a timer below TTRT is known by its number
same_timer : (ttrt : ℕ) (a b : Timer) → a.timer < ttrt → b.timer < ttrt → ran ttrt a ≡ ran ttrt b → a ≡ b
same_timer ttrt a b la lb e =
    let pos : 0 < ttrt = omega arith in
    let count : a.count ≡ b.count = sym (counted ttrt a la) ∙ ap (λ (v : ℕ). v / ttrt) e ∙ counted ttrt b lb in
    let timer : a.timer ≡ b.timer = omega (arith, ap (λ (k : ℕ). ttrt * k) count) in
    λ i. record { count = count i; timer = timer i }
  where
    counted : (ttrt : ℕ) (t : Timer) → t.timer < ttrt → ran ttrt t / ttrt ≡ t.count
    counted ttrt t l =
        let pos : 0 < ttrt = omega arith in
        mul-add-div pos t.count t.timer ∙ rw (div-eq_of_lt l) (omega arith)

-- one tick raises the number by 1, and the timer stays below TTRT
ticked_ran : (ttrt : ℕ) (t : Timer) → t.timer < ttrt → (ran ttrt (ticked ttrt t) ≡ ran ttrt t + 1) × ((ticked ttrt t).timer < ttrt)
unfolding ticked
ticked_ran ttrt t l =
    ⊎_elim (λ (b : t.timer + 1 < ttrt).
    let no : eqb (t.timer + 1) ttrt ≡ false = ne_eqb (t.timer + 1) ttrt (λ e. omega arith) in
    (rw no (omega arith), rw no b))
    (λ (b : ttrt ≤ t.timer + 1).
    let e : t.timer + 1 ≡ ttrt = omega arith in
    let yes : eqb (t.timer + 1) ttrt ≡ true = eq-eqb (t.timer + 1) ttrt e in
    (rw yes (omega (arith, mul_more ttrt t.count)), rw yes (omega arith)))
    (below_or_not (t.timer + 1) ttrt)

-- so do x ticks, by x
ticks_ran : (ttrt x : ℕ) (t : Timer) → t.timer < ttrt → (ran ttrt (ticks ttrt x t) ≡ ran ttrt t + x) × ((ticks ttrt x t).timer < ttrt)
unfolding ticks
ticks_ran ttrt zero t l = (omega arith, l)
ticks_ran ttrt (suc x) t l =
    let before = ticks_ran ttrt x t l in
    let one = ticked_ran ttrt (ticks ttrt x t) before.1 in
    (omega (arith, before.0, one.0), one.1)

pub later_ticks : (ttrt x : ℕ) (t : Timer) → t.timer < ttrt → later ttrt x t ≡ ticks ttrt x t
later_ticks ttrt x t l =
    let ran_on_lem = ticks_ran ttrt x t l in
    same_timer ttrt (later ttrt x t) (ticks ttrt x t) (later_below ttrt x t (omega arith)) ran_on_lem.1 (later_ran ttrt x t ∙ sym ran_on_lem.0)

-- ---- a token comes

pub visited_ran : (ttrt : ℕ) (t : Timer) → t.timer < ttrt → ran ttrt (visited t) ≡ ran ttrt t - ttrt
unfolding visited
visited_ran ttrt t h =
    ⊎_elim (λ (b : 0 < t.count).
    let e : t.count ≡ t.count - 1 + 1 = omega arith in
    let m : ttrt * t.count ≡ ttrt * (t.count - 1) + ttrt = ap (λ (k : ℕ). ttrt * k) e ∙ mul_more ttrt (t.count - 1) in
    rw (lt-leb t.count 0 b) (omega arith))
    (λ (b : t.count ≤ 0).
    let z : t.count ≡ 0 = omega arith in
    rw (z, mul-zero ttrt) (omega arith))
    (below_or_not 0 t.count)

pub offered_is : (ttrt : ℕ) (t : Timer) → t.timer < ttrt → offered ttrt t ≡ ttrt - ran ttrt t
unfolding offered
offered_is ttrt t h =
    ⊎_elim (λ (b : 0 < t.count).
    let e : t.count ≡ t.count - 1 + 1 = omega arith in
    let m : ttrt * t.count ≡ ttrt * (t.count - 1) + ttrt = ap (λ (k : ℕ). ttrt * k) e ∙ mul_more ttrt (t.count - 1) in
    rw (lt-leb t.count 0 b) (omega arith))
    (λ (b : t.count ≤ 0).
    let z : t.count ≡ 0 = omega arith in
    rw (z, mul-zero ttrt) (omega arith))
    (below_or_not 0 t.count)

pub early : (ttrt f v a : ℕ) → a ≤ ttrt - v + f → (ttrt - v ≡ 0 → a ≡ 0) → (a ≡ 0) ⊎ ((v < ttrt) × (a + v ≤ ttrt + f))
early ttrt f v a h z = ⊎_elim (λ (b : v < ttrt). inr (b, omega arith)) (λ (b : ttrt ≤ v). inl (z (omega arith))) (below_or_not v ttrt)

two_or_more : {k : ℕ} → 1 < k → 1 + 1 ≤ k
two_or_more b = omega arith

-- a number below two TTRTs has a count of at most 1
pub count_small : (ttrt : ℕ) (t : Timer) → ran ttrt t < ttrt + ttrt → t.count ≤ 1
count_small ttrt t h =
    ⊎_elim (λ (b : 1 < t.count). absurd (omega (arith, mul-le-mul_left ttrt (two_or_more b), mul_more ttrt 1, mul-one ttrt))) (λ (b : t.count ≤ 1). b) (below_or_not 1 t.count)
