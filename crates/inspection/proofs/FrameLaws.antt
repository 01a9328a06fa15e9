-- Frames: the divisors of an amount come in pairs, so the smaller of each pair is enough to find them all.
use Rattle.std.proofs.Common.{◌≡◌, ℕ, zero, suc, ◌+◌, ◌-◌, ◌*◌, ◌/◌, ◌%◌, ◌^◌, ◌<◌, ◌≤◌, Bool, true, false, ◌&&◌, ◌||◌, eqb, ltb, leb, sym, refl, ap, ◌∙◌, ⊎_elim, true≢false, le_trans, mul-le-mul_right, mul-le-mul_left, div-add-mod', le-div_iff_mul-le, zero-mul, div-mul-le_self, arith, le-ltb, lt-ltb, eq-eqb, ne_eqb, eqb-true, le-leb, leb-true}
use mathlib.Core.Bool.{false≢true}
use native.Mathlib.Nat.{mul-mod_right, mul-div_right, mod-one}
use borrow.Author.Tests.{lt-leb}
use Rattle.units.specs.Judging.{between}
use Rattle.units.proofs.JudgingLaws.{true_or_false, and-true, true_and}
use Rattle.units.proofs.SmallLaws.{below_or_not}
use Rattle.inspection.specs.Frames.{any_below, given_by, frames_fit, divided_between}

-- ---- some place

-- a test that holds at a place holds somewhere
pub any_of : (n : ℕ) (f : ℕ → Bool) (k : ℕ) → k < n → f k ≡ true → any_below n f ≡ true
unfolding any_below
any_of zero f k l h = absurd (omega arith)
any_of (suc n) f k l h =
    ⊎_elim (λ (b : k < n). rw (any_of n f k b h))
    (λ (b : n ≤ k). let e : k ≡ n = omega arith in let here : f n ≡ true = rw e at h in rw here (or_last (any_below n f)))
    (below_or_not k n)
  where
    or_last : (b : Bool) → (b || true) ≡ true
    or_last true = refl
    or_last false = refl

-- one that holds at none holds nowhere
pub any_none : (n : ℕ) (f : ℕ → Bool) → ((k : ℕ) → k < n → f k ≡ false) → any_below n f ≡ false
unfolding any_below
any_none zero f h = refl
any_none (suc n) f h = rw (any_none n f (λ k l. h k (omega arith)), h n (omega arith))

-- where it holds somewhere, there is a place
pub any_at : (n : ℕ) (f : ℕ → Bool) → any_below n f ≡ true → (k : ℕ) × ((k < n) × (f k ≡ true))
unfolding any_below
any_at zero f h = absurd (false≢true h)
any_at (suc n) f h =
    ⊎_elim (λ (b : any_below n f ≡ true). let w = any_at n f b in (w.0, (omega (arith, w.1.0), w.1.1)))
    (λ (b : any_below n f ≡ false). let here : f n ≡ true = rw b at h in (n, (omega arith, here)))
    (true_or_false (any_below n f))

-- two tests that agree below n
any_same : (n : ℕ) (f g : ℕ → Bool) → ((k : ℕ) → k < n → f k ≡ g k) → any_below n f ≡ any_below n g
unfolding any_below
any_same zero f g h = refl
any_same (suc n) f g h = rw (any_same n f g (λ k l. h k (omega arith)), h n (omega arith))

-- ---- divisors

-- of a range that a number is not below its top of, it is below its bottom
below_range : (low high x : ℕ) → between low high x ≡ false → x ≤ high → leb low x ≡ false
below_range low high x out l =
    ⊎_elim (λ (b : leb low x ≡ true). absurd (false≢true (sym out ∙ true_and _ _ b (le-leb x high l)))) (λ b. b) (true_or_false (leb low x))

module _ (amount low high : ℕ) where
  -- no divisor below d is in the range, nor is the other one of its pair
  pub record Tried (d : ℕ) : Type 0 where
    pub some : 1 ≤ d
    pub short : d ≤ 65_536
    pub none : (l : ℕ) → 1 ≤ l → l < d → amount % l ≡ 0 → (between low high l ≡ false) × (between low high (amount / l) ≡ false)

  pub tried_first : Tried 1
  tried_first = record { some = omega arith; short = omega arith; none = λ l some below. absurd (omega arith) }

  -- the smaller one of a pair of divisors is short
  short : (d : ℕ) → amount < 2 ^ 32 → d ≤ amount / d → d < 65_536
  short d small l =
      ⊎_elim (λ (b : d < 65_536). b)
      (λ (b : 65_536 ≤ d). absurd (omega (arith, div-mul-le_self amount d, mul-le-mul_right d (le_trans b l))))
      (below_or_not d 65_536)

  pub tried_next : (d : ℕ) → Tried d → amount < 2 ^ 32 → d ≤ amount / d
      → (amount % d ≡ 0 → (between low high d ≡ false) × (between low high (amount / d) ≡ false)) → Tried (d + 1)
  tried_next d t small l out =
      record {
        some = omega arith;
        short = omega (arith, short d small l);
        none = λ l some below divides.
            ⊎_elim (λ (b : l < d). t.none l some b divides)
            (λ (b : d ≤ l). let e : l ≡ d = omega arith in rw e (out (rw e at divides)))
            (below_or_not l d);
      }

  -- a divisor in the range
  pub divides_in : (x : ℕ) → 1 ≤ x → amount % x ≡ 0 → between low high x ≡ true → divided_between amount low high ≡ true
  unfolding divided_between
  divides_in x some divides inside =
      let e : x - 1 + 1 ≡ x = omega arith in
      let both = and-true (leb low x) (leb x high) inside in
      let top : x ≤ high = leb-true x high both.1 in
      any_of high (λ k. eqb (amount % (k + 1)) 0 && leb low (k + 1)) (x - 1) (omega arith) (rw e (true_and _ _ (eq-eqb (amount % x) 0 divides) both.0))

  -- the other one of a pair
  pub other_divides : (d : ℕ) → amount % d ≡ 0 → amount % (amount / d) ≡ 0
  other_divides d divides =
      let q = amount / d in
      let whole : amount ≡ q * d = omega (arith, div-add-mod' amount d) in
      ap (λ (x : ℕ). x % q) whole ∙ mul-mod_right q d

  -- of every pair one is below d: where none of those is in the range, none is
  pub none_divides : (d : ℕ) → Tried d → amount / d < d → 0 < amount → divided_between amount low high ≡ false
  unfolding divided_between
  none_divides d t small some =
      any_none high (λ k. eqb (amount % (k + 1)) 0 && leb low (k + 1))
      (λ k l.
      ⊎_elim (λ (e : eqb (amount % (k + 1)) 0 ≡ true). rw e (below_range low high (k + 1) (out (k + 1) (omega arith) (eqb-true _ _ e)) (omega arith)))
      (λ (e : eqb (amount % (k + 1)) 0 ≡ false). rw e)
      (true_or_false (eqb (amount % (k + 1)) 0)))
    where
      out : (l : ℕ) → 1 ≤ l → amount % l ≡ 0 → between low high l ≡ false
      out l first divides =
          ⊎_elim (λ (b : l < d). (t.none l first b divides).0)
          (λ (b : d ≤ l).
          let m = amount / l in
          let whole : amount ≡ m * l = omega (arith, div-add-mod' amount l) in
          let one : 1 ≤ m =
          ⊎_elim (λ (z : m < 1). let e : m ≡ 0 = omega arith in let n : m * l ≡ 0 = rw e (zero-mul l) in absurd (omega arith)) (λ (z : 1 ≤ m). z) (below_or_not m 1) in
          let lower : m < d =
          ⊎_elim (λ (z : m < d). z)
          (λ (z : d ≤ m). absurd (omega (arith, (le-div_iff_mul-le t.some).1 (le_trans (mul-le-mul_left d b) (le_trans (mul-le-mul_right l z) (div-mul-le_self amount l))))))
          (below_or_not m d) in
          let pair : amount / m ≡ l = ap (λ (x : ℕ). x / m) whole ∙ mul-div_right l one in
          ap (between low high) (sym pair) ∙ (t.none m one lower (ap (λ (x : ℕ). x % m) whole ∙ mul-mod_right m l)).1)
          (below_or_not l d)

  -- one turn of the search: the quotient and the remainder by d, and whether d and the quotient are in the range
  module _ (d quotient left : ℕ) (here there : Bool) (is : quotient ≡ amount / d) (over : left ≡ amount % d) (first : here ≡ between low high d) (second : there ≡ between low high quotient) where
    pub turn_found : 1 ≤ d → d ≤ quotient → (eqb left 0 && (here || there)) ≡ true → divided_between amount low high ≡ true
    turn_found some l h =
        let both = and-true (eqb left 0) (here || there) h in
        let divides : amount % d ≡ 0 = sym over ∙ eqb-true left 0 both.0 in
        ⊎_elim (λ (e : here ≡ true). divides_in d some divides (sym first ∙ e))
        (λ (e : here ≡ false).
        let other : there ≡ true = rw e at both.1 in
        divides_in quotient (omega arith) (rw is (other_divides d divides)) (sym second ∙ other))
        (true_or_false here)

    pub turn_next : Tried d → amount < 2 ^ 32 → d ≤ quotient → (eqb left 0 && (here || there)) ≡ false → Tried (d + 1)
    turn_next t small l h =
        tried_next d t small (omega arith)
        (λ divides.
        let none : (here || there) ≡ false = sym (ap (λ (b : Bool). b && (here || there)) (eq-eqb left 0 (over ∙ divides))) ∙ h in
        let neither = or_false here there none in
        (sym first ∙ neither.0, ap (between low high) (sym is) ∙ sym second ∙ neither.1))
      where
        or_false : (a b : Bool) → (a || b) ≡ false → (a ≡ false) × (b ≡ false)
        or_false true b h = absurd (true≢false h)
        or_false false b h = (refl, h)

-- ---- frames

module _ (limit longest amount : ℕ) where
  -- an amount within the limit is given by frames of one tick
  pub fit_within : amount ≤ limit → frames_fit limit longest amount ≡ (eqb amount 0 || leb 1 longest)
  unfolding frames_fit any_below
  fit_within l =
      ⊎_elim (λ (e : eqb amount 0 ≡ true). rw e)
      (λ (e : eqb amount 0 ≡ false).
      rw e
      (⊎_elim (λ (b : 0 < longest).
      any_of longest (λ k. given_by limit amount (k + 1)) 0 b (true_and _ _ (eq-eqb _ _ (mod-one amount)) (lt-ltb amount (limit + 1) (omega arith))) ∙ sym (le-leb 1 longest b))
      (λ (b : longest ≤ 0). let z : longest ≡ 0 = omega arith in rw z)
      (below_or_not 0 longest)))
      (true_or_false (eqb amount 0))

  -- one that is above it by as much as the longest frame is given by none
  pub fit_none : limit < amount → longest ≤ amount - limit → frames_fit limit longest amount ≡ false
  unfolding frames_fit
  fit_none above far =
      rw (ne_eqb amount 0 (λ e. omega arith))
      (any_none longest (λ k. given_by limit amount (k + 1)) (λ k l. rw (le-ltb amount (limit + (k + 1)) (omega arith)) (and-false (eqb (amount % (k + 1)) 0))))
    where
      and-false : (b : Bool) → (b && false) ≡ false
      and-false true = refl
      and-false false = refl

  -- any other by frames longer than what it is above the limit
  pub fit_searched : limit < amount → frames_fit limit longest amount ≡ divided_between amount (amount - limit + 1) longest
  unfolding frames_fit divided_between
  fit_searched above =
      rw (ne_eqb amount 0 (λ e. omega arith))
      (any_same longest (λ k. given_by limit amount (k + 1)) (λ k. eqb (amount % (k + 1)) 0 && leb (amount - limit + 1) (k + 1))
      (λ k l. ap (λ (b : Bool). eqb (amount % (k + 1)) 0 && b) (same k)))
    where
      same : (k : ℕ) → ltb amount (limit + (k + 1)) ≡ leb (amount - limit + 1) (k + 1)
      same k =
          ⊎_elim (λ (b : amount < limit + (k + 1)). lt-ltb _ _ b ∙ sym (le-leb (amount - limit + 1) (k + 1) (omega arith)))
          (λ (b : limit + (k + 1) ≤ amount). le-ltb _ _ b ∙ sym (lt-leb (amount - limit + 1) (k + 1) (omega arith)))
          (below_or_not amount (limit + (k + 1)))
