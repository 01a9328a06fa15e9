-- Lines can be told apart: words have no blank in them, a number is told by its digits, and a line by its words.
use Prim.Native.Nat.{ℕ, zero, suc, ◌+◌, ◌-◌, ◌*◌, ◌/◌, ◌%◌, ◌^◌, ◌≤◌, ◌<◌}
use mathlib.Core.Path.{◌≡◌, refl, sym, ap, ◌∙◌}
use mathlib.Core.List.{List, [], ◌∷◌, ◌++◌, append_assoc}
use mathlib.Core.Logic.{⊎_elim}
use native.Mathlib.Nat.{pow-suc, div-lt_iff_lt-mul}
use native.Mathlib.Omega.{arith}
use borrow.Author.Tests.{lt-ltb, le-ltb}
use Rattle.units.proofs.SmallLaws.{below_or_not}
use Rattle.text.specs.Text.{newline, space, digit, decimal_within, decimal_of, line_on, line}

-- ---- bytes

first_same : {x y : ℕ} {xs ys : List ℕ} → x ∷ xs ≡ y ∷ ys → x ≡ y
first_same {x} {y} e = ap (λ (zs : List ℕ). head_or zs) e
  where
    head_or : List ℕ → ℕ
    head_or [] = 0
    head_or (z ∷ zs) = z

rest_same : {x y : ℕ} {xs ys : List ℕ} → x ∷ xs ≡ y ∷ ys → xs ≡ ys
rest_same {x} {y} e = ap (λ (zs : List ℕ). tail_or zs) e
  where
    tail_or : List ℕ → List ℕ
    tail_or [] = []
    tail_or (z ∷ zs) = zs

-- ---- words

-- a word has no blank and no end of a line in it
abbrev pub Word : List ℕ → Type 0
Word [] = Unit {0}
Word (b ∷ bs) = (32 < b) × Word bs

-- what stands up to the first blank is told by the whole
pub cut : (v w : List ℕ) (s r : ℕ) (x y : List ℕ) → Word v → Word w → s ≤ 32 → r ≤ 32 → v ++ (s ∷ x) ≡ w ++ (r ∷ y) → (v ≡ w) × (s ∷ x ≡ r ∷ y)
cut [] [] s r x y p q l m e = (refl, e)
cut [] (b ∷ w) s r x y p q l m e = absurd (omega (arith, first_same e, q.0))
cut (a ∷ v) [] s r x y p q l m e = absurd (omega (arith, first_same e, p.0))
cut (a ∷ v) (b ∷ w) s r x y p q l m e =
    let rest = cut v w s r x y p.1 q.1 l m (rest_same e) in
    (ap (λ (z : ℕ). z ∷ v) (first_same e) ∙ ap (λ (zs : List ℕ). b ∷ zs) rest.0, rest.1)

-- ---- numbers

word_append : (v w : List ℕ) → Word v → Word w → Word (v ++ w)
word_append [] w p q = q
word_append (b ∷ v) w p q = (p.0, word_append v w p.1 q)

word_within : (k n : ℕ) → Word (decimal_within k n)
unfolding decimal_within
word_within zero n = tt
word_within (suc k) n =
    ⊎_elim (λ (b : n < 10). rw (lt-ltb n 10 b) (omega arith, tt))
    (λ (b : 10 ≤ n). rw (le-ltb n 10 b) (word_append (decimal_within k (n / 10)) (digit (n % 10) ∷ []) (word_within k (n / 10)) (omega arith, tt)))
    (below_or_not n 10)

pub word_number : (n : ℕ) → Word (decimal_of n)
word_number n = word_within 20 n

-- the number that digits stand for
digits_of : ℕ → List ℕ → ℕ
digits_of front [] = front
digits_of front (b ∷ bs) = digits_of (10 * front + (b - 48)) bs

digits_last : (front : ℕ) (bs : List ℕ) (b : ℕ) → digits_of front (bs ++ (b ∷ [])) ≡ 10 * digits_of front bs + (b - 48)
unfolding digits_of
digits_last front [] b = refl
digits_last front (c ∷ bs) b = digits_last (10 * front + (c - 48)) bs b

digits_within : (k n : ℕ) → n < 10 ^ suc k → digits_of 0 (decimal_within (suc k) n) ≡ n
unfolding decimal_within digits_of
digits_within zero n h = let b : n < 10 = h in rw (lt-ltb n 10 b) (omega arith)
digits_within (suc k) n h =
    ⊎_elim (λ (b : n < 10). rw (lt-ltb n 10 b) (omega arith))
    (λ (b : 10 ≤ n).
    let l : n < 10 ^ suc k * 10 = rw (pow-suc 10 (suc k)) at h in
    let less : n / 10 < 10 ^ suc k = (div-lt_iff_lt-mul (omega arith)).1 l in
    rw (le-ltb n 10 b) (digits_last 0 (decimal_within (suc k) (n / 10)) (digit (n % 10)) ∙ omega (arith, digits_within k (n / 10) less)))
    (below_or_not n 10)

pub number_same : (m n : ℕ) → m < 2 ^ 64 → n < 2 ^ 64 → decimal_of m ≡ decimal_of n → m ≡ n
number_same m n l k e = sym (digits_within 19 m (omega arith)) ∙ ap (digits_of 0) e ∙ digits_within 19 n (omega arith)

-- ---- lines

abbrev pub Words : List (List ℕ) → Type 0
Words [] = Unit {0}
Words (w ∷ ws) = Word w × Words ws

-- behind a word a blank or the line's end stands
begins : (ws : List (List ℕ)) (x : List ℕ) → (s : ℕ) × ((s ≤ 32) × ((r : List ℕ) × (line_on ws ++ x ≡ s ∷ r)))
unfolding line_on
begins [] x = (newline, (omega arith, (x, refl)))
begins (w ∷ ws) x = (space, (omega arith, ((w ++ line_on ws) ++ x, refl)))

-- a word and what stands behind it
then_same : (v w : List ℕ) (vs ws : List (List ℕ)) (x y : List ℕ) → Word v → Word w → (line_on vs ++ x ≡ line_on ws ++ y → (vs ≡ ws) × (x ≡ y))
    → (v ++ line_on vs) ++ x ≡ (w ++ line_on ws) ++ y → (v ∷ vs ≡ w ∷ ws) × (x ≡ y)
then_same v w vs ws x y p q behind e =
    let a = begins vs x in
    let b = begins ws y in
    let both : v ++ (a.0 ∷ a.1.1.0) ≡ w ++ (b.0 ∷ b.1.1.0) =
    ap (λ (z : List ℕ). v ++ z) (sym a.1.1.1) ∙ sym (append_assoc v (line_on vs) x) ∙ e ∙ append_assoc w (line_on ws) y ∙ ap (λ (z : List ℕ). w ++ z) b.1.1.1 in
    let c = cut v w a.0 b.0 a.1.1.0 b.1.1.0 p q a.1.0 b.1.0 both in
    let r = behind (a.1.1.1 ∙ c.1 ∙ sym b.1.1.1) in
    (ap (λ (z : List ℕ). z ∷ vs) c.0 ∙ ap (λ (zs : List (List ℕ)). w ∷ zs) r.0, r.1)

on_same : (vs ws : List (List ℕ)) (x y : List ℕ) → Words vs → Words ws → line_on vs ++ x ≡ line_on ws ++ y → (vs ≡ ws) × (x ≡ y)
unfolding line_on
on_same [] [] x y p q e = (refl, rest_same e)
on_same [] (w ∷ ws) x y p q e = absurd (omega (arith, first_same e))
on_same (v ∷ vs) [] x y p q e = absurd (omega (arith, first_same e))
on_same (v ∷ vs) (w ∷ ws) x y p q e = then_same v w vs ws x y p.0 q.0 (on_same vs ws x y p.1 q.1) (rest_same e)

pub line_same : (v w : List ℕ) (vs ws : List (List ℕ)) (x y : List ℕ) → Words (v ∷ vs) → Words (w ∷ ws) → line (v ∷ vs) ++ x ≡ line (w ∷ ws) ++ y
    → (v ∷ vs ≡ w ∷ ws) × (x ≡ y)
unfolding line
line_same v w vs ws x y p q e = then_same v w vs ws x y p.0 q.0 (on_same vs ws x y p.1 q.1) e
