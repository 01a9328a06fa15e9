-- What applying a list changes, place by place: a place is as in the second plan if its own difference is listed, and else as it was.
use Prim.Native.Nat.{ℕ, zero, suc, ◌<◌}
use mathlib.Core.Path.{◌≡◌, refl, sym, ap, ◌∙◌}
use mathlib.Core.Bool.{Bool, true, false, cond, ◌&&◌}
use mathlib.Core.List.{List, [], ◌∷◌}
use mathlib.Core.Logic.{◌⊎◌, inl, inr, ⊎_elim}
use native.Mathlib.Omega.{arith}
use borrow.Author.Tests.{eqb-true, eq-eqb}
use lib.Dec.{eqb}
use Rattle.units.proofs.JudgingLaws.{true_or_false, and-true}
use Rattle.differences.specs.Views.{View, nth_of}
use Rattle.differences.specs.Differences.{Difference, in_header, in_station, one_sided, alone, apply, apply_all, Differs, In}

-- ---- places

pub data Place : Type 0 where
  at_header : ℕ → Place
  at_station : ℕ → Place
  at_number : ℕ → ℕ → Place

-- what a plan has there; 1 for a station that is there, 0 for one that is not
abbrev pub bit : Bool → ℕ
bit true = 1
bit false = 0

abbrev pub value : Place → View → ℕ
value (at_header tag) v = v.header tag
value (at_station i) v = bit (v.has i)
value (at_number i j) v = v.number i j

pub bit_same : (a b : Bool) → bit a ≡ bit b → a ≡ b
bit_same true true e = refl
bit_same true false e = absurd (omega arith)
bit_same false true e = absurd (omega arith)
bit_same false false e = refl

-- a station that is not there has no numbers to compare
abbrev pub Compared : View → Place → Type 0
Compared w (at_header tag) = Unit {0}
Compared w (at_station i) = Unit {0}
Compared w (at_number i j) = (w.has i ≡ true) × (j < 5)

nth_row : (f : ℕ → ℕ) (j : ℕ) → j < 5 → nth_of (f 0) (f 1) (f 2) (f 3) (f 4) j ≡ f j
unfolding nth_of
nth_row f zero l = refl
nth_row f (suc zero) l = refl
nth_row f (suc (suc zero)) l = refl
nth_row f (suc (suc (suc zero))) l = refl
nth_row f (suc (suc (suc (suc zero)))) l = refl
nth_row f (suc (suc (suc (suc (suc j))))) l = absurd (omega arith)

-- true and false are not the same
not_both : {A : Type 0} (b : Bool) → b ≡ true → b ≡ false → A
not_both b t f = absurd (omega (arith, ap bit (sym t ∙ f)))

module _ (v w : View) where
  -- the difference that stands for a place: of a number that the old plan's station has not, the whole station
  abbrev pub own : Place → Difference
  own (at_header tag) = in_header tag (v.header tag) (w.header tag)
  own (at_station i) = cond (w.has i) (alone true w.number i) (alone false v.number i)
  own (at_number i j) = cond (v.has i) (in_station i j (v.number i j) (w.number i j)) (alone true w.number i)

  -- a difference changes a place to what the second plan has there, if it is that place's own; else it leaves it alone
  moves : (d : Difference) (p : Place) (x : View) → Differs v w d → Compared w p
      → ((own p ≡ d) × (value p (apply d x) ≡ value p w)) ⊎ (value p (apply d x) ≡ value p x)
  unfolding apply
  moves (in_header tag old new) (at_header k) x D c =
      ⊎_elim (λ (e : eqb k tag ≡ true).
      let q = eqb-true k tag e in
      inl (rw (q, D.1.0, D.1.1) refl, rw e (D.1.1 ∙ ap w.header (sym q))))
      (λ (e : eqb k tag ≡ false). inr (rw e refl))
      (true_or_false (eqb k tag))
  moves (in_header tag old new) (at_station i) x D c = inr refl
  moves (in_header tag old new) (at_number i j) x D c = inr refl
  moves (in_station i j old new) (at_header k) x D c = inr refl
  moves (in_station i j old new) (at_station k) x D c = inr refl
  moves (in_station i j old new) (at_number k l) x D c =
      ⊎_elim (λ (e : (eqb k i && eqb l j) ≡ true).
      let both = and-true _ _ e in
      let q = eqb-true k i both.0 in
      let s = eqb-true l j both.1 in
      inl (rw (q, s, D.0.0, D.2.0, D.2.1) refl, rw e (D.2.1 ∙ rw (q, s) refl)))
      (λ (e : (eqb k i && eqb l j) ≡ false). inr (rw e refl))
      (true_or_false (eqb k i && eqb l j))
  moves (one_sided new i a b c d e) (at_header k) x D g = inr refl
  moves (one_sided true i a b c d e) (at_station k) x D g =
      ⊎_elim (λ (h : eqb k i ≡ true).
      let q = eqb-true k i h in
      inl (rw (q, D.0.1) (sym D.1), rw (h, q, D.0.1) refl))
      (λ (h : eqb k i ≡ false). inr (rw h refl))
      (true_or_false (eqb k i))
  moves (one_sided false i a b c d e) (at_station k) x D g =
      ⊎_elim (λ (h : eqb k i ≡ true).
      let q = eqb-true k i h in
      inl (rw (q, D.0.1) (sym D.1), rw (h, q, D.0.1) refl))
      (λ (h : eqb k i ≡ false). inr (rw h refl))
      (true_or_false (eqb k i))
  moves (one_sided true i a b c d e) (at_number k l) x D g =
      ⊎_elim (λ (h : eqb k i ≡ true).
      let q = eqb-true k i h in
      let row = ap (λ (y : Difference). row_of y l) D.1 ∙ nth_row (w.number i) l g.1 in
      inl (rw (q, D.0.0) (sym D.1), rw h (row ∙ rw q refl)))
      (λ (h : eqb k i ≡ false). inr (rw h refl))
      (true_or_false (eqb k i))
    where
      row_of : Difference → ℕ → ℕ
      row_of (in_header tag old new) m = 0
      row_of (in_station i j old new) m = 0
      row_of (one_sided new i a b c d e) m = nth_of a b c d e m
  moves (one_sided false i a b c d e) (at_number k l) x D g = inr refl

  -- ---- the whole list

  abbrev pub Right : List Difference → Type 0
  Right ds = (d : Difference) → In d ds → Differs v w d

  -- where the place's own difference is not listed, the place stays as it was
  pub untouched : (p : Place) (ds : List Difference) (x : View) → Right ds → Compared w p → In (own p) ds ⊎ (value p (apply_all ds x) ≡ value p x)
  unfolding apply_all
  untouched p [] x R c = inr refl
  untouched p (d ∷ ds) x R c =
      ⊎_elim (λ a. inl (inl a.0))
      (λ (b : value p (apply d x) ≡ value p x).
      ⊎_elim (λ h. inl (inr h)) (λ e. inr (e ∙ b)) (untouched p ds (apply d x) (λ e i. R e (inr i)) c))
      (moves d p x (R d (inl refl)) c)

  -- a place that is as in the second plan stays so
  stays : (p : Place) (ds : List Difference) (x : View) → Right ds → Compared w p → value p x ≡ value p w → value p (apply_all ds x) ≡ value p w
  unfolding apply_all
  stays p [] x R c e = e
  stays p (d ∷ ds) x R c e =
      stays p ds (apply d x) (λ y i. R y (inr i)) c (⊎_elim (λ a. a.1) (λ b. b ∙ e) (moves d p x (R d (inl refl)) c))

  -- a place's own difference makes it so
  own_moves : (p : Place) (x : View) → Compared w p → value p (apply (own p) x) ≡ value p w
  unfolding apply
  own_moves (at_header tag) x c = rw (eq-eqb tag tag refl) refl
  own_moves (at_station i) x c =
      ⊎_elim (λ (h : w.has i ≡ true). rw (h, eq-eqb i i refl) refl) (λ (h : w.has i ≡ false). rw (h, eq-eqb i i refl) refl) (true_or_false (w.has i))
  own_moves (at_number i j) x c =
      ⊎_elim (λ (h : v.has i ≡ true). rw (h, eq-eqb i i refl, eq-eqb j j refl) refl)
      (λ (h : v.has i ≡ false). rw (h, eq-eqb i i refl) (nth_row (w.number i) j c.1))
      (true_or_false (v.has i))

  -- where it is listed, the place is as in the second plan at the end
  pub touched : (p : Place) (ds : List Difference) (x : View) → Right ds → Compared w p → In (own p) ds → value p (apply_all ds x) ≡ value p w
  unfolding apply_all
  touched p [] x R c h = absurd h
  touched p (d ∷ ds) x R c (inl e) =
      stays p ds (apply d x) (λ y i. R y (inr i)) c (ap (λ (y : Difference). value p (apply y x)) (sym e) ∙ own_moves p x c)
  touched p (d ∷ ds) x R c (inr h) = touched p ds (apply d x) (λ y i. R y (inr i)) c h
