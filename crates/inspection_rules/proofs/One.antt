-- One finding fits: of two places in a list the later one has the other before it, and there all rules are kept.
use Prim.Native.Nat.{ℕ, ◌+◌, ◌<◌, ◌≤◌}
use mathlib.Core.Path.{◌≡◌, refl, sym, ap, subst, ◌∙◌}
use mathlib.Core.List.{List, [], ◌∷◌, ◌++◌}
use mathlib.Core.Logic.{◌⊎◌, inl, inr, ⊎_elim}
use native.Mathlib.Omega.{arith}
use lib.ListN.{length}
use Rattle.units.proofs.SmallLaws.{below_or_not}
use Rattle.sets.specs.declared.Set.{Set}
use Rattle.plans.specs.Planned.{judged_plan}
use Rattle.plans.specs.declared.Alloc.{Alloc}
use Rattle.log_records.specs.declared.Entry.{Entry}
use Rattle.rings.specs.Opening.{opened_ring}
use Rattle.inspection_rules.specs.Gives.{GivesFrom, Gives}
use Rattle.inspection_rules.specs.Broken.{Rule, FirstBroken}
use Rattle.inspection_rules.proofs.Following.{gives_split}
use Rattle.inspection_rules.proofs.Finding.{could_keeps}

-- the record y stands behind x, which stands behind xs
abbrev Behind : List Entry → Entry → List Entry → Type 0
Behind xs x ys = (zs : List Entry) × (ys ≡ xs ++ x ∷ zs)

two_places : (xs ys : List Entry) (x y : Entry) (us vs : List Entry) → xs ++ x ∷ us ≡ ys ++ y ∷ vs → ((xs ≡ ys) × (x ≡ y)) ⊎ (Behind xs x ys ⊎ Behind ys y xs)
two_places [] [] x y us vs e = inl (refl, cc)
two_places [] (z ∷ ys) x y us vs e = let same : x ≡ z = cc in inr (inl (ys, rw same refl))
two_places (z ∷ xs) [] x y us vs e = let same : y ≡ z = cc in inr (inr (xs, rw same refl))
two_places (z ∷ xs) (w ∷ ys) x y us vs e =
    let same : z ≡ w = cc in
    let rest : xs ++ x ∷ us ≡ ys ++ y ∷ vs = cc in
    ⊎_elim (λ (h : (xs ≡ ys) × (x ≡ y)). let lists = h.0 in inl (cc, h.1))
    (λ h.
    inr
    (⊎_elim (λ (b : Behind xs x ys). let lists = b.1 in inl (b.0, cc)) (λ (b : Behind ys y xs). let lists = b.1 in inr (b.0, cc)) h))
    (two_places xs ys x y us vs rest)

module _ (t : Set) (a : Alloc) (h : judged_plan t a ≡ 0) where
  -- where a record breaks a rule, no run gives the records
  pub not_both : (es : List Entry) → Gives t a es → (number rule : ℕ) → ¬ FirstBroken t a es number rule
  not_both es g number rule f =
      let all : GivesFrom g.0 (opened_ring t a) (f.before ++ f.entry ∷ f.behind) = subst (GivesFrom g.0 (opened_ring t a)) f.place g.1 in
      let w = gives_split g.0 (opened_ring t a) f.before (f.entry ∷ f.behind) all in
      f.broken (could_keeps t a h g.0 f.before f.entry w.0 w.1.0 rule)

  -- so none that stands before records that could have been given
  earlier : (es : List Entry) (number rule : ℕ) (f : FirstBroken t a es number rule) (ys : List Entry) → Gives t a ys → Behind f.before f.entry ys → ⊥
  earlier es number rule f ys g b =
      not_both ys g number rule
      (record {
        before = f.before;
        entry = f.entry;
        behind = b.0;
        place = b.1;
        counted = f.counted;
        given = f.given;
        known = f.known;
        kept = f.kept;
        broken = f.broken;
      })

  pub one_finding : (es : List Entry) (n m k j : ℕ) → FirstBroken t a es n k → FirstBroken t a es m j → (n ≡ m) × (k ≡ j)
  one_finding es n m k j f g =
      ⊎_elim (λ (same : (f.before ≡ g.before) × (f.entry ≡ g.entry)).
      let number : n ≡ m = f.counted ∙ ap (λ (xs : List Entry). length xs + 1) same.0 ∙ sym g.counted in
      let there : (i : ℕ) → Rule t a f.before f.entry i ≡ Rule t a g.before g.entry i = λ i. cc (same.0, same.1) in
      (number, rules there))
      (λ b. absurd (⊎_elim (earlier es n k f g.before g.given) (earlier es m j g f.before f.given) b))
      (two_places f.before g.before f.entry g.entry f.behind g.behind (sym f.place ∙ g.place))
    where
      rules : ((i : ℕ) → Rule t a f.before f.entry i ≡ Rule t a g.before g.entry i) → k ≡ j
      rules there =
          ⊎_elim (λ (l : k < j). absurd (f.broken (subst (λ (X : Type 0). X) (sym (there k)) (g.kept k f.known.0 l))))
          (λ (l : j ≤ k).
          ⊎_elim (λ (b : j < k). absurd (g.broken (subst (λ (X : Type 0). X) (there j) (f.kept j g.known.0 b)))) (λ (b : k ≤ j). omega arith) (below_or_not j k))
          (below_or_not k j)
