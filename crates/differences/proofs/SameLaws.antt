-- Equal plans are those with the same set and the same S, over the first N stations.
use Prim.Native.Nat.{ℕ, ◌<◌}
use mathlib.Core.Path.{◌≡◌, refl, sym, ap, ◌∙◌}
use mathlib.Core.Bool.{true}
use mathlib.Core.Logic.{◌↔◌, inl, inr, ⊎_elim}
use native.Mathlib.Omega.{arith}
use borrow.Author.Tests.{ltb-true, lt-ltb, le-ltb}
use lib.Dec.{ltb}
use Rattle.units.specs.Places.{at}
use Rattle.units.proofs.SmallLaws.{below_or_not}
use Rattle.sets.specs.Rules.{SameSet}
use Rattle.sets.specs.declared.Head.{Head}
use Rattle.sets.specs.declared.Set.{Set}
use Rattle.plans.specs.declared.Alloc.{Alloc}
use Rattle.sets.specs.Header.{head_number}
use Rattle.differences.specs.Views.{nth_of, header_of, view_of, SamePlan}
use Rattle.differences.proofs.Applying.{bit}

-- a header is told by its four numbers
head_same : (h k : Head) → h.ttrt ≡ k.ttrt → h.mode ≡ k.mode → h.frame ≡ k.frame → h.grid ≡ k.grid → h ≡ k
head_same h k r m f g =
    ap (λ (x : ℕ). record { ttrt = x; mode = h.mode; frame = h.frame; grid = h.grid }) r
    ∙ ap (λ (x : ℕ). record { ttrt = k.ttrt; mode = x; frame = h.frame; grid = h.grid }) m
    ∙ ap (λ (x : ℕ). record { ttrt = k.ttrt; mode = k.mode; frame = x; grid = h.grid }) f
    ∙ ap (λ (x : ℕ). record { ttrt = k.ttrt; mode = k.mode; frame = k.frame; grid = x }) g

-- N is told by the stations that are there
count_same : (n m : ℕ) → ((i : ℕ) → ltb i n ≡ ltb i m) → n ≡ m
count_same n m h =
    ⊎_elim (λ (b : n < m). absurd (omega (arith, ap bit (sym (le-ltb n n (omega arith)) ∙ h n ∙ lt-ltb n m b))))
    (λ b. ⊎_elim (λ (c : m < n). absurd (omega (arith, ap bit (sym (lt-ltb m n c) ∙ h m ∙ le-ltb m m (omega arith))))) (λ c. omega arith) (below_or_not m n))
    (below_or_not n m)

module _ (t : Set) (a : Alloc) (u : Set) (b : Alloc) where
  same_set : SamePlan (view_of t a) (view_of u b) → SameSet t u × ((i : ℕ) → i < t.n → at a.s i ≡ at b.s i)
  unfolding header_of head_number nth_of
  same_set same =
      let count : t.n ≡ u.n = count_same t.n u.n same.stations in
      let there : (i : ℕ) → i < t.n → ltb i u.n ≡ true = λ i l. lt-ltb i u.n (omega (arith, count)) in (
        record {
          header = head_same t.head u.head (same.header 1 (inl refl)) (same.header 4 (inr (omega arith, omega arith))) (same.header 5 (inr (omega arith, omega arith)))
              (same.header 6 (inr (omega arith, omega arith)));
          count = count;
          walk = λ i l. same.numbers i 0 (there i l) (omega arith);
          longest = λ i l. same.numbers i 1 (there i l) (omega arith);
          deadline = λ i l. same.numbers i 2 (there i l) (omega arith);
          gap = λ i l. same.numbers i 3 (there i l) (omega arith);
        },
        λ i l. same.numbers i 4 (there i l) (omega arith),
      )

  set_same : SameSet t u × ((i : ℕ) → i < t.n → at a.s i ≡ at b.s i) → SamePlan (view_of t a) (view_of u b)
  set_same s =
      record {
        header = λ tag T. ap (λ (h : Head). header_of h tag) s.0.header;
        stations = λ i. ap (λ (n : ℕ). ltb i n) s.0.count;
        numbers = λ i j h l.
            let in_range : i < t.n = omega (arith, ltb-true i u.n h, s.0.count) in
            rw (s.0.walk i in_range, s.0.longest i in_range, s.0.deadline i in_range, s.0.gap i in_range, s.1 i in_range) refl;
      }

  pub same_plan : SamePlan (view_of t a) (view_of u b) ↔ (SameSet t u × ((i : ℕ) → i < t.n → at a.s i ≡ at b.s i))
  same_plan = (same_set, set_same)
