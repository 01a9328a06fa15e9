-- The table decides the sentence because each of its rows does, and no tag has two rows.
use Prim.Native.Nat.{ℕ, ◌≤◌, ◌<◌}
use mathlib.Core.Path.{◌≡◌, refl, sym, ap, ◌∙◌}
use mathlib.Core.Bool.{Bool, true, false, not, true≢false}
use mathlib.Core.Logic.{◌↔◌, ◌⊎◌, inl, inr, ◌≢◌, ⊎_elim}
use native.Mathlib.Omega.{arith}
use borrow.Author.Tests.{eqb-true, eqb-false, eq-eqb, ltb-true, lt-ltb, leb-false, lt-leb}
use lib.Dec.{leb, ltb, eqb}
use Rattle.units.proofs.JudgingLaws.{true_or_false, decides_le, decides_both, decides_between}
use Rattle.units.proofs.SmallLaws.{below_or_not}
use Rattle.units.specs.Judging.{between, Decides}
use Rattle.fields.specs.Fields.{allocations_for, due, headed, row, further_size, is_further, in_header, is_allowed}
use Rattle.fields.proofs.FieldLaws.{further_one, further_four}
use Rattle.fields.specs.declared.Passed.{Passed}
use Rattle.sheet_rules.specs.Standing.{MayStand, a_head, a_mode, a_frame, a_grid, a_station, an_allocation, an_end}

decides_eq : (a b : ℕ) → Decides (eqb a b) (a ≡ b)
decides_eq a b = (eqb-true a b, eq-eqb a b)

decides_lt : (a b : ℕ) → Decides (ltb a b) (a < b)
decides_lt a b = (ltb-true a b, lt-ltb a b)

-- nothing of the header has passed
decides_none : (h : ℕ) → Decides (not (leb 1 h)) (h ≡ 0)
decides_none h =
    ⊎_elim (λ (e : leb 1 h ≡ true).
    (λ n. absurd (true≢false (sym n ∙ rw e)), λ z. let l : leb 1 h ≡ false = lt-leb 1 h (omega arith) in absurd (true≢false (sym e ∙ l))))
    (λ (e : leb 1 h ≡ false).
    (λ n. let l : h < 1 = leb-false 1 h e in omega arith, λ z. rw e))
    (true_or_false (leb 1 h))

-- a row decides: this tag and what holds for it, or another tag and the rest
decides_row : (tag its : ℕ) (holds rest : Bool) (P R : Type 0) → Decides holds P → Decides rest R → Decides (row tag its holds rest) (((tag ≡ its) × P) ⊎ ((tag ≢ its) × R))
decides_row tag its holds rest P R p r =
    ⊎_elim (λ (e : eqb tag its ≡ true).
    let same : tag ≡ its = eqb-true tag its e in (
      rw e (λ h. inl (same, p.0 h)),
      rw e (⊎_elim (λ (x : (tag ≡ its) × P). p.1 x.1) (λ (x : (tag ≢ its) × R). absurd (x.0 same))),
    ))
    (λ (e : eqb tag its ≡ false).
    let other : tag ≢ its = eqb-false tag its e in (
      rw e (λ h. inr (other, r.0 h)),
      rw e (⊎_elim (λ (x : (tag ≡ its) × P). absurd (other x.0)) (λ (x : (tag ≢ its) × R). r.1 x.1)),
    ))
    (true_or_false (eqb tag its))

module _ (p : Passed) (tag size : ℕ) where
  abbrev Head : Type 0
  Head = (size ≡ 4) × (p.head ≡ 0)

  abbrev Station : Type 0
  Station = (((size ≡ 16) × (1 ≤ p.head)) × (p.stations < 128)) × (p.allocations ≡ 0)

  abbrev Allocation : Type 0
  Allocation = ((size ≡ 4) × (1 ≤ p.head)) × (p.allocations < due p)

  abbrev End : Type 0
  End = (((size ≡ 0) × (1 ≤ p.head)) × (1 ≤ p.stations)) × (p.allocations ≡ due p)

  abbrev Further : Type 0
  Further = (((4 ≤ tag) × (tag ≤ 6)) × (size ≡ further_size tag)) × (((1 ≤ p.head) × (p.head < tag)) × (p.stations ≡ 0))

  abbrev Rows : Type 0
  Rows =
      ((tag ≡ 1) × Head)
      ⊎ ((tag ≢ 1) × (((tag ≡ 2) × Station) ⊎ ((tag ≢ 2) × (((tag ≡ 3) × Allocation) ⊎ ((tag ≢ 3) × (((tag ≡ 255) × End) ⊎ ((tag ≢ 255) × Further)))))))

  rows_decided : Decides (is_allowed p tag size) Rows
  unfolding is_allowed
  rows_decided =
      let behind = decides_le 1 p.head in
      let head = decides_both (eqb size 4) (not (headed p)) _ _ (decides_eq size 4) (decides_none p.head) in
      let station = decides_both _ (eqb p.allocations 0) _ _
      (decides_both _ (ltb p.stations 128) _ _ (decides_both (eqb size 16) (headed p) _ _ (decides_eq size 16) behind) (decides_lt p.stations 128))
      (decides_eq p.allocations 0) in
      let allocation = decides_both _ (ltb p.allocations (due p)) _ _
      (decides_both (eqb size 4) (headed p) _ _ (decides_eq size 4) behind)
      (decides_lt p.allocations (due p)) in
      let end = decides_both _ (eqb p.allocations (due p)) _ _
      (decides_both _ (leb 1 p.stations) _ _ (decides_both (eqb size 0) (headed p) _ _ (decides_eq size 0) behind) (decides_le 1 p.stations))
      (decides_eq p.allocations (due p)) in
      let further = decides_both (is_further tag size) (in_header p tag) _ _
      (decides_both (between 4 6 tag) (eqb size (further_size tag)) _ _ (decides_between 4 6 tag) (decides_eq size (further_size tag)))
      (decides_both _ (eqb p.stations 0) _ _ (decides_both (headed p) (ltb p.head tag) _ _ behind (decides_lt p.head tag)) (decides_eq p.stations 0)) in
      decides_row tag 1 _ _ _ _ head
      (decides_row tag 2 _ _ _ _ station
      (decides_row tag 3 _ _ _ _ allocation
      (decides_row tag 255 _ _ _ _ end further)))

-- an allocation is due only in a plan, one for each station
in_plan : (plan : Bool) (stations allocations : ℕ) → allocations < allocations_for plan stations → (plan ≡ true) × (allocations < stations)
in_plan true stations allocations l = (refl, l)
in_plan false stations allocations l = absurd (omega arith)

due_in_plan : (plan : Bool) (stations allocations : ℕ) → plan ≡ true → allocations < stations → allocations < allocations_for plan stations
due_in_plan plan stations allocations e l = rw e l

module _ (p : Passed) (tag size : ℕ) where
  -- a further field of the header is the mode, F or g
  mode_says : Further p tag size → tag ≡ 4 → MayStand p tag size
  mode_says f e = a_mode e (f.0.1 ∙ ap further_size e ∙ further_one) f.1.0.0 (omega (arith, f.1.0.1)) f.1.1

  frame_says : Further p tag size → tag ≡ 5 → MayStand p tag size
  frame_says f e = a_frame e (f.0.1 ∙ further_four tag (λ d. omega arith)) f.1.0.0 (omega (arith, f.1.0.1)) f.1.1

  grid_says : Further p tag size → tag ≡ 6 → MayStand p tag size
  grid_says f e = a_grid e (f.0.1 ∙ further_four tag (λ d. omega arith)) f.1.0.0 (omega (arith, f.1.0.1)) f.1.1

  further_says : Further p tag size → MayStand p tag size
  further_says f =
      let low = f.0.0.0 in
      let high = f.0.0.1 in
      ⊎_elim (λ (b : tag < 5). mode_says f (omega arith))
      (λ (b : 5 ≤ tag). ⊎_elim (λ (d : tag < 6). frame_says f (omega arith)) (λ (d : 6 ≤ tag). grid_says f (omega arith)) (below_or_not tag 6))
      (below_or_not tag 5)

  rows_say : Rows p tag size → MayStand p tag size
  rows_say =
      ⊎_elim (λ (x : (tag ≡ 1) × Head p tag size). a_head x.0 x.1.0 x.1.1)
      (λ x.
      ⊎_elim (λ (y : (tag ≡ 2) × Station p tag size). a_station y.0 y.1.0.0.0 y.1.0.0.1 y.1.0.1 y.1.1)
      (λ y.
      ⊎_elim (λ (z : (tag ≡ 3) × Allocation p tag size).
      let both = in_plan p.plan p.stations p.allocations z.1.1 in
      an_allocation z.0 z.1.0.0 z.1.0.1 both.0 both.1)
      (λ z.
      ⊎_elim (λ (w : (tag ≡ 255) × End p tag size). an_end w.0 w.1.0.0.0 w.1.0.0.1 w.1.0.1 w.1.1)
      (λ w. further_says w.1)
      z.1)
      y.1)
      x.1)

  say_rows : MayStand p tag size → Rows p tag size
  say_rows (a_head e s h) = inl (e, (s, h))
  say_rows (a_mode e s h l n) =
      inr (omega arith, inr (omega arith, inr (omega arith, inr (omega arith, (((omega arith, omega arith), s ∙ sym (ap further_size e ∙ further_one)), ((h, omega arith), n))))))
  say_rows (a_frame e s h l n) =
      inr (omega arith, inr (omega arith, inr (omega arith, inr (omega arith, (((omega arith, omega arith), s ∙ sym (further_four tag (λ d. omega arith))), ((h, omega arith), n))))))
  say_rows (a_grid e s h l n) =
      inr (omega arith, inr (omega arith, inr (omega arith, inr (omega arith, (((omega arith, omega arith), s ∙ sym (further_four tag (λ d. omega arith))), ((h, omega arith), n))))))
  say_rows (a_station e s h n a) = inr (omega arith, inl (e, (((s, h), n), a)))
  say_rows (an_allocation e s h f a) = inr (omega arith, inr (omega arith, inl (e, ((s, h), due_in_plan p.plan p.stations p.allocations f a))))
  say_rows (an_end e s h n a) = inr (omega arith, inr (omega arith, inr (omega arith, inl (e, (((s, h), n), a)))))

  pub may_stand_lem : (is_allowed p tag size ≡ true) ↔ MayStand p tag size
  may_stand_lem = (λ h. rows_say ((rows_decided p tag size).0 h), λ m. (rows_decided p tag size).1 (say_rows m))
