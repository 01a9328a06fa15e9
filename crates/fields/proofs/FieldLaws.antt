-- The laws of fields: what the number of a field says, what is handed out, and which field it is that may stand there.
use Prim.Native.Nat.{ℕ, zero, suc, ◌+◌, ◌≤◌, ◌<◌}
use mathlib.Core.Path.{◌≡◌, refl, ◌∙◌}
use mathlib.Core.Bool.{Bool, true, false, not, false≢true}
use mathlib.Core.List.{List}
use mathlib.Core.Logic.{⊎_elim, ◌≢◌}
use native.Mathlib.Omega.{arith}
use lib.Dec.{eqb}
use lib.ListN.{length}
use borrow.Author.Tests.{le-leb, lt-leb, leb-true, lt-ltb, ltb-true, eq-eqb, ne_eqb, eqb-true}
use Rattle.units.proofs.JudgingLaws.{held, failed, passed, and-true, true_and, true_or_false}
use Rattle.fields.specs.Fields.{head_tag, head_size, station_tag, station_size, allocation_tag, allocation_size, mode_tag, grid_tag, end_tag, end_size}
use Rattle.fields.specs.Fields.{allocations_for, due, headed, row, further_size, is_further, in_header, is_allowed, left, tag_at, size_at, behind, allowed_at, field_number, handed_out, field_at, FieldWhole}
use Rattle.fields.specs.declared.Passed.{Passed}

-- ---- the number of a field

module _ (bs : List ℕ) (a : ℕ) (p : Passed) where
  -- fewer than three bytes left
  pub field_short : left bs a < 3 → field_number bs a p ≡ 1
  unfolding field_number
  field_short h = failed _ _ _ (lt-leb 3 (left bs a) h)

  -- a tag or length not allowed there
  pub field_wrong : 3 ≤ left bs a → allowed_at bs a p ≡ false → field_number bs a p ≡ 2
  unfolding field_number
  field_wrong h f = held _ _ _ (le-leb 3 (left bs a) h) ∙ failed _ _ _ f

  -- a body cut short
  pub field_cut : 3 ≤ left bs a → allowed_at bs a p ≡ true → left bs (a + 3) < size_at bs a → field_number bs a p ≡ 1
  unfolding field_number
  field_cut h f s = held _ _ _ (le-leb 3 (left bs a) h) ∙ held _ _ _ f ∙ failed _ _ _ (lt-leb (size_at bs a) (left bs (a + 3)) s)

  -- a whole field
  pub field_whole : 3 ≤ left bs a → allowed_at bs a p ≡ true → size_at bs a ≤ left bs (a + 3) → field_number bs a p ≡ 0
  unfolding field_number
  field_whole h f s = held _ _ _ (le-leb 3 (left bs a) h) ∙ held _ _ _ f ∙ held _ _ _ (le-leb (size_at bs a) (left bs (a + 3)) s)

  -- an accepted field is whole and may stand there
  pub field_says : field_number bs a p ≡ 0 → FieldWhole bs a p
  unfolding field_number
  field_says h =
      let one = passed _ 1 _ (omega arith) h in
      let two = passed _ 2 _ (omega arith) one.1 in
      let three : 3 ≤ left bs a = leb-true _ _ one.0 in
      let whole : size_at bs a ≤ left bs (a + 3) = leb-true _ _ (passed _ 1 _ (omega arith) two.1).0 in
      record { inside = omega arith; allowed = two.0 }

  -- and such a field is accepted
  pub field_is : FieldWhole bs a p → field_number bs a p ≡ 0
  field_is w =
      let in-it = w.inside in
      field_whole (omega arith) w.allowed (omega arith)

-- ---- what is handed out

pub handed_refused : (k tag body next : ℕ) → k ≢ 0 → handed_out k tag body next ≡ record { number = k; tag = 0; body = 0; next = 0 }
unfolding handed_out
handed_refused zero tag body next h = absurd (h refl)
handed_refused (suc k) tag body next h = refl

pub handed_whole : (k tag body next : ℕ) → k ≡ 0 → handed_out k tag body next ≡ record { number = 0; tag = tag; body = body; next = next }
unfolding handed_out
handed_whole k tag body next h = rw h

pub handed_number : (k tag body next : ℕ) → (handed_out k tag body next).number ≡ k
unfolding handed_out
handed_number zero tag body next = refl
handed_number (suc k) tag body next = refl

module _ (bs : List ℕ) (a : ℕ) (p : Passed) where
  -- a refused field, with its number
  pub field_refused : (k : ℕ) → field_number bs a p ≡ k → k ≢ 0 → field_at bs a p ≡ record { number = k; tag = 0; body = 0; next = 0 }
  field_refused k e h = rw e (handed_refused k (tag_at bs a) (a + 3) (behind bs a) h)

  -- a whole one
  pub field_handed : FieldWhole bs a p → field_at bs a p ≡ record { number = 0; tag = tag_at bs a; body = a + 3; next = behind bs a }
  field_handed w = handed_whole _ _ _ _ (field_is bs a p w)

-- ---- which field it is

-- a whole field with this tag and this length stands at the place a
pub record Whole (bs : List ℕ) (a tag size : ℕ) : Type 0 where
  pub inside : a + 3 + size ≤ length bs
  pub has_tag : tag_at bs a ≡ tag
  pub has_size : size_at bs a ≡ size

-- how many allocations there can be
pub allocations_few : (plan : Bool) (n : ℕ) → allocations_for plan n ≤ n
allocations_few true n = omega arith
allocations_few false n = omega arith

-- a field of the header behind TTRT
pub record Further (tag size : ℕ) : Type 0 where
  pub low : mode_tag ≤ tag
  pub high : tag ≤ grid_tag
  pub long : size ≡ further_size tag

-- its length is 1 or 4
pub further_one : further_size mode_tag ≡ 1
unfolding further_size
further_one = refl

pub further_four : (tag : ℕ) → tag ≢ mode_tag → further_size tag ≡ 4
unfolding further_size
further_four tag other = rw (ne_eqb tag mode_tag other) refl

pub further_small : (tag : ℕ) → further_size tag ≤ 4
unfolding further_size
further_small tag =
    ⊎_elim (λ (e : eqb tag mode_tag ≡ true). rw e (omega arith)) (λ (e : eqb tag mode_tag ≡ false). rw e (omega arith)) (true_or_false (eqb tag mode_tag))

-- the rows of the table, one by one
pub data Kind (p : Passed) (tag size : ℕ) : Type 0 where
  a_head : tag ≡ head_tag → size ≡ head_size → headed p ≡ false → Kind p tag size
  a_station : tag ≡ station_tag → size ≡ station_size → headed p ≡ true → p.stations < 128 → p.allocations ≡ 0 → Kind p tag size
  an_allocation : tag ≡ allocation_tag → size ≡ allocation_size → headed p ≡ true → p.allocations < due p → Kind p tag size
  an_end : tag ≡ end_tag → size ≡ end_size → headed p ≡ true → 1 ≤ p.stations → p.allocations ≡ due p → Kind p tag size
  a_further : Further tag size → headed p ≡ true → p.head < tag → p.stations ≡ 0 → Kind p tag size

-- a row holds for its tag, or the rest holds
row_holds : {A : Type 0} (tag its : ℕ) (holds rest : Bool) → row tag its holds rest ≡ true → (tag ≡ its → holds ≡ true → A) → (rest ≡ true → A) → A
row_holds tag its holds rest h here else =
    ⊎_elim (λ (e : eqb tag its ≡ true). here (eqb-true _ _ e) (rw e at h)) (λ (e : eqb tag its ≡ false). else (rw e at h)) (true_or_false (eqb tag its))

not_said : (b : Bool) → not b ≡ true → b ≡ false
not_said true e = absurd (false≢true e)
not_said false e = refl

is_further_lem : (tag size : ℕ) → is_further tag size ≡ true → Further tag size
is_further_lem tag size h =
    let w = and-true _ _ h in
    let v = and-true _ _ w.0 in
    record { low = leb-true _ _ v.0; high = leb-true _ _ v.1; long = eqb-true _ _ w.1 }

further_is : (tag size : ℕ) → Further tag size → is_further tag size ≡ true
further_is tag size f = true_and _ _ (true_and _ _ (le-leb _ _ f.low) (le-leb _ _ f.high)) (eq-eqb _ _ f.long)

pub allowed_kind : (p : Passed) (tag size : ℕ) → is_allowed p tag size ≡ true → Kind p tag size
unfolding is_allowed
allowed_kind p tag size h =
    row_holds tag head_tag _ _ h (λ t y. let w = and-true _ _ y in a_head t (eqb-true _ _ w.0) (not_said _ w.1))
    (λ h. row_holds tag station_tag _ _ h
    (λ t y.
    let w = and-true _ _ y in
    let v = and-true _ _ w.0 in
    let u = and-true _ _ v.0 in
    a_station t (eqb-true _ _ u.0) u.1 (ltb-true _ _ v.1) (eqb-true _ _ w.1))
    (λ h. row_holds tag allocation_tag _ _ h
    (λ t y.
    let w = and-true _ _ y in
    let v = and-true _ _ w.0 in
    an_allocation t (eqb-true _ _ v.0) v.1 (ltb-true _ _ w.1))
    (λ h. row_holds tag end_tag _ _ h
    (λ t y.
    let w = and-true _ _ y in
    let v = and-true _ _ w.0 in
    let u = and-true _ _ v.0 in
    an_end t (eqb-true _ _ u.0) u.1 (leb-true _ _ v.1) (eqb-true _ _ w.1))
    (λ h.
    let w = and-true (is_further tag size) (in_header p tag) h in
    let v = and-true _ _ w.1 in
    let u = and-true _ _ v.0 in
    a_further (is_further_lem tag size w.0) u.0 (ltb-true _ _ u.1) (eqb-true _ _ v.1)))))

pub kind_allowed : (p : Passed) (tag size : ℕ) → Kind p tag size → is_allowed p tag size ≡ true
unfolding is_allowed
kind_allowed p tag size (a_head t s h) = rw (t, s, h) refl
kind_allowed p tag size (a_station t s h few none) = rw (t, s, h, lt-ltb _ _ few) (eq-eqb _ _ none)
kind_allowed p tag size (an_allocation t s h few) = rw (t, s, h) (lt-ltb _ _ few)
kind_allowed p tag size (an_end t s h some all) = rw (t, s, h, le-leb _ _ some) (eq-eqb _ _ all)
kind_allowed p tag size (a_further f h above none) =
    let low = f.low in
    let high = f.high in
    rw (
      ne_eqb tag 1 (λ e. omega arith),
      ne_eqb tag 2 (λ e. omega arith),
      ne_eqb tag 3 (λ e. omega arith),
      ne_eqb tag 255 (λ e. omega arith),
      further_is tag size f,
      h,
      lt-ltb p.head tag above,
    )
    (eq-eqb _ _ none)
