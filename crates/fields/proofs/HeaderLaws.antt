-- The laws of the header's fields behind TTRT: what each gives, where each stands, and the bodies that hold their numbers.
use Prim.Native.Nat.{ℕ, zero, suc, ◌+◌, ◌-◌, ◌%◌, ◌^◌, ◌≤◌, ◌<◌}
use mathlib.Core.Path.{◌≡◌, refl, sym, ap, ◌∙◌}
use mathlib.Core.Bool.{true, false, cond}
use mathlib.Core.List.{List, [], ◌∷◌}
use mathlib.Core.Logic.{◌⊎◌, inl, inr, ⊎_elim, ◌≢◌}
use native.Mathlib.Nat.{add-zero, mod-eq_of_lt}
use native.Mathlib.Omega.{arith}
use lib.Dec.{eqb}
use lib.ListN.{length}
use borrow.Author.Tests.{eq-eqb, ne_eqb, eqb-true, eqb-false}
use Rattle.units.specs.Places.{at}
use Rattle.units.proofs.JudgingLaws.{true_or_false}
use Rattle.units.proofs.SmallLaws.{below_or_not}
use Rattle.fields.specs.Bytes.{bytes_of, body_at, body_of, AllBytes}
use Rattle.fields.specs.Fields.{mode_tag, further_size, tag_at}
use Rattle.fields.specs.Header.{absent, header_number, behind_tag, further_place, place_of, given_at, said_at}
use Rattle.fields.proofs.SegmentLaws.{Stands}
use Rattle.fields.proofs.ByteLaws.{bytes_length, number_read, number_stands, stands_one}
use Rattle.fields.proofs.FieldLaws.{further_one, further_four}

-- two numbers are the same, or they are not
pub same_or_not : (a b : ℕ) → (a ≡ b) ⊎ (a ≢ b)
same_or_not a b = ⊎_elim (λ (e : eqb a b ≡ true). inl (eqb-true a b e)) (λ (e : eqb a b ≡ false). inr (eqb-false a b e)) (true_or_false (eqb a b))

-- ---- what a field gives

-- a field that is not there means 1
pub header_absent : (number : ℕ) → header_number false number ≡ absent
unfolding header_number
header_absent number = refl

-- one that is there gives its number
pub header_there : (number : ℕ) → number ≢ absent → header_number true number ≡ number
unfolding header_number
header_there number other = rw (ne_eqb number absent other) refl

-- but 0 for what its absence means
pub header_one : header_number true absent ≡ 0
unfolding header_number
header_one = refl

-- so a field that is there and does not say 2 to the highest number gives none from 1 to that
pub header_out_lem : (most number : ℕ) → ¬ ((2 ≤ number) × (number ≤ most)) → ¬ ((1 ≤ header_number true number) × (header_number true number ≤ most))
header_out_lem most zero out range = absurd (omega (arith, header_there 0 (omega arith), range.0))
header_out_lem most (suc zero) out range = absurd (omega (arith, header_one, range.0))
header_out_lem most (suc (suc k)) out range = out (omega arith, omega (arith, header_there (suc (suc k)) (omega arith), range.1))

-- ---- where a field stands

module _ (bs : List ℕ) (tag a : ℕ) where
  pub behind_there : tag_at bs a ≡ tag → behind_tag bs tag a ≡ a + 3 + further_size tag
  unfolding behind_tag
  behind_there e = rw (eq-eqb (tag_at bs a) tag e) refl

  pub behind_not : tag_at bs a ≢ tag → behind_tag bs tag a ≡ a
  unfolding behind_tag
  behind_not other = rw (ne_eqb (tag_at bs a) tag other) refl

  pub behind_least : a ≤ behind_tag bs tag a
  behind_least =
      ⊎_elim (λ (e : tag_at bs a ≡ tag). omega (arith, behind_there e)) (λ (other : tag_at bs a ≢ tag). omega (arith, behind_not other)) (same_or_not (tag_at bs a) tag)

  -- what it gives
  pub given_absent : tag_at bs a ≢ tag → given_at bs a tag ≡ absent
  given_absent other = rw (ne_eqb (tag_at bs a) tag other) (header_absent (said_at bs a tag))

  pub given_there : tag_at bs a ≡ tag → given_at bs a tag ≡ header_number true (said_at bs a tag)
  given_there e = rw (eq-eqb (tag_at bs a) tag e)

module _ (bs : List ℕ) where
  pub place_first : further_place bs 0 ≡ 7
  unfolding further_place
  place_first = refl

  pub place_next : (k : ℕ) → further_place bs (suc k) ≡ behind_tag bs (mode_tag + k) (further_place bs k)
  unfolding further_place
  place_next k = refl

  pub place_least : (k : ℕ) → 7 ≤ further_place bs k
  place_least zero = omega (arith, place_first)
  place_least (suc k) = omega (arith, place_next k, place_least k, behind_least bs (mode_tag + k) (further_place bs k))

  -- the same by its tag
  pub place_of_lem : (k : ℕ) → place_of bs (mode_tag + k) ≡ further_place bs k
  place_of_lem k = let e : mode_tag + k - mode_tag ≡ k = omega arith in ap (further_place bs) e

  -- where a tag stands that none of some fields has, they are not there
  pub place_same : (a j : ℕ) → further_place bs j ≡ a → (k : ℕ) → j ≤ k → ((i : ℕ) → j ≤ i → i < k → tag_at bs a ≢ mode_tag + i) → further_place bs k ≡ a
  place_same a j e zero l none = let z : 0 ≡ j = omega arith in ap (further_place bs) z ∙ e
  place_same a j e (suc k) l none =
      ⊎_elim (λ (b : j < suc k).
      let before = place_same a j e k (omega arith) (λ i m n. none i m (omega arith)) in
      place_next k ∙ ap (behind_tag bs (mode_tag + k)) before ∙ behind_not bs (mode_tag + k) a (none k (omega arith) (omega arith)))
      (λ (b : suc k ≤ j). let z : suc k ≡ j = omega arith in ap (further_place bs) z ∙ e)
      (below_or_not j (suc k))

-- ---- bodies of one byte or of four

one_or_four : (tag : ℕ) → (further_size tag ≡ 1) ⊎ (further_size tag ≡ 4)
one_or_four tag =
    ⊎_elim (λ (e : tag ≡ mode_tag). inl (ap further_size e ∙ further_one)) (λ (other : tag ≢ mode_tag). inr (further_four tag other)) (same_or_not tag mode_tag)

-- how many numbers a body holds
abbrev pub room_in : ℕ → ℕ
room_in size = cond (eqb size 1) 256 (2 ^ 32)

module _ (tag : ℕ) where
  pub body_length : (x : ℕ) → length (body_of (further_size tag) x) ≡ further_size tag
  unfolding body_of
  body_length x = ⊎_elim (λ (e : further_size tag ≡ 1). rw e refl) (λ (e : further_size tag ≡ 4). rw e (bytes_length x)) (one_or_four tag)

  -- a number stands where its body does
  pub body_read : (bs : List ℕ) (a x : ℕ) → x < room_in (further_size tag) → Stands bs a (body_of (further_size tag) x) → body_at (further_size tag) bs a ≡ x
  unfolding body_of body_at
  body_read bs a x small h = ⊎_elim one four (one_or_four tag)
    where
      one : further_size tag ≡ 1 → body_at (further_size tag) bs a ≡ x
      one e =
          let s : Stands bs a (x % 256 ∷ []) = rw e at h in
          let l : x < 256 = rw e at small in
          let b : at bs a ≡ x % 256 = rw add-zero at (s.same 0 (omega arith)) in
          rw e (b ∙ mod-eq_of_lt l)

      four : further_size tag ≡ 4 → body_at (further_size tag) bs a ≡ x
      four e =
          let s : Stands bs a (bytes_of x) = rw e at h in
          let l : x < 2 ^ 32 = rw e at small in
          rw e (number_read bs a x l s)

  -- the body of the number that is read at a place stands there
  pub body_stands : (bs : List ℕ) (a : ℕ) → AllBytes bs → a + further_size tag ≤ length bs → Stands bs a (body_of (further_size tag) (body_at (further_size tag) bs a))
  unfolding body_of body_at
  body_stands bs a bytes fit = ⊎_elim one four (one_or_four tag)
    where
      one : further_size tag ≡ 1 → Stands bs a (body_of (further_size tag) (body_at (further_size tag) bs a))
      one e =
          let l : a + 1 ≤ length bs = rw e at fit in
          rw e (stands_one bs a (at bs a % 256) l (sym (mod-eq_of_lt (bytes a (omega arith)))))

      four : further_size tag ≡ 4 → Stands bs a (body_of (further_size tag) (body_at (further_size tag) bs a))
      four e =
          let l : a + 4 ≤ length bs = rw e at fit in
          rw e (number_stands bs a bytes l)
