-- A line of the header in a text, by its tag: in its place it gives what its field on a sheet gives, and out of its place the text makes no sheet.
use Prim.Native.Nat.{ℕ, ◌≤◌, ◌<◌}
use mathlib.Core.Path.{◌≡◌, refl, ◌∙◌}
use mathlib.Core.Bool.{Bool, true, false, ◌&&◌}
use mathlib.Core.List.{List}
use mathlib.Core.Logic.{⊎_elim, ◌≢◌}
use native.Mathlib.Omega.{arith}
use Rattle.std.specs.Prelude.{is_none}
use borrow.Author.Tests.{le-leb, lt-ltb, le-ltb, ne_eqb}
use lib.Dec.{leb, ltb}
use Rattle.units.proofs.JudgingLaws.{true_or_false}
use Rattle.sets.specs.Header.{head_number}
use Rattle.sets.specs.Rules.{CountAllowed}
use Rattle.sets.proofs.HeaderLaws.{with_number}
use Rattle.plans.specs.Planned.{blank_alloc}
use Rattle.plans.specs.declared.Alloc.{Alloc}
use Rattle.fields.specs.Header.{header_number}
use Rattle.sheets.specs.Layout.{most_of}
use Rattle.sheets.specs.Writing.{written_answer}
use Rattle.sheets.proofs.ReadingLaws.{head_out}
use Rattle.sheets.proofs.WritingLaws.{answer_number, number_judged}
use Rattle.command_compose.specs.Compose.{misplaced, with_further, is_whole, composed_answer}
use Rattle.command_compose.specs.declared.Draft.{Draft}

-- whatever is asked beside it, a test that fails fails
and-false : (b : Bool) → (b && false) ≡ false
and-false true = refl
and-false false = refl

misplaced_broken : (d : Draft) → is_whole (misplaced d) ≡ false
misplaced_broken d = and-false (is_none d.unread)

module _ (d : Draft) (tag number : ℕ) where
  pub line_given : 1 ≤ d.head → d.head < tag → d.set.n ≡ 0 → head_number (with_further d tag number).set.head tag ≡ header_number true number
  unfolding with_further
  line_given some above none = rw (le-leb 1 d.head some, lt-ltb d.head tag above, none) (with_number d.set.head tag (header_number true number))

  pub second_broken : tag ≤ d.head → is_whole (with_further d tag number) ≡ false
  unfolding with_further
  second_broken l =
      let nowhere = and-false (leb 1 d.head) in
      rw (le-ltb d.head tag l, nowhere) (misplaced_broken d)

  pub late_broken : d.set.n ≢ 0 → is_whole (with_further d tag number) ≡ false
  unfolding with_further
  late_broken some =
      let placed = and-false (ltb d.head tag) in
      let nowhere = and-false (leb 1 d.head) in
      rw (ne_eqb d.set.n 0 some, placed, nowhere) (misplaced_broken d)

module _ (d : Draft) (tag : ℕ) (out : List ℕ) (whole : is_whole d ≡ true) (count : CountAllowed d.set)
    (outside : ¬ ((1 ≤ head_number d.set.head tag) × (head_number d.set.head tag ≤ most_of tag))) where
  -- writing such a set gives 4
  four : (plan : Bool) (a : Alloc) → (written_answer plan d.set a out).number ≡ 4
  four plan a =
      let judged = head_out plan d.set a tag count outside in
      answer_number _ _ ∙ number_judged plan d.set a out (λ z. absurd (omega (arith, judged, z))) ∙ judged

  pub other_four : (composed_answer d out).number ≡ 4
  unfolding composed_answer
  other_four =
      ⊎_elim (λ (e : leb 2 d.kind ≡ true). rw (whole, e) (four true d.alloc))
      (λ (e : leb 2 d.kind ≡ false). rw (whole, e) (four false blank_alloc))
      (true_or_false (leb 2 d.kind))
