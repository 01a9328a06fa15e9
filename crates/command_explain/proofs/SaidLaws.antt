-- What is shown of a header's field: reading hands out 0 for a body that says 0 or 1, and then its last byte is the number.
use Prim.Native.Nat.{ℕ, zero, suc, ◌+◌, ◌≤◌, ◌<◌}
use mathlib.Core.Path.{◌≡◌, refl, sym, ◌∙◌}
use mathlib.Core.Bool.{true, false, not, true≢false}
use mathlib.Core.List.{List}
use mathlib.Core.Logic.{⊎_elim}
use native.Mathlib.Omega.{arith}
use lib.Dec.{eqb}
use borrow.Author.Tests.{eq-eqb, ne_eqb, eqb-true, le-leb}
use Rattle.units.specs.Numbers.{out_of_range}
use Rattle.units.specs.Places.{at}
use Rattle.units.specs.Judging.{between}
use Rattle.units.proofs.JudgingLaws.{true_or_false}
use Rattle.units.proofs.SmallLaws.{below_or_not}
use Rattle.sets.specs.Header.{head_number}
use Rattle.fields.specs.Bytes.{number_at, body_at}
use Rattle.fields.specs.Fields.{head_tag, mode_tag, grid_tag, further_size, tag_at}
use Rattle.fields.specs.Header.{header_number, further_place, given_at}
use Rattle.differences.specs.Views.{header_of}
use Rattle.faults.specs.Ranges.{header_high, header_range}
use Rattle.command_explain.specs.Sheet.{is_plan, said_number, explained}
use Rattle.command_explain.specs.Promised.{FieldSaid}
use Rattle.command_explain.proofs.RangeLaws.{holds}

-- the number that is shown is the body's, if the last byte of a body that says 0 or 1 is that number
shown : (bs : List ℕ) (last x : ℕ) → (x < 2 → at bs last ≡ x) → said_number bs last (header_number true x) ≡ x
unfolding said_number header_number
shown bs last zero small = small (omega arith)
shown bs last (suc zero) small = small (omega arith)
shown bs last (suc (suc x)) small = rw (ne_eqb (suc (suc x)) 1 (omega arith), ne_eqb (suc (suc x)) 0 (omega arith)) refl

-- of a body of four bytes it is
last_byte : (bs : List ℕ) (a : ℕ) → number_at bs (a + 3) < 2 → at bs (a + 6) ≡ number_at bs (a + 3)
unfolding number_at
last_byte bs a small = let e : a + 6 ≡ a + 3 + 3 = omega arith in rw e (omega arith)

-- a field that is not there means 1, which every range has
is_there : (bs : List ℕ) (a tag high : ℕ) → 1 ≤ high → not (between 1 high (given_at bs a tag)) ≡ true → tag_at bs a ≡ tag
unfolding header_number
is_there bs a tag high some o =
    ⊎_elim (λ t. eqb-true _ _ t)
    (λ (n : eqb (tag_at bs a) tag ≡ false).
    absurd (true≢false (sym o ∙ rw (n, le-leb 1 high some) refl)))
    (true_or_false (eqb (tag_at bs a) tag))

module _ (bs : List ℕ) (e : (explained bs).number ≡ out_of_range) where
  said_mode : FieldSaid bs 4
  unfolding header_of head_number header_high further_size body_at further_place
  said_mode =
      let h = holds (is_plan bs) bs e in
      record {
        there = λ o. is_there bs 7 4 3 (omega arith) (rw h.set at o);
        value = λ t. rw (h.set, eq-eqb _ _ t) (shown bs 10 _ (λ l. refl));
      }

  said_frame : FieldSaid bs 5
  unfolding header_of head_number header_high further_size body_at
  said_frame =
      let h = holds (is_plan bs) bs e in
      record {
        there = λ o. is_there bs (further_place bs 1) 5 65_535 (omega arith) (rw h.set at o);
        value = λ t. rw (h.set, eq-eqb _ _ t) (shown bs (further_place bs 1 + 6) _ (last_byte bs (further_place bs 1)));
      }

  said_grid : FieldSaid bs 6
  unfolding header_of head_number header_high further_size body_at
  said_grid =
      let h = holds (is_plan bs) bs e in
      record {
        there = λ o. is_there bs (further_place bs 2) 6 1_000 (omega arith) (rw h.set at o);
        value = λ t. rw (h.set, eq-eqb _ _ t) (shown bs (further_place bs 2 + 6) _ (last_byte bs (further_place bs 2)));
      }

  pub said : (tag : ℕ) → mode_tag ≤ tag → tag ≤ grid_tag → FieldSaid bs tag
  said tag low high =
      ⊎_elim (λ (b : tag < 5). let i : tag ≡ 4 = omega arith in rw i said_mode)
      (λ (b : 5 ≤ tag).
      ⊎_elim (λ (k : tag < 6). let i : tag ≡ 5 = omega arith in rw i said_frame) (λ (k : 6 ≤ tag). let i : tag ≡ 6 = omega arith in rw i said_grid) (below_or_not tag 6))
      (below_or_not tag 5)

  pub said_ttrt : (header_range (explained bs).said head_tag).value ≡ number_at bs 3
  unfolding header_of
  said_ttrt = rw (holds (is_plan bs) bs e).set refl
