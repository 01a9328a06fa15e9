-- A line can be read exactly if `compose` reads it: word by word, the least and the most numbers and how large they may be are those of its lines.
use Prim.Native.Nat.{ℕ, ◌^◌, ◌≤◌, ◌<◌}
use mathlib.Core.Path.{◌≡◌, refl, sym, ◌∙◌}
use mathlib.Core.Bool.{Bool, true, false, cond, ◌&&◌, ◌||◌, false≢true}
use mathlib.Core.Logic.{⊎_elim}
use native.Mathlib.Omega.{arith}
use lib.Dec.{leb, ltb, eqb}
use borrow.Author.Tests.{eq-eqb, eqb-true, eqb-false, lt-ltb, ltb-true, le-leb}
use Rattle.units.specs.Judging.{Decides}
use Rattle.units.specs.Places.{at}
use Rattle.units.proofs.JudgingLaws.{true_or_false, decides_both, decides_le, same_test}
use Rattle.fields.specs.Fields.{mode_tag}
use Rattle.line_reader.specs.Scan.{code_of, is_readable, is_empty_line}
use Rattle.line_reader.specs.declared.Scan.{Scan}
use Rattle.command_compose.specs.Compose.{ttrt_word, mode_word, frame_word, grid_word, station_word, visit_word, mark_word, is_ttrt, line_tag, is_station, is_plan_station, is_record_line}
use Rattle.text_faults.specs.Lines.{is_single, least_of, most_of, is_byte, limit_of, fits, begins, is_read}

-- what `compose` reads, in its order
abbrev pub known : Scan → Bool
known s =
    is_empty_line s
    || (is_ttrt s || (leb mode_tag (line_tag s) || (is_station s || (is_plan_station s || is_record_line s))))

-- ---- tests on numbers

decides_eq : (a b : ℕ) → Decides (eqb a b) (a ≡ b)
decides_eq a b = (eqb-true a b, eq-eqb a b)

decides_lt : (a b : ℕ) → Decides (ltb a b) (a < b)
decides_lt a b = (ltb-true a b, lt-ltb a b)

itself : (b : Bool) → Decides b (b ≡ true)
itself b = (λ e. e, λ e. e)

or_false : (b : Bool) → (b || false) ≡ b
or_false true = refl
or_false false = refl

below : (v : ℕ) → leb v 4_294_967_295 ≡ ltb v (2 ^ 32)
below v = same_test _ _ _ _ (decides_le v 4_294_967_295) (decides_lt v (2 ^ 32)) (λ l. omega arith) (λ l. omega arith)

-- a line of the header behind TTRT's has a tag
further : (b : Bool) (tag : ℕ) → 4 ≤ tag → b ≡ (leb 4 (cond b tag 0) || false)
further true tag l = rw (le-leb 4 tag l) refl
further false tag l = refl

-- just so many numbers
exactly : (c n : ℕ) (f : Bool) → ((leb c n && f) && leb n c) ≡ (eqb c n && f)
exactly c n f =
    same_test _ _ _ _ (decides_both _ _ _ _ (decides_both _ _ _ _ (decides_le c n) (itself f)) (decides_le n c)) (decides_both _ _ _ _ (decides_eq c n) (itself f))
    (λ h. (omega (arith, h.0.0, h.1), h.0.1))
    (λ h. ((omega (arith, h.0), h.1), omega (arith, h.0)))

-- four or five
four_or_five : (c : ℕ) (f : Bool) → ((leb c 5 && f) && leb 4 c) ≡ ((eqb c 4 && f) || ((eqb c 5 && f) || false))
four_or_five c f =
    ⊎_elim (λ (e : eqb c 4 ≡ true). let i : c ≡ 4 = eqb-true c 4 e in rw i (by_four f))
    (λ (e : eqb c 4 ≡ false).
    ⊎_elim (λ (g : eqb c 5 ≡ true). let i : c ≡ 5 = eqb-true c 5 g in rw i (by_five f))
    (λ (g : eqb c 5 ≡ false).
    rw (e, g)
    (same_test _ false _ _ (decides_both _ _ _ _ (decides_both _ _ _ _ (decides_le c 5) (itself f)) (decides_le 4 c)) (itself false)
    (λ h. absurd (omega (arith, h.0.0, h.1, eqb-false c 4 e, eqb-false c 5 g)))
    (λ z. absurd (false≢true z))))
    (true_or_false (eqb c 5)))
    (true_or_false (eqb c 4))
  where
    by_four : (f : Bool) → ((true && f) && true) ≡ (f || ((false && f) || false))
    by_four true = refl
    by_four false = refl

    by_five : (f : Bool) → ((true && f) && true) ≡ ((false && f) || (f || false))
    by_five true = refl
    by_five false = refl

-- a first number of a byte
first_byte : (c v : ℕ) (f : Bool) → ((leb c 5 && (leb v 255 && f)) && leb 5 c) ≡ ((eqb c 5 && (ltb v (2 ^ 32) && f)) && ltb v 256)
first_byte c v f =
    same_test _ _ _ _ (decides_both _ _ _ _ (decides_both _ _ _ _ (decides_le c 5) (decides_both _ _ _ _ (decides_le v 255) (itself f))) (decides_le 5 c))
    (decides_both _ _ _ _ (decides_both _ _ _ _ (decides_eq c 5) (decides_both _ _ _ _ (decides_lt v (2 ^ 32)) (itself f))) (decides_lt v 256))
    (λ h. ((omega (arith, h.0.0, h.1), (omega (arith, h.0.1.0), h.0.1.1)), omega (arith, h.0.1.0)))
    (λ h. ((omega (arith, h.0.0), (omega (arith, h.1), h.0.1.1)), omega (arith, h.0.0)))

-- two of them
two_bytes : (c v u : ℕ) (f : Bool)
    → ((leb c 2 && (leb v 255 && (leb u 255 && f))) && leb 2 c)
    ≡ ((eqb c 2 && (ltb v (2 ^ 32) && (ltb u (2 ^ 32) && f))) && (ltb v 256 && ltb u 256))
two_bytes c v u f =
    same_test _ _ _ _ (decides_both _ _ _ _ (decides_both _ _ _ _ (decides_le c 2) (decides_both _ _ _ _ (decides_le v 255) (decides_both _ _ _ _ (decides_le u 255) (itself f)))) (decides_le 2 c))
    (decides_both _ _ _ _ (decides_both _ _ _ _ (decides_eq c 2) (decides_both _ _ _ _ (decides_lt v (2 ^ 32)) (decides_both _ _ _ _ (decides_lt u (2 ^ 32)) (itself f)))) (decides_both _ _ _ _ (decides_lt v 256) (decides_lt u 256)))
    (λ h. ((omega (arith, h.0.0, h.1), (omega (arith, h.0.1.0), (omega (arith, h.0.1.1.0), h.0.1.1.1))), (omega (arith, h.0.1.0), omega (arith, h.0.1.1.0))))
    (λ h. ((omega (arith, h.0.0), (omega (arith, h.1.0), (omega (arith, h.1.1), h.0.1.1.1))), omega (arith, h.0.0)))

-- ---- word by word

module _ (s : Scan) (r : is_readable s ≡ true) where
  no_word : s.word ≡ 0 → is_read s ≡ known s
  unfolding is_read begins least_of is_single
  no_word e = rw (r, e, le-leb 0 s.count (omega arith)) refl

  is_ttrt_lem : s.word ≡ code_of ttrt_word → is_read s ≡ known s
  unfolding is_read begins fits limit_of is_byte least_of most_of is_single line_tag
  is_ttrt_lem e = rw (r, e, below, below, below, below, below) (exactly s.count 1 _ ∙ sym (or_false _))

  is_mode : s.word ≡ code_of mode_word → is_read s ≡ known s
  unfolding is_read begins fits limit_of is_byte least_of most_of is_single line_tag
  is_mode e = rw (r, e, below, below, below, below, below) (exactly s.count 1 _ ∙ further (eqb s.count 1 && _) 4 (omega arith))

  is_frame : s.word ≡ code_of frame_word → is_read s ≡ known s
  unfolding is_read begins fits limit_of is_byte least_of most_of is_single line_tag
  is_frame e = rw (r, e, below, below, below, below, below) (exactly s.count 1 _ ∙ further (eqb s.count 1 && _) 5 (omega arith))

  is_grid : s.word ≡ code_of grid_word → is_read s ≡ known s
  unfolding is_read begins fits limit_of is_byte least_of most_of is_single line_tag
  is_grid e = rw (r, e, below, below, below, below, below) (exactly s.count 1 _ ∙ further (eqb s.count 1 && _) 6 (omega arith))

  is_station_lem : s.word ≡ code_of station_word → is_read s ≡ known s
  unfolding is_read begins fits limit_of is_byte least_of most_of is_single line_tag
  is_station_lem e = rw (r, e, below, below, below, below, below) (four_or_five s.count _)

  is_visit_lem : s.word ≡ code_of visit_word → is_read s ≡ known s
  unfolding is_read begins fits limit_of is_byte least_of most_of is_single line_tag
  is_visit_lem e = rw (r, e, below, below, below, below) (first_byte s.count (at s.values 0) _ ∙ sym (or_false _))

  is_mark_lem : s.word ≡ code_of mark_word → is_read s ≡ known s
  unfolding is_read begins fits limit_of is_byte least_of most_of is_single line_tag
  is_mark_lem e = rw (r, e, below, below, below) (two_bytes s.count (at s.values 0) (at s.values 1) _)

  by_word : is_read s ≡ known s
  unfolding is_read begins least_of most_of is_single line_tag
  by_word =
      ⊎_elim (λ t. no_word (eqb-true _ _ t))
      (λ (e0 : eqb s.word 0 ≡ false).
      ⊎_elim (λ t. is_ttrt_lem (eqb-true _ _ t))
      (λ (e1 : eqb s.word (code_of ttrt_word) ≡ false).
      ⊎_elim (λ t. is_mode (eqb-true _ _ t))
      (λ (e2 : eqb s.word (code_of mode_word) ≡ false).
      ⊎_elim (λ t. is_frame (eqb-true _ _ t))
      (λ (e3 : eqb s.word (code_of frame_word) ≡ false).
      ⊎_elim (λ t. is_grid (eqb-true _ _ t))
      (λ (e4 : eqb s.word (code_of grid_word) ≡ false).
      ⊎_elim (λ t. is_station_lem (eqb-true _ _ t))
      (λ (e5 : eqb s.word (code_of station_word) ≡ false).
      ⊎_elim (λ t. is_visit_lem (eqb-true _ _ t))
      (λ (e6 : eqb s.word (code_of visit_word) ≡ false).
      ⊎_elim (λ t. is_mark_lem (eqb-true _ _ t))
      (λ (e7 : eqb s.word (code_of mark_word) ≡ false). rw (r, e0, e1, e2, e3, e4, e5, e6, e7) refl)
      (true_or_false (eqb s.word (code_of mark_word))))
      (true_or_false (eqb s.word (code_of visit_word))))
      (true_or_false (eqb s.word (code_of station_word))))
      (true_or_false (eqb s.word (code_of grid_word))))
      (true_or_false (eqb s.word (code_of frame_word))))
      (true_or_false (eqb s.word (code_of mode_word))))
      (true_or_false (eqb s.word (code_of ttrt_word))))
      (true_or_false (eqb s.word 0))

pub read_same : (s : Scan) → is_read s ≡ known s
unfolding is_read begins line_tag
read_same s = ⊎_elim (by_word s) (λ (r : is_readable s ≡ false). rw r refl) (true_or_false (is_readable s))
