-- The lines of lists that are put together, for the proofs of what puts them. No rule stands here.
use Prim.Native.Nat.{ℕ, ◌+◌, ◌-◌, ◌*◌, ◌≤◌, min}
use mathlib.Core.Path.{◌≡◌, refl, sym, ap, ◌∙◌}
use mathlib.Core.Bool.{Bool}
use mathlib.Core.List.{List, [], ◌∷◌, ◌++◌, append_assoc, append-nil}
use mathlib.Core.Logic.{◌≢◌}
use native.Mathlib.Numerals.{add-one}
use native.Mathlib.Omega.{arith}
use borrow.Author.Tests.{eq-eqb, ne_eqb}
use lib.ListN.{length}
use Rattle.text.specs.Text.{space, decimal_of, line_on, line, number_words, refused_word}
use Rattle.text.proofs.TextLaws.{line_first, line_next}
use Rattle.differences.specs.Differences.{Difference, in_header, in_station, one_sided, changed, gathered, header_changed, headers_changed}
use Rattle.command_diff.proofs.BackLaws.{line_some}
use Rattle.command_diff.specs.DiffText.{letter_word, new_word, old_word, side_word, five_words, words_of, line_of, lines_of, lines_size, side_refused}

-- ---- lists put together

pub lines_append : (xs ys : List Difference) → lines_of (xs ++ ys) ≡ lines_of xs ++ lines_of ys
unfolding lines_of
lines_append [] ys = refl
lines_append (x ∷ xs) ys = ap (λ (z : List ℕ). line_of x ++ z) (lines_append xs ys) ∙ sym (append_assoc (line_of x) (lines_of xs) (lines_of ys))

pub lines_one : (d : Difference) → lines_of (d ∷ []) ≡ line_of d
unfolding lines_of
lines_one d = append-nil (line_of d)

-- four lists
pub lines_four : (xs ys zs ws : List Difference) → ((lines_of xs ++ lines_of ys) ++ lines_of zs) ++ lines_of ws ≡ lines_of (xs ++ (ys ++ (zs ++ ws)))
lines_four xs ys zs ws = rw (lines_append xs (ys ++ (zs ++ ws)), lines_append ys (zs ++ ws), lines_append zs ws) (simp append_assoc)

-- the lists of the first n places
pub lines_none : (f : ℕ → List Difference) → lines_of (gathered 0 f) ≡ []
unfolding gathered lines_of
lines_none f = refl

pub lines_step : (n : ℕ) (f : ℕ → List Difference) → lines_of (gathered (n + 1) f) ≡ lines_of (gathered n f) ++ lines_of (f n)
unfolding gathered
lines_step n f = rw add-one (lines_append (gathered n f) (f n))

-- three, and five, of them
lines_three : (f : ℕ → List Difference) → lines_of (gathered 3 f) ≡ (lines_of (f 0) ++ lines_of (f 1)) ++ lines_of (f 2)
lines_three f =
    lines_step 2 f ∙ ap (λ (z : List ℕ). z ++ lines_of (f 2)) (lines_step 1 f ∙ ap (λ (z : List ℕ). z ++ lines_of (f 1)) (lines_step 0 f ∙ ap (λ (z : List ℕ). z ++ lines_of (f 0)) (lines_none f)))

pub lines_five : (f : ℕ → List Difference) → lines_of (gathered 5 f) ≡ (((lines_of (f 0) ++ lines_of (f 1)) ++ lines_of (f 2)) ++ lines_of (f 3)) ++ lines_of (f 4)
lines_five f = lines_step 4 f ∙ ap (λ (z : List ℕ). z ++ lines_of (f 4)) (lines_step 3 f ∙ ap (λ (z : List ℕ). z ++ lines_of (f 3)) (lines_three f))

-- the header's four
pub lines_headers : (f g : ℕ → ℕ)
    → lines_of (headers_changed f g) ≡ ((lines_of (header_changed f g 1) ++ lines_of (header_changed f g 4)) ++ lines_of (header_changed f g 5)) ++ lines_of (header_changed f g 6)
lines_headers f g =
    lines_append (header_changed f g 1) (gathered 3 (λ k. header_changed f g (4 + k)))
    ∙ ap (λ (z : List ℕ). lines_of (header_changed f g 1) ++ z) (lines_three (λ k. header_changed f g (4 + k)))
    ∙ regroup (lines_of (header_changed f g 1)) (lines_of (header_changed f g 4)) (lines_of (header_changed f g 5)) (lines_of (header_changed f g 6))
  where
    regroup : (x a b c : List ℕ) → x ++ ((a ++ b) ++ c) ≡ ((x ++ a) ++ b) ++ c
    regroup x a b c = simp append_assoc

-- ---- two numbers

module _ (make : ℕ → ℕ → Difference) (old new : ℕ) where
  pub lines_same : old ≡ new → lines_of (changed make old new) ≡ []
  unfolding changed lines_of
  lines_same e = rw (eq-eqb old new e) refl

  pub lines_changed : old ≢ new → lines_of (changed make old new) ≡ line_of (make old new)
  unfolding changed lines_of
  lines_changed n = rw (ne_eqb old new n) (append-nil (line_of (make old new)))

-- ---- the words of a line, put one behind another

pub header_line : (tag old new : ℕ) → old ≢ new → decimal_of tag ++ line ([] ∷ number_words (old ∷ new ∷ [])) ≡ lines_of (changed (in_header tag) old new)
unfolding words_of line number_words
header_line tag old new n = rw (lines_changed (in_header tag) old new n) refl

pub number_line_lem : (i j old new : ℕ) → old ≢ new
    → decimal_of i ++ line ((space ∷ letter_word j) ∷ number_words (old ∷ new ∷ [])) ≡ lines_of (changed (in_station i j) old new)
unfolding words_of line line_on number_words
number_line_lem i j old new n = rw (lines_changed (in_station i j) old new n) refl

pub alone_line : (new : Bool) (i w c d p s : ℕ) → (decimal_of i ++ (space ∷ side_word new)) ++ line_on (five_words w c d p s) ≡ line_of (one_sided new i w c d p s)
unfolding words_of
alone_line new i w c d p s = sym (line_first (decimal_of i) (side_word new ∷ five_words w c d p s) ∙ line_next (decimal_of i) (side_word new) (five_words w c d p s))

-- "new refused", "old refused"
abbrev pub new_refused : List ℕ
new_refused = new_word ++ (space ∷ refused_word)

abbrev pub old_refused : List ℕ
old_refused = old_word ++ (space ∷ refused_word)

pub side_refused_lem : (side : List ℕ) (n : ℕ) → line ((side ++ (space ∷ refused_word)) ∷ number_words (n ∷ [])) ≡ side_refused side n
unfolding line line_on number_words
side_refused_lem side n = append_assoc side (space ∷ refused_word) (line_on (decimal_of n ∷ []))

-- ---- how much is put, of plans with n and m stations: the lines of the header, of the stations that both have, and of those that one has more

pub record Sizes (place n m shared size : ℕ) : Type 0 where
  pub shared_fit : place + 252 + 415 * shared ≤ size
  pub come_fit : place + (252 + 415 * shared) + 146 * (m - n) ≤ size
  pub gone_fit : place + (252 + 415 * shared + 146 * (m - n)) + 146 * (n - m) ≤ size
  pub all_fit : 252 + 415 * shared + 146 * (m - n) + 146 * (n - m) ≤ lines_size

pub sizes : (place n m shared size : ℕ) → n ≤ 128 → m ≤ 128 → shared ≡ min n m → place + lines_size ≤ size → Sizes place n m shared size
sizes place n m shared size few many both large =
    let most : 415 * shared + 146 * (m - n) + 146 * (n - m) ≤ 415 * 128 = omega arith in
    record { shared_fit = omega arith; come_fit = omega arith; gone_fit = omega arith; all_fit = omega arith }

-- ---- no line

empty : (xs : List ℕ) → length xs ≡ 0 → xs ≡ []
empty [] e = refl
empty (x ∷ xs) e = absurd (omega arith)

pub none_told : (ds : List Difference) → length (lines_of ds) ≡ 0 → ds ≡ []
unfolding lines_of
none_told [] e = refl
none_told (d ∷ ds) e = absurd (line_some d (lines_of ds) (empty _ e))
