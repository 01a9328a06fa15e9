-- The lines of differences can be read back: each line tells its difference.
use Prim.Native.Nat.{ℕ, zero, suc, ◌≤◌, ◌<◌}
use mathlib.Core.Path.{◌≡◌, refl, sym, ap, ◌∙◌}
use mathlib.Core.Bool.{Bool, true, false, cond}
use mathlib.Core.List.{List, [], ◌∷◌, ◌++◌, append-nil}
use mathlib.Core.Logic.{inl, inr}
use native.Mathlib.Omega.{arith}
use lib.Dec.{eqb}
use lib.ListN.{length, get_or, length-append}
use Rattle.text.specs.Text.{line_on, line}
use Rattle.differences.specs.Differences.{Difference, in_header, in_station, one_sided}
use Rattle.command_diff.specs.DiffText.{letter_word, side_word, same_word, words_of, line_of, lines_of, diff_text}
use Rattle.command_diff.specs.Promised.{Writable, AllWritable}
use Rattle.command_diff.proofs.WordLaws.{Word, Words, word_number, number_same, line_same}

-- ---- words

word_letter : (j : ℕ) → Word (letter_word j)
unfolding letter_word
word_letter zero = (omega arith, tt)
word_letter (suc zero) = (omega arith, tt)
word_letter (suc (suc zero)) = (omega arith, tt)
word_letter (suc (suc (suc zero))) = (omega arith, tt)
word_letter (suc (suc (suc (suc j)))) = (omega arith, tt)

word_side : (new : Bool) → Word (side_word new)
unfolding side_word
word_side true = (omega arith, (omega arith, (omega arith, tt)))
word_side false = (omega arith, (omega arith, (omega arith, tt)))

-- a letter tells its number
number_by : List ℕ → ℕ
number_by [] = 5
number_by (b ∷ bs) = cond (eqb b 119) 0 (cond (eqb b 67) 1 (cond (eqb b 68) 2 (cond (eqb b 80) 3 4)))

letter_tells : (j : ℕ) → j < 5 → number_by (letter_word j) ≡ j
unfolding letter_word number_by
letter_tells zero l = refl
letter_tells (suc zero) l = refl
letter_tells (suc (suc zero)) l = refl
letter_tells (suc (suc (suc zero))) l = refl
letter_tells (suc (suc (suc (suc zero)))) l = refl
letter_tells (suc (suc (suc (suc (suc j))))) l = absurd (omega arith)

letter_same : (i j : ℕ) → i < 5 → j < 5 → letter_word i ≡ letter_word j → i ≡ j
letter_same i j l m e = sym (letter_tells i l) ∙ ap number_by e ∙ letter_tells j m

-- a side's word tells it
side_by : List ℕ → Bool
side_by [] = false
side_by (b ∷ bs) = eqb b 110

side_tells : (new : Bool) → side_by (side_word new) ≡ new
unfolding side_word side_by
side_tells true = refl
side_tells false = refl

side_same : (a b : Bool) → side_word a ≡ side_word b → a ≡ b
side_same a b e = sym (side_tells a) ∙ ap side_by e ∙ side_tells b

-- ---- a line

words_of_lem : (d : Difference) → Words (words_of d)
unfolding words_of
words_of_lem (in_header tag old new) = (word_number tag, (word_number old, (word_number new, tt)))
words_of_lem (in_station i j old new) = (word_number i, (word_letter j, (word_number old, (word_number new, tt))))
words_of_lem (one_sided new i w c d p s) = (word_number i, (word_side new, (word_number w, (word_number c, (word_number d, (word_number p, (word_number s, tt)))))))

-- the word at a place
nth : ℕ → List (List ℕ) → List ℕ
nth k ws = get_or ws k []

-- the words tell the difference
words_same : (d e : Difference) → Writable d → Writable e → words_of d ≡ words_of e → d ≡ e
unfolding words_of nth
words_same (in_header k o n) (in_header l p m) x y q =
    let tag : k ≡ l = number_same k l x.0 y.0 (ap (nth 0) q) in
    let old : o ≡ p = number_same o p x.1 y.1 (ap (nth 1) q) in
    let new : n ≡ m = number_same n m x.2 y.2 (ap (nth 2) q) in
    rw (tag, old, new) refl
words_same (in_station i j o n) (in_station k l p m) x y q =
    let station : i ≡ k = number_same i k x.0.0 y.0.0 (ap (nth 0) q) in
    let letter : j ≡ l = letter_same j l x.0.1 y.0.1 (ap (nth 1) q) in
    let old : o ≡ p = number_same o p x.1 y.1 (ap (nth 2) q) in
    let new : n ≡ m = number_same n m x.2 y.2 (ap (nth 3) q) in
    rw (station, letter, old, new) refl
words_same (one_sided a i w c d p s) (one_sided b k w' c' d' p' s') x y q =
    let side : a ≡ b = side_same a b (ap (nth 1) q) in
    let station : i ≡ k = number_same i k x.0.0 y.0.0 (ap (nth 0) q) in
    let walk : w ≡ w' = number_same w w' x.0.1 y.0.1 (ap (nth 2) q) in
    let longest : c ≡ c' = number_same c c' x.1.0 y.1.0 (ap (nth 3) q) in
    let deadline : d ≡ d' = number_same d d' x.1.1 y.1.1 (ap (nth 4) q) in
    let gap : p ≡ p' = number_same p p' x.2 y.2 (ap (nth 5) q) in
    let share : s ≡ s' = number_same s s' x.3 y.3 (ap (nth 6) q) in
    rw (side, station, walk, longest, deadline, gap, share) refl
words_same (in_header k o n) (in_station i j p m) x y q = absurd (omega (arith, ap length q))
words_same (in_header k o n) (one_sided a i w c d p s) x y q = absurd (omega (arith, ap length q))
words_same (in_station i j p m) (in_header k o n) x y q = absurd (omega (arith, ap length q))
words_same (in_station i j o n) (one_sided a k w c d p s) x y q = absurd (omega (arith, ap length q))
words_same (one_sided a i w c d p s) (in_header k o n) x y q = absurd (omega (arith, ap length q))
words_same (one_sided a k w c d p s) (in_station i j o n) x y q = absurd (omega (arith, ap length q))

words_many : (d : Difference) → 3 ≤ length (words_of d)
unfolding words_of
words_many (in_header tag old new) = omega arith
words_many (in_station i j old new) = omega arith
words_many (one_sided new i w c d p s) = omega arith

-- the words of a line: a first one and others
first_word : (d : Difference) → (v : List ℕ) × ((vs : List (List ℕ)) × (words_of d ≡ v ∷ vs))
unfolding words_of
first_word (in_header tag old new) = (_, (_, refl))
first_word (in_station i j old new) = (_, (_, refl))
first_word (one_sided new i w c d p s) = (_, (_, refl))

words_told : (us ws : List (List ℕ)) (x y : List ℕ) → Words us → Words ws → (v : List ℕ) (vs : List (List ℕ)) → us ≡ v ∷ vs → (u : List ℕ) (rest : List (List ℕ)) → ws ≡ u ∷ rest
    → line us ++ x ≡ line ws ++ y → (us ≡ ws) × (x ≡ y)
words_told us ws x y p q v vs e u rest f same =
    let r = line_same v u vs rest x y (rw e at p) (rw f at q) (rw (e, f) at same) in
    (e ∙ r.0 ∙ sym f, r.1)

line_tells : (d e : Difference) (x y : List ℕ) → Writable d → Writable e → line_of d ++ x ≡ line_of e ++ y → (d ≡ e) × (x ≡ y)
line_tells d e x y p q same =
    let a = first_word d in
    let b = first_word e in
    let r = words_told (words_of d) (words_of e) x y (words_of_lem d) (words_of_lem e) a.0 a.1.0 a.1.1 b.0 b.1.0 b.1.1 same in
    (words_same d e p q r.0, r.1)

-- ---- all lines

on_long : (vs : List (List ℕ)) → 1 ≤ length (line_on vs)
unfolding line_on
on_long [] = omega arith
on_long (v ∷ vs) = omega arith

line_long : (v : List ℕ) (vs : List (List ℕ)) (x : List ℕ) → line (v ∷ vs) ++ x ≡ [] → ⊥
unfolding line
line_long v vs x e = omega (arith, ap length e, length-append (v ++ line_on vs) x, length-append v (line_on vs), on_long vs)

pub line_some : (d : Difference) (x : List ℕ) → line_of d ++ x ≡ [] → ⊥
line_some d x e = let a = first_word d in line_long a.0 a.1.0 x (rw a.1.1 at e)

lines_tell : (ds es : List Difference) → AllWritable ds → AllWritable es → lines_of ds ≡ lines_of es → ds ≡ es
unfolding lines_of
lines_tell [] [] p q e = refl
lines_tell [] (y ∷ es) p q e = absurd (line_some y (lines_of es) (sym e))
lines_tell (x ∷ ds) [] p q e = absurd (line_some x (lines_of ds) e)
lines_tell (x ∷ ds) (y ∷ es) p q e =
    let r = line_tells x y (lines_of ds) (lines_of es) (p x (inl refl)) (q y (inl refl)) e in
    let rest = lines_tell ds es (λ d i. p d (inr i)) (λ d i. q d (inr i)) r.1 in
    ap (λ (z : Difference). z ∷ ds) r.0 ∙ ap (λ (zs : List Difference). y ∷ zs) rest

-- `same` is no line of a difference: it has one word
pub same_alone : (d : Difference) (x : List ℕ) → line (same_word ∷ []) ≡ line_of d ++ x → ⊥
same_alone d x e =
    let a = first_word d in
    let whole : line (same_word ∷ []) ++ [] ≡ line_of d ++ x = append-nil (line (same_word ∷ [])) ∙ e in
    let r = words_told (same_word ∷ []) (words_of d) [] x ((omega arith, (omega arith, (omega arith, (omega arith, tt)))), tt) (words_of_lem d) same_word [] refl a.0 a.1.0 a.1.1 whole in
    omega (arith, ap length r.0, words_many d)

pub text_tells : (ds es : List Difference) → AllWritable ds → AllWritable es → diff_text ds ≡ diff_text es → ds ≡ es
unfolding diff_text lines_of
text_tells [] [] p q e = refl
text_tells [] (y ∷ es) p q e = absurd (same_alone y (lines_of es) e)
text_tells (x ∷ ds) [] p q e = absurd (same_alone x (lines_of ds) (sym e))
text_tells (x ∷ ds) (y ∷ es) p q e = lines_tell (x ∷ ds) (y ∷ es) p q e
