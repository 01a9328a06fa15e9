-- The laws of words, for the proofs here and above. No rule stands here.
use Prim.Native.Nat.{ℕ, zero, suc, ◌+◌, ◌-◌, ◌*◌, ◌/◌, ◌%◌, ◌≤◌, ◌<◌, min}
use mathlib.Core.Path.{◌≡◌, refl, ap, ◌∙◌}
use mathlib.Core.Bool.{true}
use mathlib.Core.List.{List, [], ◌∷◌, ◌++◌, append_assoc, append-nil}
use mathlib.Core.Logic.{⊎_elim}
use native.Mathlib.Numerals.{add-one}
use native.Mathlib.Omega.{arith}
use borrow.Author.Tests.{le-leb, lt-ltb, le-ltb, ne_eqb}
use lib.Dec.{leb}
use lib.ListN.{length, length-append, get_or-append, take}
use lib.Seq.{get_or-append_seam, take-length}
use Rattle.std.specs.List.{list_all}
use Rattle.std.proofs.lemmas.List.Folds.{list_all_more}
use Rattle.units.specs.Places.{at, all_below}
use Rattle.units.proofs.PlaceLaws.{all_of}
use Rattle.units.proofs.JudgingLaws.{true_and}
use Rattle.units.proofs.SmallLaws.{below_or_not}
use Rattle.text.specs.Text.{digit, decimal_within, decimal_of}
use Rattle.text.specs.Promised.{value_on}
use Rattle.number_words.specs.Words.{is_digit, is_whole, grown, first_digits}

-- ---- digits

first_are_digits : (word : List ℕ) (n : ℕ) → n ≤ length word → all_below n (λ i. is_digit (at word i)) ≡ list_all is_digit (take n word)
unfolding all_below
first_are_digits word zero h = refl
first_are_digits word (suc n) h = rw (first_are_digits word n (omega arith), ← list_all_more is_digit word n 0 (omega arith), add-one)

-- each byte is a digit
pub all_digits : (word : List ℕ) → all_below (length word) (λ i. is_digit (at word i)) ≡ list_all is_digit word
all_digits word = rw take-length at (first_are_digits word (length word) (omega arith))

pub digits_none : (word : List ℕ) → first_digits 0 word ≡ 0
unfolding first_digits
digits_none word = refl

pub digits_step : (i : ℕ) (word : List ℕ) → first_digits (i + 1) word ≡ grown (first_digits i word) (at word i)
unfolding first_digits
digits_step i word = rw add-one

-- ---- what a word's digits write

-- the digits behind others go on from what those write, as far as the first number above all of 32 bits
digits_on : (done rest : List ℕ) (v : ℕ) → first_digits (length done) (done ++ rest) ≡ min v 4_294_967_296 → first_digits (length (done ++ rest)) (done ++ rest) ≡ min (value_on v rest) 4_294_967_296
unfolding value_on
digits_on done [] v h = ap (λ (i : ℕ). first_digits i (done ++ [])) (ap length (append-nil done)) ∙ h
digits_on done (d ∷ rest) v h =
    let split : done ++ (d ∷ []) ++ rest ≡ done ++ (d ∷ rest) = append_assoc done (d ∷ []) rest in
    let more : length (done ++ (d ∷ [])) ≡ length done + 1 = length-append done (d ∷ []) in
    let here : at (done ++ (d ∷ rest)) (length done) ≡ d = get_or-append_seam done d rest 0 in
    let step : first_digits (length (done ++ (d ∷ []))) (done ++ (d ∷ []) ++ rest) ≡ min (v * 10 + (d - 48)) 4_294_967_296 =
    rw (split, more, digits_step, here, h) (omega arith) in
    rw split at (digits_on (done ++ (d ∷ [])) rest (v * 10 + (d - 48)) step)

pub digits_write : (word : List ℕ) → first_digits (length word) word ≡ min (value_on 0 word) 4_294_967_296
digits_write word = digits_on [] word 0 (digits_none word ∙ omega arith)

-- ---- the digits of a number

-- one digit behind others
digits_behind : (ds : List ℕ) (d : ℕ) → d < 10 → ((i : ℕ) → i < length ds → is_digit (at ds i) ≡ true) → (i : ℕ) → i < length (ds ++ digit d ∷ []) → is_digit (at (ds ++ digit d ∷ []) i) ≡ true
digits_behind ds d b all i l =
    ⊎_elim (λ (s : i < length ds). ap is_digit (get_or-append ds (digit d ∷ []) 0 i s) ∙ all i s)
    (λ (s : length ds ≤ i).
    let e : i ≡ length ds = omega (arith, length-append ds (digit d ∷ [])) in
    let low : 48 ≤ digit d = omega arith in
    let high : digit d ≤ 57 = omega arith in
    ap (λ (j : ℕ). is_digit (at (ds ++ digit d ∷ []) j)) e
    ∙ ap is_digit (get_or-append_seam ds (digit d) [] 0)
    ∙ true_and (leb 48 (digit d)) (leb (digit d) 57) (le-leb _ _ low) (le-leb _ _ high))
    (below_or_not i (length ds))

decimal_digits : (k n i : ℕ) → i < length (decimal_within k n) → is_digit (at (decimal_within k n) i) ≡ true
unfolding decimal_within
decimal_digits zero n = λ i l. absurd (omega arith)
decimal_digits (suc k) n =
    ⊎_elim (λ (b : n < 10). rw (lt-ltb n 10 b) (digits_behind [] n b (λ i l. absurd (omega arith))))
    (λ (b : 10 ≤ n). rw (le-ltb n 10 b) (digits_behind (decimal_within k (n / 10)) (n % 10) (omega arith) (decimal_digits k (n / 10))))
    (below_or_not n 10)

decimal_some : (k n : ℕ) → 1 ≤ length (decimal_within (suc k) n)
unfolding decimal_within
decimal_some k n =
    ⊎_elim (λ (b : n < 10). rw (lt-ltb n 10 b) (omega arith))
    (λ (b : 10 ≤ n). rw (le-ltb n 10 b) (omega (arith, length-append (decimal_within k (n / 10)) (digit (n % 10) ∷ []))))
    (below_or_not n 10)

pub decimal_whole : (n : ℕ) → is_whole (decimal_of n) ≡ true
unfolding is_whole
decimal_whole n = rw (ne_eqb (length (decimal_of n)) 0 (λ e. omega (arith, decimal_some 19 n))) (all_of _ _ (decimal_digits 20 n))
