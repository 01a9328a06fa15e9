-- The laws of reading a line: what is scanned of a word and of the numbers that `decimal_of` writes behind it. For the proofs of this layer and those above.
use Prim.Native.Nat.{ℕ, zero, suc, ◌+◌, ◌-◌, ◌*◌, ◌/◌, ◌%◌, ◌^◌, ◌≤◌, ◌<◌}
use mathlib.Core.Path.{◌≡◌, refl, sym, ap, ◌∙◌}
use mathlib.Core.Bool.{Bool, true, not, ◌&&◌}
use mathlib.Core.List.{List, [], ◌∷◌, ◌++◌, map, append_assoc}
use mathlib.Core.Logic.{◌≢◌, ⊎_elim}
use native.Mathlib.Omega.{arith}
use native.Mathlib.Nat.{pow-suc, div-lt_iff_lt-mul}
use borrow.Author.Tests.{lt-ltb, le-ltb, le-leb, ne_eqb, not-true, eqb-false}
use lib.Dec.{eqb}
use lib.ListN.{length, set, replicate, length-set}
use lib.Seq.{get_or-set_same}
use Rattle.units.proofs.SmallLaws.{below_or_not}
use Rattle.units.specs.Places.{at}
use Rattle.units.proofs.JudgingLaws.{and-true, true_and}
use Rattle.text.specs.Text.{digit, space, newline, decimal_within, decimal_of, line_on, line}
use Rattle.text.proofs.TextLaws.{line_first}
use Rattle.line_reader.specs.Scan.{code_of, between, in_word, in_number, fresh_scan, in_phase, longer, number_begun, digit_read, character_read, stepped}
use Rattle.line_reader.specs.declared.Scan.{Scan}

-- ---- byte after byte

-- the scan behind all the bytes
unfoldable pub stepped_over : Scan → List ℕ → Scan
stepped_over s [] = s
stepped_over s (b ∷ bs) = stepped_over (stepped s b) bs

pub over_append : (s : Scan) (front rest : List ℕ) → stepped_over s (front ++ rest) ≡ stepped_over (stepped_over s front) rest
unfolding stepped_over
over_append s [] rest = refl
over_append s (b ∷ front) rest = over_append (stepped s b) front rest

pub over_one : (s : Scan) (b : ℕ) → stepped_over s (b ∷ []) ≡ stepped s b
unfolding stepped_over
over_one s b = refl

-- ---- one digit

-- the scan with one number more
abbrev pub with_number : Scan → ℕ → Scan
with_number s n = record { values = set s.values s.count n; word = s.word; count = s.count + 1; phase = in_number }

module _ (s : Scan) (b : ℕ) (low : 48 ≤ b) (high : b ≤ 57) where
  -- a digit is no `#` and no blank
  digit_read_lem : s.phase < 3 → stepped s b ≡ character_read s b
  unfolding stepped
  digit_read_lem p =
      rw (ne_eqb s.phase 3 (omega arith), ne_eqb s.phase 4 (omega arith), ne_eqb b 35 (omega arith), ne_eqb b 32 (omega arith), ne_eqb b 9 (omega arith), ne_eqb b 13 (omega arith))

  -- the first digit begins a number
  first_digit : s.phase ≡ between → s.word ≢ 0 → s.count < 5 → stepped s b ≡ with_number s (b - 48)
  unfolding character_read number_begun
  first_digit p w c =
      digit_read_lem (omega arith)
      ∙ rw (p, ne_eqb s.word 0 w, le-leb 48 b low, le-leb b 57 high, lt-ltb s.count 5 c)

  -- a further one goes on with it
  next_digit : s.phase ≡ in_number → 1 ≤ s.count → s.count ≤ 5 → longer s b < 2 ^ 64
      → stepped s b ≡ record { values = set s.values (s.count - 1) (longer s b); word = s.word; count = s.count; phase = in_number }
  unfolding character_read digit_read
  next_digit p c m l =
      digit_read_lem (omega arith)
      ∙ rw (p, le-leb 48 b low, le-leb b 57 high, le-leb 1 s.count c, le-leb s.count 5 m, lt-ltb (longer s b) (2 ^ 64) l)

-- ---- one number

set_again : (xs : List ℕ) (i v x : ℕ) → set (set xs i v) i x ≡ set xs i x
set_again [] i v x = refl
set_again (y ∷ xs) zero v x = refl
set_again (y ∷ xs) (suc i) v x = ap (λ (rest : List ℕ). y ∷ rest) (set_again xs i v x)

-- a number with one digit more
digit_more : (s : Scan) (m d n : ℕ) → s.count < 5 → length s.values ≡ 5 → d < 10 → n ≡ m * 10 + d → n < 2 ^ 64 → stepped (with_number s m) (digit d) ≡ with_number s n
digit_more s m d n c five small e l =
    let place : s.count + 1 - 1 ≡ s.count = omega arith in
    let there : at (set s.values s.count m) s.count ≡ m = get_or-set_same s.values s.count m 0 (omega arith) in
    let is : longer (with_number s m) (digit d) ≡ n = rw (place, there) (omega arith) in
    next_digit (with_number s m) (digit d) (omega arith) (omega arith) refl (omega arith) (omega arith) (omega arith)
    ∙ rw (is, place, set_again)

one_digit : (n : ℕ) (s : Scan) → n < 10 → s.phase ≡ between → s.word ≢ 0 → s.count < 5 → stepped_over s (digit n ∷ []) ≡ with_number s n
one_digit n s b p w c =
    let e : digit n - 48 ≡ n = omega arith in
    over_one s (digit n) ∙ first_digit s (digit n) (omega arith) (omega arith) p w c ∙ rw e

-- the digits of a number, read by a scan that may begin one, are that number
number_within : (k n : ℕ) (s : Scan) → n < 10 ^ suc k → n < 2 ^ 64 → s.phase ≡ between → s.word ≢ 0 → s.count < 5 → length s.values ≡ 5
    → stepped_over s (decimal_within (suc k) n) ≡ with_number s n
unfolding decimal_within
number_within zero n s h l p w c five = let b : n < 10 = h in rw (lt-ltb n 10 b) (one_digit n s b p w c)
number_within (suc j) n s h l p w c five =
    ⊎_elim (λ (b : n < 10). rw (lt-ltb n 10 b) (one_digit n s b p w c))
    (λ (b : 10 ≤ n).
    let m : n < 10 ^ suc j * 10 = rw (pow-suc 10 (suc j)) at h in
    let front : stepped_over s (decimal_within (suc j) (n / 10)) ≡ with_number s (n / 10) =
    number_within j (n / 10) s ((div-lt_iff_lt-mul (omega arith)).1 m) (omega arith) p w c five in
    rw (le-ltb n 10 b)
    (over_append s (decimal_within (suc j) (n / 10)) (digit (n % 10) ∷ [])
    ∙ rw front (over_one (with_number s (n / 10)) (digit (n % 10)) ∙ digit_more s (n / 10) (n % 10) n c five (omega arith) (omega arith) l)))
    (below_or_not n 10)

pub number_read : (n : ℕ) (s : Scan) → n < 2 ^ 64 → s.phase ≡ between → s.word ≢ 0 → s.count < 5 → length s.values ≡ 5
    → stepped_over s (decimal_of n) ≡ with_number s n
number_read n s l = number_within 19 n s (omega arith) l

-- ---- the numbers behind a word

-- a space and a number, for each of the numbers
unfoldable pub numbers_on : List ℕ → List ℕ
numbers_on [] = []
numbers_on (n ∷ ns) = (space ∷ decimal_of n) ++ numbers_on ns

-- the scan with all these numbers more
unfoldable pub with_numbers : Scan → List ℕ → Scan
with_numbers s [] = s
with_numbers s (n ∷ ns) = with_numbers (with_number s n) ns

-- each is a 64-bit number
abbrev pub AllSmall : List ℕ → Type 0
AllSmall ns = (i : ℕ) → at ns i < 2 ^ 64

pub small_none : AllSmall []
small_none i = omega arith

pub small_and : (n : ℕ) (ns : List ℕ) → n < 2 ^ 64 → AllSmall ns → AllSmall (n ∷ ns)
small_and n ns l h zero = l
small_and n ns l h (suc i) = h i

-- a space ends a word or a number
space_read : (s : Scan) → s.phase < 3 → stepped s space ≡ in_phase s between
unfolding stepped
space_read s p = rw (ne_eqb s.phase 3 (omega arith), ne_eqb s.phase 4 (omega arith))

-- and one more number is read
number_more : (n : ℕ) (s : Scan) → n < 2 ^ 64 → s.phase < 3 → s.word ≢ 0 → s.count < 5 → length s.values ≡ 5 → stepped_over s (space ∷ decimal_of n) ≡ with_number s n
unfolding stepped_over
number_more n s l p w c five =
    ap (λ (x : Scan). stepped_over x (decimal_of n)) (space_read s p) ∙ number_read n (in_phase s between) l refl w c five

numbers_read : (ns : List ℕ) (s : Scan) → s.phase < 3 → s.word ≢ 0 → s.count + length ns ≤ 5 → length s.values ≡ 5 → AllSmall ns
    → stepped_over s (numbers_on ns) ≡ with_numbers s ns
unfolding stepped_over numbers_on with_numbers
numbers_read [] s p w c five small = refl
numbers_read (n ∷ ns) s p w c five small =
    over_append s (space ∷ decimal_of n) (numbers_on ns)
    ∙ ap (λ (x : Scan). stepped_over x (numbers_on ns)) (number_more n s (small 0) p w (omega arith) five)
    ∙ numbers_read ns (with_number s n) (omega arith) w (omega arith) (length-set s.values s.count n ∙ five) (λ i. small (suc i))

-- ---- a word, and the numbers behind it

-- the scan behind a word
abbrev pub word_scan : List ℕ → Scan
word_scan word = record { values = replicate 5 0; word = code_of word; count = 0; phase = in_word }

-- a line without its end
abbrev pub typed : List ℕ → List ℕ → List ℕ
typed word ns = word ++ numbers_on ns

pub typed_read : (word ns : List ℕ) → stepped_over fresh_scan word ≡ word_scan word → code_of word ≢ 0 → length ns ≤ 5 → AllSmall ns
    → stepped_over fresh_scan (typed word ns) ≡ with_numbers (word_scan word) ns
typed_read word ns e w few small =
    over_append fresh_scan word (numbers_on ns) ∙ rw e (numbers_read ns (word_scan word) (omega arith) w (omega arith) refl small)

line_on_numbers : (ns : List ℕ) → line_on (map decimal_of ns) ≡ numbers_on ns ++ (newline ∷ [])
unfolding line_on numbers_on
line_on_numbers [] = refl
line_on_numbers (n ∷ ns) = rw (line_on_numbers ns) (sym (append_assoc (space ∷ decimal_of n) (numbers_on ns) (newline ∷ [])))

pub line_typed : (word ns : List ℕ) → line (word ∷ map decimal_of ns) ≡ typed word ns ++ (newline ∷ [])
line_typed word ns = line_first word (map decimal_of ns) ∙ rw (line_on_numbers ns) (sym (append_assoc word (numbers_on ns) (newline ∷ [])))

-- ---- no newline stands in it

unfoldable pub has_no_end : List ℕ → Bool
has_no_end [] = true
has_no_end (b ∷ bs) = not (eqb b newline) && has_no_end bs

no_end_append : (front rest : List ℕ) → has_no_end front ≡ true → has_no_end rest ≡ true → has_no_end (front ++ rest) ≡ true
unfolding has_no_end
no_end_append [] rest f r = r
no_end_append (b ∷ front) rest f r =
    let both = and-true (not (eqb b newline)) _ f in
    true_and _ _ both.0 (no_end_append front rest both.1 r)

no_end_digit : (d : ℕ) → has_no_end (digit d ∷ []) ≡ true
unfolding has_no_end
no_end_digit d = rw (ne_eqb (digit d) newline (omega arith))

no_end_decimal : (k n : ℕ) → has_no_end (decimal_within k n) ≡ true
unfolding decimal_within has_no_end
no_end_decimal zero n = refl
no_end_decimal (suc k) n =
    ⊎_elim (λ (b : n < 10). rw (lt-ltb n 10 b) (no_end_digit n))
    (λ (b : 10 ≤ n). rw (le-ltb n 10 b) (no_end_append (decimal_within k (n / 10)) (digit (n % 10) ∷ []) (no_end_decimal k (n / 10)) (no_end_digit (n % 10))))
    (below_or_not n 10)

no_end_numbers : (ns : List ℕ) → has_no_end (numbers_on ns) ≡ true
unfolding has_no_end numbers_on
no_end_numbers [] = refl
no_end_numbers (n ∷ ns) = no_end_append (decimal_of n) (numbers_on ns) (no_end_decimal 20 n) (no_end_numbers ns)

pub no_end_typed : (word ns : List ℕ) → has_no_end word ≡ true → has_no_end (typed word ns) ≡ true
no_end_typed word ns h = no_end_append word (numbers_on ns) h (no_end_numbers ns)

-- the first byte is none, and none stands behind it
pub first_and_rest : (b : ℕ) (bs : List ℕ) → has_no_end (b ∷ bs) ≡ true → (b ≢ newline) × (has_no_end bs ≡ true)
unfolding has_no_end
first_and_rest b bs h =
    let both = and-true (not (eqb b newline)) _ h in
    (eqb-false b newline (not-true _ both.0), both.1)
