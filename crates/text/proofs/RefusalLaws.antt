-- A text tells of a refusal by its last line alone: `refused` has the letter u, and a text without that letter ends with no refusal.
use Prim.Native.Nat.{ℕ, zero, suc, ◌+◌, ◌/◌, ◌%◌, ◌≤◌, ◌<◌}
use mathlib.Core.Path.{◌≡◌, refl, ap, ◌∙◌}
use mathlib.Core.Bool.{cond}
use mathlib.Core.List.{List, [], ◌∷◌, ◌++◌}
use mathlib.Core.Logic.{◌≢◌, ⊎_elim}
use native.Mathlib.Omega.{arith}
use borrow.Author.Tests.{lt-ltb, le-ltb, ne_eqb}
use lib.Dec.{eqb}
use Rattle.units.proofs.SmallLaws.{below_or_not}
use Rattle.fields.specs.Rows.{rows}
use Rattle.text.specs.Text.{digit, decimal_within, decimal_of, line_on, line, text_or, refused_line, EndsRefused, Tells}
use Rattle.text.proofs.TextLaws.{text_accepted, text_refused}

-- how often the letter u stands in a text
unfoldable pub count_u : List ℕ → ℕ
count_u [] = 0
count_u (b ∷ bs) = cond (eqb b 117) 1 0 + count_u bs

-- it stands nowhere
abbrev pub Plain : List ℕ → Type 0
Plain text = count_u text ≡ 0

count_append : (a b : List ℕ) → count_u (a ++ b) ≡ count_u a + count_u b
unfolding count_u
count_append [] b = omega arith
count_append (x ∷ a) b = omega (arith, count_append a b)

pub plain_append : (a b : List ℕ) → Plain a → Plain b → Plain (a ++ b)
plain_append a b p q = omega (arith, count_append a b)

-- ---- numbers, lines and rows

plain_digit : (d : ℕ) → d < 10 → Plain (digit d ∷ [])
unfolding count_u
plain_digit d h = rw (ne_eqb (digit d) 117 (omega arith)) refl

plain_within : (k n : ℕ) → Plain (decimal_within k n)
unfolding decimal_within count_u
plain_within zero n = refl
plain_within (suc k) n =
    ⊎_elim (λ (b : n < 10). rw (lt-ltb n 10 b) (plain_digit n b))
    (λ (b : 10 ≤ n).
    rw (le-ltb n 10 b)
    (plain_append (decimal_within k (n / 10)) (digit (n % 10) ∷ []) (plain_within k (n / 10)) (plain_digit (n % 10) (omega arith))))
    (below_or_not n 10)

pub plain_end : Plain (line_on [])
unfolding line_on count_u
plain_end = refl

pub plain_word : (word : List ℕ) (words : List (List ℕ)) → Plain word → Plain (line_on words) → Plain (line_on (word ∷ words))
unfolding line_on count_u
plain_word word words p q = omega (arith, plain_append word (line_on words) p q)

pub plain_field : (n : ℕ) (words : List (List ℕ)) → Plain (line_on words) → Plain (line_on (decimal_of n ∷ words))
plain_field n words q = plain_word (decimal_of n) words (plain_within 20 n) q

pub plain_line : (word : List ℕ) (words : List (List ℕ)) → Plain word → Plain (line_on words) → Plain (line (word ∷ words))
unfolding line
plain_line word words p q = plain_append word (line_on words) p q

pub plain_number_line : (n : ℕ) (words : List (List ℕ)) → Plain (line_on words) → Plain (line (decimal_of n ∷ words))
plain_number_line n words q = plain_line (decimal_of n) words (plain_within 20 n) q

pub plain_rows : (n : ℕ) (f : ℕ → List ℕ) → ((i : ℕ) → Plain (f i)) → Plain (rows n f)
unfolding rows count_u
plain_rows zero f h = refl
plain_rows (suc n) f h = plain_append (rows n f) (f n) (plain_rows n f h) (h n)

-- ---- refusals

loud : (front : List ℕ) (n : ℕ) → 1 ≤ count_u (front ++ refused_line n)
unfolding line count_u
loud front n = omega (arith, count_append front (refused_line n))

not_refused : (text : List ℕ) → Plain text → (n : ℕ) → ¬ EndsRefused text n
not_refused text p n e = omega (arith, ap count_u e.whole, loud e.front n)

pub tells_of : (text : List ℕ) (number : ℕ) → (number ≢ 0 → EndsRefused text number) → (number ≡ 0 → Plain text) → Tells text number
tells_of text number refused plain = record { refused = refused; accepted = λ z n. not_refused text (plain z) n }

plain_none : Plain []
unfolding count_u
plain_none = refl

-- a text, or the refusal
pub tells_or : (text : List ℕ) (number : ℕ) → Plain text → Tells (text_or number text) number
tells_or text number p =
    tells_of (text_or number text) number
    (λ some. record { front = []; whole = text_refused number text some })
    (λ z. ap count_u (text_accepted number text z) ∙ p)

-- a text, and the refusal behind it
pub tells_behind : (text : List ℕ) (number : ℕ) → Plain text → Tells (text ++ text_or number []) number
tells_behind text number p =
    tells_of (text ++ text_or number []) number
    (λ some. record { front = text; whole = ap (λ (end : List ℕ). text ++ end) (text_refused number [] some) })
    (λ z. plain_append text (text_or number []) p (ap count_u (text_accepted number [] z) ∙ plain_none))
