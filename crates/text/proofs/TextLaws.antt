-- The laws of decimal numbers, lines and text put into a page, for the proofs of this layer.
use Prim.Native.Nat.{ℕ, zero, suc, ◌+◌, ◌*◌, ◌^◌, ◌/◌, ◌%◌, ◌≤◌, ◌<◌}
use mathlib.Core.Path.{◌≡◌, refl, sym, ap, ◌∙◌}
use mathlib.Core.Bool.{cond}
use mathlib.Core.List.{List, [], ◌∷◌, ◌++◌, append_assoc, append-nil}
use mathlib.Core.Logic.{◌≢◌, ⊎_elim}
use native.Mathlib.Nat.{pow-suc, div-lt_iff_lt-mul}
use native.Mathlib.Omega.{arith}
use lib.Dec.{ltb}
use borrow.Author.Tests.{lt-ltb, le-ltb}
use lib.ListN.{length, set, length-append}
use lib.Seq.{sets-eq, length-take-le, drop-drop}
use borrow.Rule.Slice.PartMut.{put_mid}
use Rattle.units.specs.Numbers.{buffer_too_short}
use Rattle.units.proofs.SmallLaws.{below_or_not}
use Rattle.fields.specs.Rows.{laid}
use Rattle.fields.proofs.RowLaws.{laid_none, laid_length, laid_then, laid_first}
use Rattle.text.specs.Text.{digit, decimal_within, decimal_of, line_on, line, number_words, fields_of, newline, space, Put, PutShort, PutWithin, Printed, page_size, page_with, length_on, number_on, Says, text_or, refused_word, refused_line, line_word, cannot_be_read, unread_line}
use Rattle.text.specs.declared.Said.{Said}

-- ---- text put into a page

pub put_none : (before : List ℕ) (a : ℕ) → Put before a [] before a
put_none before a = record { page = sym (laid_none before a); next = omega arith }

pub put_one : (before : List ℕ) (a x : ℕ) → a + 1 ≤ length before → Put before a (x ∷ []) (set before a x) (a + 1)
unfolding laid
put_one before a x h = record { page = sets-eq (x ∷ []) before a h; next = refl }

-- a segment that is copied into the page
pub put_part : (before : List ℕ) (a k : ℕ) (copied segment : List ℕ) → copied ≡ segment → k ≡ length segment → Put before a segment (put_mid a k before copied) (a + length segment)
unfolding laid
put_part before a k copied segment same long =
    record {
      page = rw (same, long, drop-drop, append_assoc);
      next = refl;
    }

-- what is put behind a segment makes one segment with it
pub put_then : {before middle after s t : List ℕ} {a r q : ℕ} → Put before a s middle r → Put middle r t after q → a + length s + length t ≤ length before → Put before a (s ++ t) after q
put_then {before} {middle} {after} {s} {t} {a} {r} {q} p k fits =
    record {
      page = k.page ∙ rw (p.page, p.next) (laid_then before a s t fits);
      next = omega (arith, p.next, k.next, length-append s t);
    }

pub put_length : {before after s : List ℕ} {a r : ℕ} → Put before a s after r → a + length s ≤ length before → length after ≡ length before
put_length {before} {after} {s} {a} p fits = ap length p.page ∙ laid_length before a s fits

pub put_short_then : {before middle after s t : List ℕ} {a r q most more : ℕ}
    → PutShort most before a s middle r → PutShort more middle r t after q → a + most + more ≤ length before
    → PutShort (most + more) before a (s ++ t) after q
put_short_then {before} {middle} {after} {s} {t} {a} {r} {q} p k fits =
    record {
      put = put_then p.put k.put (omega (arith, p.short, k.short));
      short = omega (arith, p.short, k.short, length-append s t);
    }

-- the same segment, and a larger bound
pub put_as : {before after s t : List ℕ} {a r most more : ℕ} → PutShort most before a s after r → s ≡ t → most ≤ more → PutShort more before a t after r
put_as {before} {after} {s} {t} {a} {r} p e l = rw (← e) (record { put = p.put; short = omega (arith, p.short) })

-- ---- a segment put if there is room

pub within_put : {before after s : List ℕ} {a r most : ℕ} → a + most ≤ length before → PutShort most before a s after r → PutWithin most before a s after r
within_put room p =
    record {
      put = λ h few. p;
      full = λ h. absurd (omega arith);
      long = λ h. absurd (omega (arith, p.short));
      reach = omega (arith, p.put.next, p.short);
    }

-- no room, or a segment that is too long: nothing is put
pub within_none : {before s : List ℕ} {a most : ℕ} → ¬ ((a + most ≤ length before) × (length s ≤ most)) → PutWithin most before a s before a
within_none not_both =
    record {
      put = λ h few. absurd (not_both (h, few));
      full = λ h. (refl, refl);
      long = λ h. (refl, refl);
      reach = omega arith;
    }

-- ---- a text at the start of a page

pub printed : {text segment before after : List ℕ} {r most : ℕ} → PutShort most before 0 segment after r → segment ≡ text → page_size ≤ length before → most ≤ page_size → Printed text before after r
unfolding page_with length_on
printed {text} {segment} {before} {after} {r} p same large few =
    let e = le-ltb (length before) page_size large in
    let inside : r ≤ length after = omega (arith, p.put.next, p.short, put_length p.put (omega (arith, p.short))) in
    rw (← same)
    (record {
      page = rw e (p.put.page ∙ laid_first before segment);
      size = rw e (omega (arith, p.put.next));
      fits = inside;
      counts = sym (length-take-le r after inside);
    })

pub not_printed : {text before : List ℕ} → length before < page_size → Printed text before before 0
unfolding page_with length_on
not_printed {text} {before} small =
    let e = lt-ltb (length before) page_size small in
    record { page = rw e; size = rw e; fits = omega arith; counts = refl }

-- the same, with its number
pub says : {text segment before after : List ℕ} {r : Said} {most number : ℕ}
    → PutShort most before 0 segment after r.length → segment ≡ text → r.number ≡ number → page_size ≤ length before → most ≤ page_size
    → Says text number before after r
unfolding number_on
says {text} {segment} {before} p same told large few =
    record { printed = printed p same large few; number = rw (le-ltb (length before) page_size large) told }

pub says_nothing : {text before : List ℕ} {number : ℕ} → length before < page_size → Says text number before before (record { length = 0; number = buffer_too_short })
unfolding number_on
says_nothing {text} {before} small = record { printed = not_printed small; number = rw (lt-ltb (length before) page_size small) refl }

-- the same text and the same number under other names
pub says_as : {s t before after : List ℕ} {r : Said} {k n : ℕ} → Says s k before after r → s ≡ t → k ≡ n → Says t n before after r
says_as p same told = rw (← same, ← told) p

-- ---- decimal numbers

pub decimal_short : (k n : ℕ) → length (decimal_within k n) ≤ k
unfolding decimal_within
decimal_short zero n = omega arith
decimal_short (suc k) n =
    ⊎_elim (λ (b : n < 10). rw (lt-ltb n 10 b) (omega arith))
    (λ (b : 10 ≤ n).
    rw (le-ltb n 10 b)
    (omega (arith, length-append (decimal_within k (n / 10)) (digit (n % 10) ∷ []), decimal_short k (n / 10))))
    (below_or_not n 10)

pub field_short : (n : ℕ) → length (space ∷ decimal_of n) ≤ 21
field_short n = omega (arith, decimal_short 20 n)

-- more places than are needed change nothing
pub decimal_more : (k n : ℕ) → n < 10 ^ suc k → decimal_within (suc (suc k)) n ≡ decimal_within (suc k) n
unfolding decimal_within
decimal_more zero n h = let b : n < 10 = h in rw (lt-ltb n 10 b)
decimal_more (suc k) n h =
    ⊎_elim (λ (b : n < 10). rw (lt-ltb n 10 b))
    (λ (b : 10 ≤ n).
    let l : n < 10 ^ suc k * 10 = rw (pow-suc 10 (suc k)) at h in
    let e : decimal_within (suc (suc k)) (n / 10) ≡ decimal_within (suc k) (n / 10) = decimal_more k (n / 10) ((div-lt_iff_lt-mul (omega arith)).1 l) in
    ap (λ (front : List ℕ). cond (ltb n 10) (digit n ∷ []) (front ++ digit (n % 10) ∷ [])) e)
    (below_or_not n 10)

pub decimal_digit : (n : ℕ) → n < 10 → decimal_of n ≡ digit n ∷ []
unfolding decimal_within
decimal_digit n b = rw (lt-ltb n 10 b)

-- the last digit stands behind those of a tenth
pub decimal_last : (n : ℕ) → n < 2 ^ 64 → 10 ≤ n → decimal_of n ≡ decimal_of (n / 10) ++ digit (n % 10) ∷ []
unfolding decimal_within
decimal_last n h b =
    let l : n / 10 < 10 ^ 19 = (div-lt_iff_lt-mul {k = 10} {x = n} {y = 10 ^ 19} (omega arith)).1 (omega arith) in
    rw (le-ltb n 10 b) (ap (λ (front : List ℕ). front ++ digit (n % 10) ∷ []) (sym (decimal_more 18 (n / 10) l)))

-- ---- lines

pub line_first : (word : List ℕ) (words : List (List ℕ)) → line (word ∷ words) ≡ word ++ line_on words
unfolding line
line_first word words = refl

pub line_next : (front word : List ℕ) (words : List (List ℕ)) → front ++ line_on (word ∷ words) ≡ (front ++ (space ∷ word)) ++ line_on words
unfolding line_on
line_next front word words = sym (append_assoc front (space ∷ word) (line_on words))

pub line_end_lem : (front : List ℕ) → front ++ line_on [] ≡ front ++ (newline ∷ [])
unfolding line_on
line_end_lem front = refl

pub line_one : (word : List ℕ) → line (word ∷ []) ≡ word ++ (newline ∷ [])
line_one word = line_first word [] ∙ line_end_lem word

-- one number more
pub fields_next : (ns : List ℕ) (n : ℕ) → fields_of ns ++ (space ∷ decimal_of n) ≡ fields_of (ns ++ (n ∷ []))
unfolding fields_of
fields_next [] n = sym (append-nil (space ∷ decimal_of n))
fields_next (m ∷ ns) n = append_assoc (space ∷ decimal_of m) (fields_of ns) (space ∷ decimal_of n) ∙ ap (λ (z : List ℕ). (space ∷ decimal_of m) ++ z) (fields_next ns n)

-- the numbers, and the line's end
fields_end : (ns : List ℕ) → fields_of ns ++ (newline ∷ []) ≡ line_on (number_words ns)
unfolding fields_of number_words line_on
fields_end [] = refl
fields_end (n ∷ ns) = append_assoc (space ∷ decimal_of n) (fields_of ns) (newline ∷ []) ∙ ap (λ (z : List ℕ). (space ∷ decimal_of n) ++ z) (fields_end ns)

-- a word, numbers, and the line's end
pub line_fields : (word ns : List ℕ) → (word ++ fields_of ns) ++ (newline ∷ []) ≡ line (word ∷ number_words ns)
unfolding line
line_fields word ns = append_assoc word (fields_of ns) (newline ∷ []) ∙ ap (λ (z : List ℕ). word ++ z) (fields_end ns)

fields_short : (ns : List ℕ) → length (fields_of ns) ≤ 21 * length ns
unfolding fields_of
fields_short [] = omega arith
fields_short (n ∷ ns) = omega (arith, length-append (space ∷ decimal_of n) (fields_of ns), field_short n, fields_short ns)

pub line_short : (word ns : List ℕ) → length (line (word ∷ number_words ns)) ≤ length word + (21 * length ns + 1)
line_short word ns =
    rw (← line_fields word ns)
    (omega (arith, length-append (word ++ fields_of ns) (newline ∷ []), length-append word (fields_of ns), fields_short ns))

-- a line whose last word has two parts
pub line_parts : (word part rest : List ℕ) → line (word ∷ (part ++ rest) ∷ []) ≡ ((word ++ (space ∷ part)) ++ rest) ++ (newline ∷ [])
line_parts word part rest = rw (line_first, line_next, line_end_lem) (simp append_assoc)

pub line_on_two : (v w : List ℕ) → line_on (v ∷ w ∷ []) ≡ ((space ∷ v) ++ (space ∷ w)) ++ (newline ∷ [])
unfolding line_on
line_on_two v w = simp append_assoc

pub line_two : (v w : List ℕ) → line (v ∷ w ∷ []) ≡ (v ++ (space ∷ w)) ++ (newline ∷ [])
line_two v w = rw (line_first, line_next, line_end_lem)

line_two_length : (v w : List ℕ) → length (line (v ∷ w ∷ [])) ≡ length v + length w + 2
line_two_length v w =
    rw (line_two v w)
    (omega (arith, length-append v (space ∷ w), length-append (v ++ (space ∷ w)) (newline ∷ [])))

-- the two lines that say why there is no answer have at most 42 bytes
pub refused_short : (n : ℕ) → length (refused_line n) ≤ 42
refused_short n = omega (arith, line_two_length refused_word (decimal_of n), decimal_short 20 n)

pub unread_short : (n : ℕ) → length (unread_line n) ≤ 42
unread_short n = omega (arith, line_two_length line_word (decimal_of n ++ cannot_be_read), length-append (decimal_of n) cannot_be_read, decimal_short 20 n)

-- ---- a text, or the refusal

pub text_accepted : (k : ℕ) (text : List ℕ) → k ≡ 0 → text_or k text ≡ text
unfolding text_or
text_accepted zero text e = refl
text_accepted (suc k) text e = absurd (omega arith)

pub text_refused : (k : ℕ) (text : List ℕ) → k ≢ 0 → text_or k text ≡ refused_line k
unfolding text_or
text_refused zero text e = absurd (e refl)
text_refused (suc k) text e = refl
