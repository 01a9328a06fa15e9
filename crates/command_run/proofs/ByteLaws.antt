-- The laws of a text that is read byte after byte: in pieces, and in a loop that puts what goes out into a page.
use Prim.Native.Nat.{ℕ, ◌+◌, ◌*◌, ◌≤◌, ◌<◌}
use mathlib.Core.Path.{◌≡◌, refl, sym, ap, ◌∙◌}
use mathlib.Core.Bool.{Bool, ◌||◌}
use mathlib.Core.List.{List, [], ◌∷◌, ◌++◌, append_assoc, append-nil}
use native.Mathlib.Nat.{mul-add, mul-one}
use native.Mathlib.Omega.{arith}
use lib.ListN.{length, take}
use Rattle.std.proofs.Math.Bool.{or_assoc, or-false}
use Rattle.std.proofs.lemmas.List.{take_more}
use Rattle.units.specs.Places.{at}
use Rattle.text.specs.Text.{PutShort}
use Rattle.text.specs.Pages.{HasRoom, Puts}
use Rattle.text.specs.declared.Page.{Page}
use Rattle.text.proofs.TextLaws.{put_none, put_short_then, put_as}
use Rattle.text.proofs.PageLaws.{puts_none, puts_then, puts_as}
use Rattle.command_run.specs.Bytes.{moved_over, out_over, some_over}

module _ {S : Type 0} (move : S → ℕ → S) where
  -- ---- pieces of a text

  pub moved_append : (s : S) (first rest : List ℕ) → moved_over move s (first ++ rest) ≡ moved_over move (moved_over move s first) rest
  unfolding moved_over
  moved_append s [] rest = refl
  moved_append s (b ∷ first) rest = moved_append (move s b) first rest

  pub out_append : {A : Type 0} (out : S → ℕ → List A) (s : S) (first rest : List ℕ)
      → out_over move out s (first ++ rest) ≡ out_over move out s first ++ out_over move out (moved_over move s first) rest
  unfolding moved_over out_over
  out_append out s [] rest = refl
  out_append out s (b ∷ first) rest =
      rw (out_append out (move s b) first rest) (sym (append_assoc (out s b) (out_over move out (move s b) first) (out_over move out (moved_over move (move s b) first) rest)))

  pub some_append : (test : S → ℕ → Bool) (s : S) (first rest : List ℕ)
      → some_over move test s (first ++ rest) ≡ (some_over move test s first || some_over move test (moved_over move s first) rest)
  unfolding moved_over some_over
  some_append test s [] rest = refl
  some_append test s (b ∷ first) rest =
      rw (some_append test (move s b) first rest) (sym (or_assoc (test s b) (some_over move test (move s b) first) (some_over move test (moved_over move (move s b) first) rest)))

  -- ---- a loop over the first bytes of a text

  moved_more : (text : List ℕ) (start : S) (i : ℕ) → i < length text → moved_over move start (take (i + 1) text) ≡ move (moved_over move start (take i text)) (at text i)
  unfolding moved_over
  moved_more text start i l = ap (moved_over move start) (take_more text i 0 l) ∙ moved_append start (take i text) (at text i ∷ [])

  -- the test held at one of the bytes passed
  pub some_more : (test : S → ℕ → Bool) (text : List ℕ) (start s : S) (i : ℕ) → i < length text → s ≡ moved_over move start (take i text)
      → some_over move test start (take (i + 1) text) ≡ (some_over move test start (take i text) || test s (at text i))
  unfolding some_over
  some_more test text start s i l e =
      rw (e, ← or-false (test (moved_over move start (take i text)) (at text i)))
      (ap (some_over move test start) (take_more text i 0 l) ∙ some_append test start (take i text) (at text i ∷ []))

  -- the state behind one byte more, and what went out then
  pub moved_on : (text : List ℕ) (start s s' : S) (i : ℕ) → i < length text → s ≡ moved_over move start (take i text) → s' ≡ move s (at text i)
      → s' ≡ moved_over move start (take (i + 1) text)
  moved_on text start s s' i l e m = m ∙ ap (λ (z : S). move z (at text i)) e ∙ sym (moved_more text start i l)

  pub out_more : (out : S → ℕ → List ℕ) (text : List ℕ) (start s : S) (i : ℕ) → i < length text → s ≡ moved_over move start (take i text)
      → out_over move out start (take i text) ++ out s (at text i) ≡ out_over move out start (take (i + 1) text)
  unfolding out_over
  out_more out text start s i l e =
      let b = at text i in
      let passed = moved_over move start (take i text) in
      ap (λ (z : S). out_over move out start (take i text) ++ out z b) e
      ∙ ap (λ (x : List ℕ). out_over move out start (take i text) ++ x) (sym (append-nil (out passed b)))
      ∙ sym (out_append out start (take i text) (b ∷ []))
      ∙ ap (out_over move out start) (sym (take_more text i 0 l))

-- ---- what goes out is put at the start of a page

-- after i bytes the state stands behind them, and what went out, at most so many bytes at each, is put at the start of the page
pub record Behind {S : Type 0} (move : S → ℕ → S) (out : S → ℕ → List ℕ) (most : ℕ) (text before : List ℕ) (start : S) (i : ℕ) (s : S) (page : List ℕ) (next : ℕ) : Type 0 where
  pub long : length page ≡ length before
  pub stands : s ≡ moved_over move start (take i text)
  pub put : PutShort (most * i) before 0 (out_over move out start (take i text)) page next

-- the same of a page with its place, behind what was put before
pub record Said {S : Type 0} (move : S → ℕ → S) (out : S → ℕ → List ℕ) (most : ℕ) (text : List ℕ) (start : S) (i : ℕ) (s : S) (before after : Page) : Type 0 where
  pub stands : s ≡ moved_over move start (take i text)
  pub put : Puts (most * i) before (out_over move out start (take i text)) after

one_more : (most i : ℕ) → most * (i + 1) ≡ most * i + most
one_more most i = mul-add most i 1 ∙ ap (λ (n : ℕ). most * i + n) (mul-one most)

module _ {S : Type 0} {move : S → ℕ → S} {out : S → ℕ → List ℕ} {most : ℕ} where
  -- before the first byte
  pub behind_none : (text page : List ℕ) (start : S) → Behind move out most text page start 0 start page 0
  unfolding moved_over out_over
  behind_none text page start = record { long = refl; stands = refl; put = record { put = put_none page 0; short = omega arith } }

  pub said_none : (text : List ℕ) (page : Page) (start : S) → Said move out most text start 0 start page page
  unfolding moved_over out_over
  said_none text page start = record { stands = refl; put = puts_as (puts_none page) refl (omega arith) }

  -- one byte more: the state moves, and what goes out at the byte is put behind the rest
  pub behind_more : {text before page after : List ℕ} {start s s' : S} {i next next' : ℕ}
      → Behind move out most text before start i s page next → i < length text → most * (i + 1) ≤ length before
      → s' ≡ move s (at text i) → PutShort most page next (out s (at text i)) after next' → length after ≡ length page
      → Behind move out most text before start (i + 1) s' after next'
  behind_more {text} {before} {page} {after} {start} {s} {s'} {i} {next} {next'} was l room e q kept =
      let one = one_more most i in
      record {
        long = kept ∙ was.long;
        stands = moved_on move text start s s' i l was.stands e;
        put = put_as (put_short_then was.put q (omega arith)) (out_more move out text start s i l was.stands) (omega arith);
      }

  pub said_more : {text : List ℕ} {before page after : Page} {start s s' : S} {i : ℕ}
      → Said move out most text start i s before page → i < length text → HasRoom (most * (i + 1)) before
      → s' ≡ move s (at text i) → Puts most page (out s (at text i)) after
      → Said move out most text start (i + 1) s' before after
  said_more {text} {start = start} {s = s} {s' = s'} {i = i} was l room e q =
      let one = one_more most i in
      record {
        stands = moved_on move text start s s' i l was.stands e;
        put = puts_as (puts_then was.put q (omega (arith, one, room))) (out_more move out text start s i l was.stands) (omega (arith, one));
      }

  -- one byte more at which nothing goes out
  pub behind_quiet : {text before page : List ℕ} {start s s' : S} {i next : ℕ}
      → Behind move out most text before start i s page next → i < length text → most * (i + 1) ≤ length before
      → s' ≡ move s (at text i) → [] ≡ out s (at text i)
      → Behind move out most text before start (i + 1) s' page next
  behind_quiet {page = page} {next = next} was l room e quiet =
      let none : PutShort 0 page next [] page next = record { put = put_none page next; short = omega arith } in
      behind_more was l room e (put_as none quiet (omega arith)) refl

  pub said_quiet : {text : List ℕ} {before page : Page} {start s s' : S} {i : ℕ}
      → Said move out most text start i s before page → i < length text → HasRoom (most * (i + 1)) before
      → s' ≡ move s (at text i) → [] ≡ out s (at text i)
      → Said move out most text start (i + 1) s' before page
  said_quiet {page = page} was l room e quiet =
      said_more was l room e (puts_as (puts_none page) quiet (omega arith))
