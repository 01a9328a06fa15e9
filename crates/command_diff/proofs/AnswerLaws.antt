-- What is put and handed back in each of the cases, for the proofs of this crate. No rule stands here.
use Prim.Native.Nat.{ℕ, zero, suc, ◌≤◌, ◌<◌}
use mathlib.Core.Path.{◌≡◌, refl, sym, ap, subst, ◌∙◌}
use mathlib.Core.Bool.{Bool, true, false, ◌&&◌, true≢false}
use mathlib.Core.List.{List, [], ◌∷◌}
use mathlib.Core.Logic.{◌≢◌}
use native.Mathlib.Omega.{arith}
use borrow.Author.Tests.{eq-eqb, ne_eqb, leb-true, le-leb, lt-leb}
use lib.Dec.{leb}
use lib.ListN.{length}
use Rattle.units.specs.Numbers.{most_stations}
use Rattle.units.proofs.JudgingLaws.{and-true, true_and}
use Rattle.sets.specs.declared.Set.{Set}
use Rattle.plans.specs.declared.Alloc.{Alloc}
use Rattle.sheets.specs.Reading.{read_plan}
use Rattle.sheets.proofs.ReadLaws.{read_few}
use Rattle.sheets.specs.declared.ReadPlan.{ReadPlan}
use Rattle.text.specs.Text.{line, page_size}
use Rattle.text.specs.Pages.{HasRoom, Puts}
use Rattle.text.specs.declared.Page.{Page}
use Rattle.text.proofs.TextLaws.{not_printed}
use Rattle.text.proofs.PageLaws.{puts_then, puts_as, puts_short}
use Rattle.differences.specs.Differences.{Difference, differences, is_none}
use Rattle.command_diff.specs.DiffText.{old_word, new_word, same_word, lines_of, diff_text, side_refused, side_or, compared_text, lines_size, LinesPutOn, Compared, DiffedOn}
use Rattle.command_diff.proofs.LineLaws.{none_told}

-- ---- a side that is refused, or not

pub or_refused : (side : List ℕ) (k : ℕ) (text : List ℕ) → k ≢ 0 → side_or side k text ≡ side_refused side k
unfolding side_or
or_refused side zero text n = absurd (n refl)
or_refused side (suc k) text n = refl

pub or_accepted : (side : List ℕ) (k : ℕ) (text : List ℕ) → k ≡ 0 → side_or side k text ≡ text
unfolding side_or
or_accepted side zero text e = refl
or_accepted side (suc k) text e = absurd (omega arith)

-- ---- some line

text_some : (ds : List Difference) → length (lines_of ds) ≢ 0 → (lines_of ds ≡ diff_text ds) × (is_none ds ≡ false)
unfolding lines_of diff_text is_none
text_some [] n = absurd (n refl)
text_some (d ∷ ds) n = (refl, refl)

no_lines : lines_of [] ≡ []
unfolding lines_of
no_lines = refl

-- ---- lines behind what was put

pub lines_fit : (n m : ℕ) → (leb n most_stations && leb m most_stations) ≡ true → (n ≤ most_stations) × (m ≤ most_stations)
lines_fit n m e =
    let few = and-true (leb n most_stations) (leb m most_stations) e in
    (leb-true n most_stations few.0, leb-true m most_stations few.1)

module _ {t : Set} {a : Alloc} {u : Set} {b : Alloc} {page : Page} where
  -- nothing is put where one of the three is missing
  lines_none : ¬ ((t.n ≤ most_stations) × (u.n ≤ most_stations) × HasRoom lines_size page) → LinesPutOn t a u b page page
  lines_none missing =
      record {
        lines = record {
          put = λ few many room. absurd (missing (few, many, room));
          old_many = λ h. (refl, refl);
          new_many = λ h. (refl, refl);
          full = λ h. (refl, refl);
          reach = omega arith;
        };
        size = refl;
        same = refl;
      }

  pub lines_many : (leb t.n most_stations && leb u.n most_stations) ≡ false → LinesPutOn t a u b page page
  lines_many e = lines_none (λ all. absurd (true≢false (sym (true_and _ _ (le-leb t.n most_stations all.0) (le-leb u.n most_stations all.1)) ∙ e)))

  pub lines_full : ¬ HasRoom lines_size page → LinesPutOn t a u b page page
  lines_full h = lines_none (λ all. absurd (h all.2))

  pub lines_put : {after : Page}
      → (leb t.n most_stations && leb u.n most_stations) ≡ true → HasRoom lines_size page → Puts lines_size page (lines_of (differences t a u b)) after → LinesPutOn t a u b page after
  lines_put e room p =
      record {
        lines = record {
          put = λ few many h. p.put;
          old_many = λ h. absurd (omega (arith, (lines_fit t.n u.n e).0));
          new_many = λ h. absurd (omega (arith, (lines_fit t.n u.n e).1));
          full = λ h. absurd (omega (arith, room));
          reach = omega (arith, p.put.put.next, p.put.short);
        };
        size = p.size;
        same = p.same;
      }

-- ---- the cases

pub few_read : (p : ReadPlan) (sheet : List ℕ) → p ≡ read_plan sheet → p.set.n ≤ 128
few_read p sheet e = rw e (read_few true sheet)

pub diffed_nothing : {p q : ReadPlan} {before : List ℕ} → length before < page_size → DiffedOn p q before before (record { length = 0; same = false })
diffed_nothing {p} {q} {before} small = record { printed = not_printed small; same = rw (lt-leb page_size (length before) small) refl }

module _ {p q P Q : ReadPlan} {before : Page} (e : p ≡ P) (f : q ≡ Q) where
  -- of the sheets that were read, of those that the files hold
  told : {after : Page} {r : Bool} → Compared p q before after r → Compared P Q before after r
  told {after} {r} d = subst (λ (x : ReadPlan). Compared x Q before after r) e (subst (λ (y : ReadPlan). Compared p y before after r) f d)

  pub compared_old : {after : Page} → p.number ≢ 0 → Puts 62 before (side_refused old_word p.number) after → Compared P Q before after false
  compared_old n put = told (record { put = puts_as put (sym (or_refused old_word p.number _ n)) (omega arith); same = rw (ne_eqb p.number 0 n) refl })

  module _ (a : p.number ≡ 0) where
    pub compared_new : {after : Page} → q.number ≢ 0 → Puts 62 before (side_refused new_word q.number) after → Compared P Q before after false
    compared_new n put =
        told
        (record {
          put = puts_as put (sym (or_accepted old_word p.number _ a ∙ or_refused new_word q.number _ n)) (omega arith);
          same = rw (eq-eqb p.number 0 a, ne_eqb q.number 0 n) refl;
        })

    module _ (b : q.number ≡ 0) {middle : Page} (lines : Puts lines_size before (lines_of (differences p.set p.alloc q.set q.alloc)) middle) where
      abbrev ds : List Difference
      ds = differences p.set p.alloc q.set q.alloc

      compared : compared_text p q ≡ diff_text ds
      compared = or_accepted old_word p.number _ a ∙ or_accepted new_word q.number _ b

      pub compared_same : {after : Page} → HasRoom lines_size before → middle.at ≡ before.at → Puts 21 middle (line (same_word ∷ [])) after → Compared P Q before after true
      unfolding diff_text is_none
      compared_same {after} room z put =
          let none : ds ≡ [] = none_told ds (omega (arith, lines.put.put.next)) in
          let kept : Puts lines_size before [] middle = puts_as lines (ap lines_of none ∙ no_lines) (omega arith) in
          told
          (record {
            put = puts_as (puts_then (puts_short {less = 0} kept (omega arith)) put (omega (arith, room))) (sym (compared ∙ ap diff_text none)) (omega arith);
            same = rw (eq-eqb p.number 0 a, eq-eqb q.number 0 b, none) refl;
          })

      pub compared_lines : middle.at ≢ before.at → Compared P Q before middle false
      compared_lines n =
          let some = text_some ds (λ z. n (omega (arith, lines.put.put.next))) in
          told
          (record {
            put = puts_as lines (some.0 ∙ sym compared) (omega arith);
            same = rw (eq-eqb p.number 0 a, eq-eqb q.number 0 b, some.1) refl;
          })
