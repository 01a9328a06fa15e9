-- Everything that `specs/Promised.antt` lists, proved.
use Prim.Native.Nat.{ℕ, ◌+◌, ◌≤◌, min}
use mathlib.Core.Path.{◌≡◌, refl, sym, ap, subst, ◌∙◌}
use mathlib.Core.Bool.{true, false, true≢false, not, ◌&&◌}
use mathlib.Core.List.{List, [], ◌∷◌}
use mathlib.Core.Logic.{⊎_elim}
use native.Mathlib.Omega.{arith}
use borrow.Author.Tests.{eqb-true, eqb-false}
use lib.Dec.{eqb}
use Rattle.units.proofs.JudgingLaws.{true_or_false}
use Rattle.units.specs.declared.Ticks.{Ticks}
use Rattle.units.specs.declared.Station.{Station}
use Rattle.rings.specs.Marking.{marked, unmarked}
use Rattle.rings.specs.declared.Ring.{Ring}
use Rattle.text.specs.Text.{newline, decimal_within, decimal_of, line_on, line, text_or}
use Rattle.line_reader.specs.Scan.{fresh_scan, is_empty_line}
use Rattle.line_reader.specs.declared.Scan.{Scan}
use Rattle.command_run.specs.Bytes.{moved_over}
use Rattle.command_run.specs.Calls.{mark_word, unmark_word, is_unread, is_visit, is_message, is_mark, is_unmark, unreadable, switched, called}
use Rattle.command_run.specs.Runs.{run_from, line_ends, line_goes_on, run_on, unread_at, run_after, lines_in}
use Rattle.command_run.specs.RunText.{withdrawn_words, mark_text, unmark_text, answer_text, said_at}
use Rattle.command_run.specs.Promised.{Says, mark_line, unmark_line, marked_said, withdrawn_said, unmarked_said, refused_said, Promised}
use Rattle.command_run.specs.declared.Called.{Called}
use Rattle.command_run.specs.declared.Run.{Run}
use Rattle.command_run.proofs.ByteLaws.{moved_append, out_append, some_append}
use Rattle.command_run.proofs.RunLaws.{goes_on, line_ends_lem, did, called_visit, called_message, called_mark, called_unmark}
use Rattle.command_run.proofs.CallLaws.{visit_called_lem, visit_length_called, message_called_lem, mark_called_lem, unmark_called_lem}

-- what was called at the line's end is said, and its ring stands behind it
ended : (u : Run) (c : Called) → c ≡ called u.ring u.scan → (said_at u newline ≡ answer_text c.answer u.line) × ((run_on u newline).ring ≡ c.ring)
ended u c e =
    let ends = did u newline (line_ends_lem u newline refl) in
    (rw (← ends.1, e) refl, rw (← ends.0, e) refl)

-- by what the line is
abbrev TellsUnread : Ring → Scan → Called → Type 0
TellsUnread ring s c =
    (is_unread c.answer ≡ (not (is_empty_line s) && (not (is_visit s) && (not (is_message s) && (not (is_mark s) && not (is_unmark s))))))
    × (is_unread c.answer ≡ true → unreadable ring ≡ c)

told : (ring : Ring) (s : Scan) → TellsUnread ring s (called ring s)
unfolding called switched
told ring s =
    ⊎_elim (λ (e : is_empty_line s ≡ true). rw e (refl, λ t. absurd (true≢false (sym t))))
    (λ (e : is_empty_line s ≡ false).
    ⊎_elim (λ (i : is_visit s ≡ true). rw (e, i) (refl, λ t. absurd (true≢false (sym t))))
    (λ (i : is_visit s ≡ false).
    ⊎_elim (λ (j : is_message s ≡ true). rw (e, i, j) (refl, λ t. absurd (true≢false (sym t))))
    (λ (j : is_message s ≡ false).
    ⊎_elim (λ (k : is_mark s ≡ true). rw (e, i, j, k) (refl, λ t. absurd (true≢false (sym t))))
    (λ (k : is_mark s ≡ false).
    ⊎_elim (λ (l : is_unmark s ≡ true). rw (e, i, j, k, l) (refl, λ t. absurd (true≢false (sym t))))
    (λ (l : is_unmark s ≡ false). rw (e, i, j, k, l) (refl, λ t. refl))
    (true_or_false (is_unmark s)))
    (true_or_false (is_mark s)))
    (true_or_false (is_message s)))
    (true_or_false (is_visit s)))
    (true_or_false (is_empty_line s))

-- each newline counts, until the number is the largest
counted : (u : Run) (text : List ℕ) → u.line ≤ 18_446_744_073_709_551_615 → (run_after u text).line ≡ min (u.line + lines_in text) 18_446_744_073_709_551_615
unfolding moved_over lines_in
counted u [] l = omega arith
counted u (b ∷ text) l =
    ⊎_elim
    (λ (n : eqb b newline ≡ true).
    let rest = counted (line_ends u).run text (omega arith) in
    let more : (run_after (run_on u b) text).line ≡ min (u.line + (1 + lines_in text)) 18_446_744_073_709_551_615 = rw (← (did u b (line_ends_lem u b (eqb-true b newline n))).0) (omega (arith, rest)) in
    rw n more)
    (λ (n : eqb b newline ≡ false).
    let rest = counted (line_goes_on u b).run text l in
    let more : (run_after (run_on u b) text).line ≡ min (u.line + (0 + lines_in text)) 18_446_744_073_709_551_615 = rw (← (did u b (goes_on u b (eqb-false b newline n))).0) (omega (arith, rest)) in
    rw n more)
    (true_or_false (eqb b newline))

-- ---- to the byte

mark_line_lem : line (mark_word ∷ decimal_of 3 ∷ []) ≡ mark_line
unfolding line line_on decimal_within
mark_line_lem = refl

unmark_line_lem : line (unmark_word ∷ decimal_of 3 ∷ []) ≡ unmark_line
unfolding line line_on decimal_within
unmark_line_lem = refl

mark_three : (u : Run) (p : Station) → u.scan ≡ fresh_scan → p.0 ≡ 3 → Says u mark_line (mark_text (marked u.ring p).answer) (marked u.ring p).ring
mark_three u p fresh three =
    subst (λ (bs : List ℕ). Says u bs (mark_text (marked u.ring p).answer) (marked u.ring p).ring)
    (ap (λ (n : ℕ). line (mark_word ∷ decimal_of n ∷ [])) three ∙ mark_line_lem) (mark_called_lem u p fresh (omega (arith, three)))

unmark_three : (u : Run) (p : Station) → u.scan ≡ fresh_scan → p.0 ≡ 3 → Says u unmark_line (unmark_text (unmarked u.ring p).number) (unmarked u.ring p).ring
unmark_three u p fresh three =
    subst (λ (bs : List ℕ). Says u bs (unmark_text (unmarked u.ring p).number) (unmarked u.ring p).ring)
    (ap (λ (n : ℕ). line (unmark_word ∷ decimal_of n ∷ [])) three ∙ unmark_line_lem) (unmark_called_lem u p fresh (omega (arith, three)))

marked_said_lem : (rest arrival : Ticks) → mark_text (record { rest = rest; arrival = arrival; withdrawn = 0; number = 0 }) ≡ marked_said
unfolding text_or withdrawn_words line line_on
marked_said_lem rest arrival = refl

withdrawn_said_lem : mark_text (record { rest = record { 0 = 20 }; arrival = record { 0 = 100 }; withdrawn = 1; number = 0 }) ≡ withdrawn_said
unfolding text_or withdrawn_words line line_on decimal_within
withdrawn_said_lem = refl

unmarked_said_lem : unmark_text 0 ≡ unmarked_said
unfolding text_or line line_on
unmarked_said_lem = refl

refused_said_lem : (rest arrival : Ticks) (withdrawn : ℕ)
    → (mark_text (record { rest = rest; arrival = arrival; withdrawn = withdrawn; number = 9 }) ≡ refused_said) × (unmark_text 9 ≡ refused_said)
unfolding text_or line line_on decimal_within
refused_said_lem rest arrival withdrawn = (refl, refl)

pub promised : Promised
unfolding answer_text
promised =
    record {
      pieces_behind = moved_append run_on;
      pieces_said = out_append run_on said_at;
      pieces_unread = some_append run_on unread_at;
      numbered = λ ring text. omega (arith, counted (run_from ring) text (omega arith));
      unread_told = λ ring s. (told ring s).0;
      visit_answered = λ u e i. ended u _ (called_visit u.ring u.scan _ e i refl);
      message_answered = λ u e i j. ended u _ (called_message u.ring u.scan _ e i j refl);
      mark_answered = λ u i. ended u _ (called_mark u.ring u.scan _ i refl);
      unmark_answered = λ u i. ended u _ (called_unmark u.ring u.scan _ i refl);
      unread_named = λ u t. ended u _ ((told u.ring u.scan).1 t);
      visit_typed = visit_called_lem;
      visit_length_typed = visit_length_called;
      message_typed = message_called_lem;
      mark_typed = mark_called_lem;
      unmark_typed = unmark_called_lem;
      mark_worded = mark_three;
      unmark_worded = unmark_three;
      marked_worded = marked_said_lem;
      withdrawn_worded = withdrawn_said_lem;
      unmarked_worded = unmarked_said_lem;
      refused_worded = refused_said_lem;
    }
