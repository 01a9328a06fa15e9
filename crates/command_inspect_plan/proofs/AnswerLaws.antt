-- What is put, and what is handed back in each of the cases, for the proofs of this crate. No rule stands here.
use Prim.Native.Nat.{ℕ, ◌+◌, ◌≤◌, ◌<◌}
use mathlib.Core.Path.{◌≡◌, refl, sym, subst, ◌∙◌}
use mathlib.Core.Bool.{true, false}
use mathlib.Core.List.{List, [], ◌∷◌, ◌++◌, append-nil}
use mathlib.Core.Logic.{◌≢◌, ⊎_elim}
use native.Mathlib.Omega.{arith}
use borrow.Author.Tests.{eq-eqb, ne_eqb, le-leb, lt-leb}
use lib.ListN.{length}
use Rattle.units.specs.Numbers.{most_stations}
use Rattle.units.proofs.SmallLaws.{below_or_not}
use Rattle.sets.specs.declared.Set.{Set}
use Rattle.plans.specs.declared.Alloc.{Alloc}
use Rattle.sheets.specs.declared.ReadPlan.{ReadPlan}
use Rattle.text.specs.Text.{refused_line, line, line_on, page_size, Printed}
use Rattle.text.specs.Pages.{HasRoom, Puts}
use Rattle.text.specs.declared.Page.{Page}
use Rattle.text.proofs.TextLaws.{not_printed}
use Rattle.text.proofs.PageLaws.{puts_then, puts_as}
use Rattle.command_diff.specs.DiffText.{lines_size, side_refused, LinesPutOn}
use Rattle.command_diff.proofs.AnswerLaws.{or_refused, or_accepted}
use Rattle.inspection_stream.specs.declared.Inspecting.{Inspecting}
use Rattle.command_inspect.specs.FindingText.{FoundOn}
use Rattle.command_inspect.specs.declared.Found.{Found}
use Rattle.command_inspect_plan.specs.InspectText.{plan_word, another_line, is_another, lines_to, another_text, log_text, LogAnswered, AnsweredOn}

-- ---- words

pub plan_refused_lem : (n : ℕ) → (112 ∷ 108 ∷ 97 ∷ 110 ∷ 32 ∷ []) ++ refused_line n ≡ side_refused plan_word n
unfolding line line_on
plan_refused_lem n = refl

pub another_line_lem : (97 ∷ 110 ∷ 111 ∷ 116 ∷ 104 ∷ 101 ∷ 114 ∷ 32 ∷ 112 ∷ 108 ∷ 97 ∷ 110 ∷ []) ++ (10 ∷ []) ≡ another_line
unfolding line line_on
another_line_lem = refl

-- ---- another plan

pub another_put : {t : Set} {a : Alloc} {u : Set} {b : Alloc} {before middle after : Page}
    → t.n ≤ 128 → HasRoom (21 + lines_size) before → Puts 21 before another_line middle → LinesPutOn t a u b middle after
    → Puts (21 + lines_size) before (another_text t a u b) after
unfolding lines_to
another_put {t} {a} {u} {b} {before} {middle} {after} few room named put =
    let both : u.n ≤ most_stations → Puts (21 + lines_size) before (another_text t a u b) after = λ less.
    let lines : Puts lines_size middle _ after = record {
      put = put.lines.put few less (omega (arith, room, named.size, named.put.put.next, named.put.short));
      size = put.size;
      same = put.same;
    } in
    puts_as (puts_then named lines room) (rw (le-leb u.n most_stations less) refl) (omega arith) in
    ⊎_elim
    (λ (many : most_stations < u.n).
    let same = put.lines.new_many many in
    let whole : Puts 21 before another_line after = record {
      put = rw (same.0, same.1) named.put;
      size = put.size ∙ named.size;
      same = put.same ∙ named.same;
    } in
    puts_as whole (rw (lt-leb u.n most_stations many) (sym (append-nil another_line))) (omega arith))
    both
    (below_or_not most_stations u.n)

-- ---- a log, against a plan that was read

pub answered_another : {t : Set} {a : Alloc} {k : Inspecting} {before after : List ℕ} {r : ℕ} → is_another t a k ≡ true
    → Printed (another_text t a k.start.set k.start.alloc) before after r → LogAnswered t a k before after (record { length = r; accepted = false })
unfolding log_text
answered_another e put = record { printed = rw e put; accepted = rw e refl }

pub answered_found : {t : Set} {a : Alloc} {k : Inspecting} {before after : List ℕ} {r : Found}
    → is_another t a k ≡ false → FoundOn k before after r → LogAnswered t a k before after r
unfolding log_text
answered_found e found = record { printed = rw e found.printed; accepted = rw e found.accepted }

-- ---- a plan sheet and a log

pub answered_nothing : {p : ReadPlan} {k : Inspecting} {before : List ℕ} → length before < page_size → AnsweredOn p k before before (record { length = 0; accepted = false })
answered_nothing {p} {k} {before} small = record { printed = not_printed small; accepted = rw (lt-leb page_size (length before) small) refl }

module _ {p P : ReadPlan} {k : Inspecting} {before after : List ℕ} (e : p ≡ P) (large : page_size ≤ length before) where
  pub answered_refused : {r : ℕ} → p.number ≢ 0 → Printed (side_refused plan_word p.number) before after r → AnsweredOn P k before after (record { length = r; accepted = false })
  answered_refused {r} n put =
      subst (λ (x : ReadPlan). AnsweredOn x k before after (record { length = r; accepted = false })) e
      (record {
        printed = subst (λ (text : List ℕ). Printed text before after r) (sym (or_refused plan_word p.number _ n)) put;
        accepted = rw (le-leb page_size (length before) large, ne_eqb p.number 0 n) refl;
      })

  pub answered_log : {r : Found} → p.number ≡ 0 → LogAnswered p.set p.alloc k before after r → AnsweredOn P k before after r
  answered_log {r} z log =
      subst (λ (x : ReadPlan). AnsweredOn x k before after r) e
      (record {
        printed = rw (or_accepted plan_word p.number (log_text p.set p.alloc k) z) log.printed;
        accepted = rw (le-leb page_size (length before) large, eq-eqb p.number 0 z) log.accepted;
      })
