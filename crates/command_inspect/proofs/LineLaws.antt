-- The lines of a finding: what stands in them by the rule, and what is printed of an inspection.
use Prim.Native.Nat.{ℕ}
use mathlib.Core.Path.{◌≡◌, refl, sym, ◌∙◌}
use mathlib.Core.List.{List, [], ◌∷◌, ◌++◌}
use mathlib.Core.Logic.{◌≢◌}
use borrow.Author.Tests.{eq-eqb, ne_eqb}
use Rattle.text.specs.Text.{newline, space, line, refused_line}
use Rattle.text.proofs.TextLaws.{line_first, line_next, line_end_lem, text_accepted, text_refused}
use Rattle.log_records.specs.declared.Entry.{Entry}
use Rattle.inspection_stream.specs.Inspecting.{inspect_number}
use Rattle.inspection_stream.specs.declared.Inspecting.{Inspecting}
use Rattle.command_inspect.specs.FindingText.{accepted_line}
use Rattle.command_inspect.specs.FindingText.{ticks_part, before_of, unit_of, broken_text, read_text, finding_text}

-- ---- words

pub line_three : (v a b : List ℕ) → line (v ∷ a ∷ b ∷ []) ≡ ((v ++ (space ∷ a)) ++ (space ∷ b)) ++ (newline ∷ [])
line_three v a b = rw (line_first, line_next, line_next, line_end_lem)

module _ (rule : ℕ) where
  pub no_unit : (before : Entry) → rule ≢ 2 → [] ≡ unit_of rule before
  unfolding unit_of
  no_unit before e = rw (ne_eqb rule 2 e) refl

  pub start_unit : (before : Entry) → rule ≡ 2 → ticks_part ++ before_of before ≡ unit_of rule before
  unfolding unit_of
  start_unit before e = rw e refl

-- ---- what is printed

module _ (k : Inspecting) where
  pub refused_text : inspect_number k ≢ 0 → refused_line (inspect_number k) ≡ finding_text k
  refused_text some = sym (text_refused (inspect_number k) (read_text k) some)

  pub accepted_text : inspect_number k ≡ 0 → k.looked.inspection.rule ≡ 0 → accepted_line k.looked.inspection.records ≡ finding_text k
  unfolding read_text
  accepted_text z none = sym (text_accepted (inspect_number k) (read_text k) z ∙ rw (eq-eqb k.looked.inspection.rule 0 none) refl)

  pub broken_text_lem : inspect_number k ≡ 0 → k.looked.inspection.rule ≢ 0 → broken_text k ≡ finding_text k
  unfolding read_text
  broken_text_lem z some = sym (text_accepted (inspect_number k) (read_text k) z ∙ rw (ne_eqb k.looked.inspection.rule 0 some) refl)
