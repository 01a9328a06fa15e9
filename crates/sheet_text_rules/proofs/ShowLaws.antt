-- The laws of what `show` prints, for the proofs of this layer. No rule stands here.
use Prim.Native.Nat.{ℕ, zero, suc, ◌≤◌}
use mathlib.Core.Path.{◌≡◌, refl, sym, ap, ◌∙◌}
use mathlib.Core.Bool.{true, false}
use mathlib.Core.List.{List, [], ◌∷◌, ◌++◌, append_assoc, append-nil}
use mathlib.Core.Logic.{◌≢◌}
use borrow.Author.Tests.{eq-eqb, ne_eqb}
use Rattle.plans.specs.Planned.{blank_alloc}
use Rattle.sheets.specs.Reading.{read_request, read_plan}
use Rattle.sheets.proofs.ReadLaws.{read_few}
use Rattle.sets.specs.declared.Head.{Head}
use Rattle.sheets.specs.declared.ReadRequest.{ReadRequest}
use Rattle.sheets.specs.declared.ReadPlan.{ReadPlan}
use Rattle.fields.specs.Rows.{rows}
use Rattle.fields.specs.Fields.{mode_tag, frame_tag}
use Rattle.fields.specs.Header.{absent}
use Rattle.text.specs.Text.{decimal_of, line, refused_line}
use Rattle.command_compose.specs.Compose.{mode_word, frame_word, grid_word, word_of}
use Rattle.text.proofs.TextLaws.{text_accepted, text_refused}
use Rattle.sheet_text_rules.specs.ShowText.{ttrt_line, further_line, number_line, head_lines, sheet_text, plan_read_text, request_read_text, plan_shown, show_printed, shown_number}

-- a further line of the header: none where the number is what its absence means
pub line_none : (tag number : ℕ) → number ≡ absent → further_line tag number ≡ []
unfolding further_line
line_none tag number e = rw e refl

pub line_some : (tag number : ℕ) → number ≢ absent → further_line tag number ≡ line (word_of tag ∷ decimal_of number ∷ [])
unfolding further_line
line_some tag number other = rw (ne_eqb number absent other) refl

-- with the word of its tag
pub word_line : (tag number : ℕ) (word : List ℕ) → word_of tag ≡ word → number ≢ absent → line (word ∷ decimal_of number ∷ []) ≡ further_line tag number
word_line tag number word e other = sym (line_some tag number other ∙ ap (λ (w : List ℕ). line (w ∷ decimal_of number ∷ [])) e)

pub mode_named : (tag : ℕ) → tag ≡ mode_tag → word_of tag ≡ mode_word
unfolding word_of
mode_named tag e = rw e refl

pub frame_named : (tag : ℕ) → tag ≡ frame_tag → word_of tag ≡ frame_word
unfolding word_of
frame_named tag e = rw e refl

pub grid_named : (tag : ℕ) → tag ≢ mode_tag → tag ≢ frame_tag → word_of tag ≡ grid_word
unfolding word_of
grid_named tag m f = rw (ne_eqb tag mode_tag m, ne_eqb tag frame_tag f) refl

-- the header's lines: TTRT's, then the rows of the others
pub lines_rows : (h : Head) (k : ℕ) → head_lines h k ≡ ttrt_line h.ttrt ++ rows k (number_line h)
unfolding head_lines rows
lines_rows h zero = sym (append-nil _)
lines_rows h (suc k) = ap (λ (s : List ℕ). s ++ number_line h k) (lines_rows h k) ∙ append_assoc (ttrt_line h.ttrt) (rows k (number_line h)) (number_line h k)

pub request_few : (r : ReadRequest) (bs : List ℕ) → r ≡ read_request bs → r.set.n ≤ 128
request_few r bs e = rw e (read_few false bs)

pub plan_few : (p : ReadPlan) (bs : List ℕ) → p ≡ read_plan bs → p.set.n ≤ 128
plan_few p bs e = rw e (read_few true bs)

pub shown_plan_refused : (p q : ReadPlan) → p ≡ q → p.number ≢ 0 → refused_line p.number ≡ plan_read_text q
shown_plan_refused p q e k = sym (text_refused p.number _ k) ∙ ap plan_read_text e

pub shown_plan : (p q : ReadPlan) → p ≡ q → p.number ≡ 0 → sheet_text true p.set p.alloc ≡ plan_read_text q
shown_plan p q e k = sym (text_accepted p.number _ k) ∙ ap plan_read_text e

module _ (r : ReadRequest) (sheet : List ℕ) (e : r ≡ read_request sheet) where
  number : r.number ≡ (read_request sheet).number
  number = ap (λ (x : ReadRequest). x.number) e

  pub shown_as_plan : r.number ≡ 2 → plan_shown sheet ≡ show_printed sheet
  unfolding show_printed
  shown_as_plan k = rw (eq-eqb (read_request sheet).number 2 (sym number ∙ k))

  shown_as_request : r.number ≢ 2 → request_read_text r ≡ show_printed sheet
  unfolding show_printed
  shown_as_request k = rw (ne_eqb (read_request sheet).number 2 (λ z. k (number ∙ z))) (ap request_read_text e)

  pub shown_request_refused : r.number ≢ 2 → r.number ≢ 0 → refused_line r.number ≡ show_printed sheet
  shown_request_refused k z = sym (text_refused r.number _ z) ∙ shown_as_request k

  pub shown_request : r.number ≢ 2 → r.number ≡ 0 → sheet_text false r.set blank_alloc ≡ show_printed sheet
  shown_request k z = sym (text_accepted r.number _ z) ∙ shown_as_request k

  -- the number that goes with it
  pub number_as_plan : r.number ≡ 2 → (read_plan sheet).number ≡ shown_number sheet
  unfolding shown_number
  number_as_plan k = rw (eq-eqb (read_request sheet).number 2 (sym number ∙ k))

  pub number_as_request : r.number ≢ 2 → r.number ≡ shown_number sheet
  unfolding shown_number
  number_as_request k = rw (ne_eqb (read_request sheet).number 2 (λ z. k (number ∙ z))) number
