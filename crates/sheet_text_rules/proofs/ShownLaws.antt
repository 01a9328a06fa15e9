-- `show`, then `compose`, is the identity on accepted sheets: what is drafted of the text is the set that was read, and writing that gives its bytes again.
use Prim.Native.Nat.{ℕ, zero, suc, ◌^◌, ◌≤◌, ◌<◌}
use mathlib.Core.Path.{◌≡◌, refl, sym, ap, ◌∙◌}
use mathlib.Core.Bool.{Bool, true, false, false≢true}
use mathlib.Core.List.{List, [], ◌∷◌, ◌++◌}
use native.Mathlib.Omega.{arith}
use lib.ListN.{length, drop}
use mathlib.Core.Logic.{⊎_elim}
use lib.Dec.{eqb}
use Rattle.units.proofs.JudgingLaws.{true_or_false}
use Rattle.sets.specs.Header.{head_number}
use Rattle.sets.specs.declared.Set.{Set}
use Rattle.plans.specs.Planned.{blank_alloc}
use Rattle.plans.specs.declared.Alloc.{Alloc}
use Rattle.fields.specs.Bytes.{AllBytes}
use Rattle.fields.specs.Fields.{mode_tag, frame_tag}
use Rattle.sheets.specs.Layout.{most_of, sheet_of, plan_sheet, sheet_length}
use Rattle.sheets.proofs.ReadingLaws.{head_ranges}
use Rattle.sheets.proofs.WritingLaws.{answer_accepted, buffer_accepted, number_none, sheet_long}
use Rattle.sheets.specs.Reading.{judged_sheet, set_in, alloc_in, read_sheet, read_request, read_plan}
use Rattle.sheets.specs.Writing.{written_answer, written_buffer}
use Rattle.sheet_rules.specs.Promised.{first_places, first_allocations}
use Rattle.sheets.proofs.ReadLaws.{then_none, read_number_lem, sheet_accepted, Kept, judged_kept}
use Rattle.sheet_rules.proofs.Promised.{promised}
use Rattle.text.specs.Text.{newline}
use Rattle.sheet_text_rules.specs.ShowText.{sheet_text, show_printed}
use Rattle.sheet_text_rules.proofs.ShowLaws.{shown_request, shown_plan, shown_as_plan}
use Rattle.command_compose.specs.Compose.{on_next_line, compose_start, compose_after, composed_answer, composed_buffer, draft_of}
use Rattle.command_compose.proofs.ComposeLaws.{compose_append, newline_more, at_rest}
use Rattle.command_compose.specs.Sent.{sent_over, sent_of, end_answer, end_buffer, Composes}
use Rattle.command_compose.proofs.SentLaws.{sent_append, sent_newline, text_silent, end_of_sheet, not_a_log}
use Rattle.command_compose.specs.declared.Draft.{Draft}
use Rattle.command_compose.specs.declared.Composing.{Composing}
use Rattle.sheet_text_rules.proofs.DraftLaws.{SmallAt, head_some, kind_of, share_of, kind_behind, draft_behind, text_drafted}

-- ---- the text that is shown of an accepted sheet

request_shown : (sheet : List ℕ) → (read_request sheet).number ≡ 0 → show_printed sheet ≡ sheet_text false (read_request sheet).set blank_alloc
request_shown sheet h = sym (shown_request (read_request sheet) sheet refl (omega arith) h)

plan_shown_lem : (sheet : List ℕ) → (read_plan sheet).number ≡ 0 → show_printed sheet ≡ sheet_text true (read_plan sheet).set (read_plan sheet).alloc
plan_shown_lem sheet h = sym (shown_plan (read_plan sheet) (read_plan sheet) refl h ∙ shown_as_plan (read_request sheet) sheet refl (promised.plan_no_request sheet h))

-- ---- what was read is in its ranges, so each number has 32 bits

read_kept : (plan : Bool) (sheet : List ℕ) → (read_sheet plan sheet).number ≡ 0 → Kept plan (read_sheet plan sheet).set (read_sheet plan sheet).alloc
unfolding read_sheet
read_kept plan sheet h =
    let both = then_none _ _ (sym (read_number_lem _ _ _) ∙ h) in
    rw (sheet_accepted plan sheet both.0 both.1) (judged_kept plan (set_in plan sheet) (alloc_in plan sheet) both.1)

kind_few : (plan : Bool) (n : ℕ) → kind_behind plan n ≤ 2
unfolding kind_behind
kind_few plan zero = omega arith
kind_few true (suc n) = omega arith
kind_few false (suc n) = omega arith

most_small : (tag : ℕ) → most_of tag < 2 ^ 32
unfolding most_of
most_small tag =
    ⊎_elim (λ (e : eqb tag mode_tag ≡ true). rw e (omega arith))
    (λ (e : eqb tag mode_tag ≡ false).
    ⊎_elim (λ (f : eqb tag frame_tag ≡ true). rw (e, f) (omega arith)) (λ (f : eqb tag frame_tag ≡ false). rw (e, f) (omega arith)) (true_or_false (eqb tag frame_tag)))
    (true_or_false (eqb tag mode_tag))

module _ (plan : Bool) (t : Set) (a : Alloc) (k : Kept plan t a) where
  small_at : (i : ℕ) → i < t.n → SmallAt plan t a i
  small_at i l =
      let range = k.numbers.stations i l in
      record {
        walk = omega (arith, range.walk);
        longest = omega (arith, range.longest);
        deadline = omega (arith, range.deadline);
        gap = omega (arith, range.gap);
        share = λ e. omega (arith, k.allocations e i l);
      }

  head_number_small : (tag : ℕ) → head_number t.head tag < 2 ^ 32
  head_number_small tag = omega (arith, head_ranges t.head k.numbers.header tag, most_small tag)

  -- the draft of its text
  pub kept_drafted : compose_after compose_start (sheet_text plan t a) ≡ at_rest (draft_behind plan t a t.n)
  kept_drafted = text_drafted t a plan (omega (arith, k.numbers.header.ttrt)) head_number_small (omega (arith, k.count)) small_at

  shown_draft : (text : List ℕ) → text ≡ sheet_text plan t a → draft_of text ≡ on_next_line (draft_behind plan t a t.n)
  shown_draft text e =
      ap (λ (c : Composing). c.draft)
      (ap (λ (x : List ℕ). compose_after compose_start (x ++ (newline ∷ []))) e
      ∙ compose_append compose_start (sheet_text plan t a) (newline ∷ [])
      ∙ ap (λ (c : Composing). compose_after c (newline ∷ [])) kept_drafted
      ∙ newline_more (draft_behind plan t a t.n))

  -- while it is read nothing goes out
  no_records : (draft_behind plan t a t.n).kind ≤ 2
  unfolding draft_behind
  no_records = kind_few plan t.n

  pub kept_silent : sent_over compose_start (sheet_text plan t a) ≡ []
  kept_silent =
      (text_silent compose_start (sheet_text plan t a) (omega (arith, no_records, ap (λ (c : Composing). c.draft.kind) kept_drafted))).1

  shown_silent : (text : List ℕ) → text ≡ sheet_text plan t a → sent_of text ≡ []
  shown_silent text e =
      ap sent_of e
      ∙ sent_append compose_start (sheet_text plan t a) (newline ∷ [])
      ∙ ap (λ (x : List ℕ). x ++ sent_over (compose_after compose_start (sheet_text plan t a)) (newline ∷ [])) kept_silent
      ∙ ap (λ (c : Composing). sent_over c (newline ∷ [])) kept_drafted
      ∙ sent_newline (draft_behind plan t a t.n)

-- ---- and the sheet that is written of that draft

pub kind_some : (plan : Bool) (n : ℕ) → 1 ≤ n → kind_behind plan n ≡ kind_of plan
unfolding kind_behind
kind_some plan zero l = absurd (omega arith)
kind_some plan (suc n) l = refl

module _ (t : Set) (a : Alloc) (some : 1 ≤ t.n) (out : List ℕ) where
  request_written_lem : (composed_answer (on_next_line (draft_behind false t a t.n)) out ≡ written_answer false (first_places t) blank_alloc out)
      × (composed_buffer (on_next_line (draft_behind false t a t.n)) out ≡ written_buffer false (first_places t) blank_alloc out)
  unfolding composed_answer composed_buffer draft_behind
  request_written_lem =
      let head = head_some t.head in
      (rw (head, kind_some false t.n some), rw (head, kind_some false t.n some))

  plan_written_lem : (composed_answer (on_next_line (draft_behind true t a t.n)) out ≡ written_answer true (first_places t) (first_allocations t.n a) out)
      × (composed_buffer (on_next_line (draft_behind true t a t.n)) out ≡ written_buffer true (first_places t) (first_allocations t.n a) out)
  unfolding composed_answer composed_buffer draft_behind share_of
  plan_written_lem =
      let head = head_some t.head in
      (rw (head, kind_some true t.n some), rw (head, kind_some true t.n some))

-- the sheet of a plan that is accepted
plan_first : (t : Set) (a : Alloc) (some : 1 ≤ t.n) (few : t.n ≤ 128) (out : List ℕ)
    → (composed_answer (on_next_line (draft_behind true t a t.n)) out ≡ written_answer true t a out)
    × (composed_buffer (on_next_line (draft_behind true t a t.n)) out ≡ written_buffer true t a out)
plan_first t a some few out =
    let written = plan_written_lem t a some out in
    let first = promised.plan_first_places t (first_places t) a (first_allocations t.n a) out (promised.back_same t few) (promised.back_allocations t.n a few) in
    (written.0 ∙ sym first.0, written.1 ∙ sym first.1)

pub plan_again : (t : Set) (a : Alloc) → judged_sheet true t a ≡ 0 → (out : List ℕ) → length (plan_sheet t a) ≤ length out
    → (composed_answer (on_next_line (draft_behind true t a t.n)) out ≡ record { length = length (plan_sheet t a); number = 0 })
    × (composed_buffer (on_next_line (draft_behind true t a t.n)) out ≡ plan_sheet t a ++ drop (length (plan_sheet t a)) out)
plan_again t a judged out fits =
    let kept = judged_kept true t a judged in
    let first = plan_first t a kept.count.0 kept.count.1 out in
    let none = number_none true t a out judged (omega (arith, sheet_long true t a)) in (
      first.0 ∙ answer_accepted _ (sheet_length true t) none ∙ ap (λ (n : ℕ). record { length = n; number = 0 }) (sym (sheet_long true t a)),
      first.1 ∙ buffer_accepted _ (sheet_of true t a) out none,
    )

-- ---- the same bytes again

pub kept_composes : (plan : Bool) (t : Set) (a : Alloc) (sheet text : List ℕ) → Kept plan t a → text ≡ sheet_text plan t a
    → ((out : List ℕ) → length sheet ≤ length out
    → (composed_answer (on_next_line (draft_behind plan t a t.n)) out ≡ record { length = length sheet; number = 0 })
    × (composed_buffer (on_next_line (draft_behind plan t a t.n)) out ≡ sheet ++ drop (length sheet) out))
    → Composes text [] sheet
unfolding draft_behind
kept_composes plan t a sheet text kept shown written =
    let drafted = shown_draft plan t a kept text shown in
    let d = on_next_line (draft_behind plan t a t.n) in
    let sheet-only = not_a_log (on_next_line (draft_behind plan t a t.n)) (kind_few plan t.n) in
    record {
      readable = ap (λ (d : Draft). d.unread) drafted;
      sent = shown_silent plan t a kept text shown;
      answer = λ out fits. ap (λ (d : Draft). end_answer d out) drafted ∙ (end_of_sheet d out sheet-only).0 ∙ (written out fits).0;
      buffer = λ out fits. ap (λ (d : Draft). end_buffer d out) drafted ∙ (end_of_sheet d out sheet-only).1 ∙ (written out fits).1;
    }

request_composed : (sheet : List ℕ) → AllBytes sheet → (read_request sheet).number ≡ 0 → Composes (show_printed sheet) [] sheet
request_composed sheet bytes h =
    let t = (read_request sheet).set in
    let kept = read_kept false sheet h in
    let alone : Kept false (read_request sheet).set blank_alloc = record { count = kept.count; numbers = kept.numbers; allocations = λ e. absurd (false≢true e) } in
    kept_composes false (read_request sheet).set blank_alloc sheet (show_printed sheet) alone (request_shown sheet h)
    (λ out fits.
    let written = request_written_lem t blank_alloc kept.count.0 out in
    let first = promised.request_first_places t (first_places t) out (promised.back_same t kept.count.1) in
    let again = promised.request_again sheet out bytes h fits in
    (written.0 ∙ sym first.0 ∙ again.0, written.1 ∙ sym first.1 ∙ again.1))

plan_composed : (sheet : List ℕ) → AllBytes sheet → (read_plan sheet).number ≡ 0 → Composes (show_printed sheet) [] sheet
plan_composed sheet bytes h =
    let t = (read_plan sheet).set in
    let a = (read_plan sheet).alloc in
    let kept = read_kept true sheet h in
    kept_composes true (read_plan sheet).set (read_plan sheet).alloc sheet (show_printed sheet) kept (plan_shown_lem sheet h)
    (λ out fits.
    let first = plan_first t a kept.count.0 kept.count.1 out in
    let again = promised.plan_again sheet out bytes h fits in
    (first.0 ∙ again.0, first.1 ∙ again.1))

pub shown_composed : (plan : Bool) (sheet : List ℕ) → AllBytes sheet → (read_sheet plan sheet).number ≡ 0 → Composes (show_printed sheet) [] sheet
shown_composed true = plan_composed
shown_composed false = request_composed
