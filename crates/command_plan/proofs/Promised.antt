-- Everything that `specs/Promised.antt` lists, proved.
use Prim.Native.Nat.{ℕ, zero, suc}
use mathlib.Core.Path.{◌≡◌, refl, ap, ◌∙◌}
use mathlib.Core.List.{List, []}
use mathlib.Core.Logic.{◌≢◌}
use native.Mathlib.Omega.{arith}
use Rattle.units.specs.Places.{at, sum_below, all_below, fill}
use Rattle.units.specs.Judging.{or_else, all_hold}
use Rattle.sets.specs.Rules.{tau, head_in_range, station_in_range}
use Rattle.sets.specs.Judged.{judged_then, zeros}
use Rattle.sets.specs.declared.Set.{Set}
use Rattle.plans.specs.Rules.{time_at, spare_time}
use Rattle.plans.specs.Planned.{planned, smallest_with, answered}
use Rattle.plans.specs.declared.Alloc.{Alloc}
use Rattle.fields.specs.Rows.{rows}
use Rattle.fields.specs.Bytes.{short_at, number_at, body_at}
use Rattle.fields.specs.Header.{header_number, behind_tag, further_place}
use Rattle.fields.specs.Fields.{further_size, is_allowed, field_number, handed_out}
use Rattle.field_reader.specs.Cursor.{cursor_after}
use Rattle.field_reader.specs.Scanned.{with_field, stops_at, stop_number, scan_from, scanned}
use Rattle.sheets.specs.Reading.{read_request, then_number, judged_sheet, read_answer, read_sheet}
use Rattle.sheets.specs.Writing.{write_answer, buffer_after}
use Rattle.sheets.specs.declared.Written.{Written}
use Rattle.text.specs.Text.{decimal_within, line_on, line, text_or, refused_line, Tells}
use Rattle.text.proofs.TextLaws.{text_accepted, text_refused}
use Rattle.text.proofs.RefusalLaws.{count_u, Plain, plain_append, plain_end, plain_field, plain_line, plain_number_line, plain_rows, tells_or}
use Rattle.command_plan.specs.PlanText.{plan_word, plan_line, share_line, plan_lines, planned_text, request_text, plan_printed}
use Rattle.command_plan.specs.PlanSheet.{planning_number, plan_of, answer_or, buffer_or}
use Rattle.command_plan.specs.Promised.{Promised, worked_sheet, worked_text}
use Rattle.command_plan.proofs.PlanTextLaws.{plan_said}

-- ---- the same plan

or_zero : (k : ℕ) (w : Written) → (answer_or k w).number ≡ 0 → (k ≡ 0) × (w.number ≡ 0)
unfolding answer_or
or_zero zero w h = (refl, h)
or_zero (suc k) w h = absurd (omega (arith, h))

write_zero : (k size : ℕ) → (write_answer k size).number ≡ 0 → k ≡ 0
unfolding write_answer
write_zero zero size h = refl
write_zero (suc k) size h = absurd (omega (arith, h))

or_refused : (k : ℕ) (w : Written) → k ≢ 0 → (answer_or k w).number ≡ k
unfolding answer_or
or_refused zero w h = absurd (h refl)
or_refused (suc k) w h = refl

or_kept : (k : ℕ) (after before : List ℕ) → k ≢ 0 → buffer_or k after before ≡ before
unfolding buffer_or
or_kept zero after before h = absurd (h refl)
or_kept (suc k) after before h = refl

refused_text : (sheet : List ℕ) → planning_number (read_request sheet) ≢ 0 → plan_printed sheet ≡ refused_line (planning_number (read_request sheet))
refused_text sheet k = plan_said (read_request sheet) ∙ text_refused _ _ k

-- ---- a plan's text has no letter u

plain_name : Plain plan_word
unfolding count_u
plain_name = refl

plain_plan : (t : Set) (a : Alloc) → Plain (plan_lines t a)
unfolding plan_lines
plain_plan t a =
    plain_append (plan_line t.n t.head.ttrt (tau t) (spare_time t (at a.s))) (rows t.n (λ i. share_line i (at a.s i)))
    (plain_line plan_word _ plain_name (plain_field _ _ (plain_field _ _ (plain_field _ _ (plain_field _ _ plain_end)))))
    (plain_rows t.n _ (λ i. plain_number_line i _ (plain_field _ _ plain_end)))

told : (sheet : List ℕ) → Tells (plan_printed sheet) (planning_number (read_request sheet))
told sheet =
    let q = read_request sheet in
    rw plan_said (tells_or (plan_lines q.set (plan_of q).alloc) (planning_number q) (plain_plan _ _))

-- ---- the cases

empty_read : (read_request []).number ≡ 1
unfolding read_sheet read_answer then_number scanned scan_from stops_at stop_number field_number handed_out or_else
empty_read = refl

empty_said : plan_printed [] ≡ refused_line 1
empty_said = text_refused _ _ (λ e. absurd (omega (arith, e, empty_read))) ∙ ap refused_line empty_read

worked_set : Set
worked_set =
    record { head = record { ttrt = 100; mode = 1; frame = 1; grid = 1 }; n = 4; w = fill 1 (λ i. 2) zeros; c = fill 4 (λ i. 20) zeros; d = fill 4 (λ i. 100) zeros; p = fill 4 (λ i. 100) zeros }

worked_read : read_request worked_sheet ≡ record { set = worked_set; number = 0 }
unfolding worked_set read_sheet read_answer then_number scanned scan_from stops_at stop_number with_field cursor_after field_number handed_out is_allowed
    or_else all_below short_at number_at body_at further_size further_place behind_tag fill judged_sheet judged_then all_hold sum_below head_in_range station_in_range header_number
worked_read = refl

worked_planned : planned worked_set ≡ record { alloc = record { s = fill 4 (λ i. 20) zeros }; number = 0 }
unfolding worked_set answered time_at smallest_with or_else fill judged_then all_hold all_below sum_below head_in_range station_in_range
worked_planned = refl

worked_lines : plan_lines worked_set (record { s = fill 4 (λ i. 20) zeros }) ≡ worked_text
unfolding worked_set plan_lines rows line line_on decimal_within fill sum_below spare_time
worked_lines = refl

worked_said : plan_printed worked_sheet ≡ worked_text
unfolding text_or
worked_said = ap request_text worked_read ∙ ap (planned_text worked_set) worked_planned ∙ worked_lines

pub promised : Promised
unfolding buffer_or buffer_after answer_or
promised =
    record {
      empty = empty_said;
      worked = worked_said;
      same_plan = λ sheet out h.
          let refused = or_zero (planning_number (read_request sheet)) _ h in
          (plan_said (read_request sheet) ∙ text_accepted _ _ refused.0, rw (refused.0, write_zero _ _ refused.1));
      same_refusal = λ sheet out k. (refused_text sheet k, (or_refused (planning_number (read_request sheet)) _ k, or_kept (planning_number (read_request sheet)) _ out k));
      plan_refused_lem = told;
    }
