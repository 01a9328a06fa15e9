-- Everything that `specs/Promised.antt` lists, proved.
use Prim.Native.Nat.{ℕ, ◌≤◌}
use mathlib.Core.Path.{◌≡◌, refl, sym, ap, subst, ◌∙◌}
use mathlib.Core.Bool.{false}
use mathlib.Core.List.{List}
use native.Mathlib.Omega.{arith}
use Rattle.units.specs.Places.{sum_below, all_below, fill}
use Rattle.units.specs.Judging.{or_else, all_hold}
use Rattle.sets.specs.Header.{head_number}
use Rattle.sets.specs.Rules.{head_in_range, station_in_range}
use Rattle.sets.specs.Judged.{judged_then, zeros}
use Rattle.sets.specs.declared.Set.{Set}
use Rattle.plans.specs.Planned.{blank_alloc}
use Rattle.fields.specs.Rows.{rows}
use Rattle.fields.specs.Bytes.{short_at, number_at, body_at}
use Rattle.fields.specs.Header.{header_number, behind_tag, further_place}
use Rattle.fields.proofs.HeaderLaws.{header_out_lem}
use Rattle.fields.specs.Fields.{further_size, is_allowed, field_number, handed_out}
use Rattle.sheets.specs.Layout.{most_of}
use Rattle.field_reader.specs.Cursor.{cursor_after}
use Rattle.field_reader.specs.Scanned.{with_field, stops_at, stop_number, scan_from, scanned}
use Rattle.sheets.specs.Reading.{read_request, then_number, judged_sheet, read_answer, read_sheet}
use Rattle.sheets.specs.declared.ReadRequest.{ReadRequest}
use Rattle.text.specs.Text.{decimal_within, line_on, line}
use Rattle.log_records.specs.declared.Entry.TheVariants.{Mark}
use Rattle.command_compose.specs.Compose.{word_of}
use Rattle.command_compose.proofs.SentLaws.{record_drafted_lem, broken_text_lem, refused_plan_text, broken_end, no_record_text, early_record, late_line, wide_station, wide_mark}
use Rattle.sheet_text_rules.specs.Promised.{Promised, marked_text, older_sheet, older_text, framed_sheet, framed_text, gridded_sheet, gridded_text}
use Rattle.sheet_text_rules.specs.LogText.{mark_line, entry_line}
use Rattle.sheet_text_rules.specs.ShowText.{further_line, head_lines, share_words, station_line, sheet_text, show_printed}
use Rattle.sheet_text_rules.proofs.ShowLaws.{shown_request}
use Rattle.sheet_text_rules.proofs.ShownLaws.{shown_composed}
use Rattle.sheet_text_rules.proofs.PlainLaws.{show_tells}
use Rattle.sheet_text_rules.proofs.LogTextLaws.{log_composed, refused_ends}
use Rattle.sheet_text_rules.proofs.HeaderLineLaws.{line_given, other_four, second_broken, late_broken}

-- ---- the cases

older_set : ℕ → ℕ → Set
older_set frame grid =
    let long = fill 1 (λ i. 200) zeros in
    record { head = record { ttrt = 100; mode = 2; frame = frame; grid = grid }; n = 1; w = fill 1 (λ i. 2) zeros; c = fill 1 (λ i. 20) zeros; d = long; p = long }

-- an older set, shown; the same with frames; and the same on a grid
older_read : read_request older_sheet ≡ record { set = older_set 1 1; number = 0 }
unfolding older_set read_sheet read_answer then_number scanned scan_from stops_at stop_number with_field cursor_after field_number handed_out is_allowed
    or_else all_below short_at number_at body_at further_size further_place behind_tag fill judged_sheet judged_then all_hold sum_below head_in_range station_in_range header_number
older_read = refl

framed_read : read_request framed_sheet ≡ record { set = older_set 40 1; number = 0 }
unfolding older_set read_sheet read_answer then_number scanned scan_from stops_at stop_number with_field cursor_after field_number handed_out is_allowed
    or_else all_below short_at number_at body_at further_size further_place behind_tag fill judged_sheet judged_then all_hold sum_below head_in_range station_in_range header_number
framed_read = refl

gridded_read : read_request gridded_sheet ≡ record { set = older_set 40 5; number = 0 }
unfolding older_set read_sheet read_answer then_number scanned scan_from stops_at stop_number with_field cursor_after field_number handed_out is_allowed
    or_else all_below short_at number_at body_at further_size further_place behind_tag fill judged_sheet judged_then all_hold sum_below head_in_range station_in_range header_number
gridded_read = refl

older_lines : sheet_text false (older_set 1 1) blank_alloc ≡ older_text
unfolding older_set sheet_text head_lines head_number further_line word_of station_line share_words rows line line_on decimal_within fill
older_lines = refl

framed_lines : sheet_text false (older_set 40 1) blank_alloc ≡ framed_text
unfolding older_set sheet_text head_lines head_number further_line word_of station_line share_words rows line line_on decimal_within fill
framed_lines = refl

gridded_lines : sheet_text false (older_set 40 5) blank_alloc ≡ gridded_text
unfolding older_set sheet_text head_lines head_number further_line word_of station_line share_words rows line line_on decimal_within fill
gridded_lines = refl

mark_line_lem : entry_line (Mark (record { station = 3; mark = 1 })) ≡ marked_text
unfolding mark_line line line_on decimal_within
mark_line_lem = refl

shown_set : (sheet : List ℕ) (t : Set) → read_request sheet ≡ record { set = t; number = 0 } → show_printed sheet ≡ sheet_text false t blank_alloc
shown_set sheet t e =
    let none : (read_request sheet).number ≡ 0 = ap (λ (r : ReadRequest). r.number) e in
    sym (shown_request (read_request sheet) sheet refl (λ two. absurd (omega (arith, two, none))) none)
    ∙ ap (λ (r : ReadRequest). sheet_text false r.set blank_alloc) e

pub promised : Promised
promised =
    record {
      show_compose = shown_composed;
      log_compose = log_composed;
      marked = mark_line_lem;
      older = shown_set older_sheet (older_set 1 1) older_read ∙ older_lines;
      framed = shown_set framed_sheet (older_set 40 1) framed_read ∙ framed_lines;
      gridded = shown_set gridded_sheet (older_set 40 5) gridded_read ∙ gridded_lines;
      show_refused = show_tells;
      header_line = line_given;
      header_other = λ d tag number out e outside whole count.
          other_four d tag out whole count (subst (λ (n : ℕ). ¬ ((1 ≤ n) × (n ≤ most_of tag))) (sym e) (header_out_lem (most_of tag) number outside));
      header_twice = second_broken;
      header_late = late_broken;
      no_record_lem = no_record_text;
      record_line_lem = λ d s h. record_drafted_lem s h d;
      early_record = early_record;
      late_line = late_line;
      wide_station = wide_station;
      wide_mark = wide_mark;
      broken_silent = broken_text_lem;
      broken_refused = broken_end;
      refused_silent = refused_plan_text;
      refused_end = refused_ends;
    }
