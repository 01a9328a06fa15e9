-- Two sheets that are read and compared, to the byte: both sides are computed.
use Prim.Native.Nat.{ℕ}
use mathlib.Core.Path.{◌≡◌, refl, ap, ◌∙◌}
use mathlib.Core.List.{List, [], ◌∷◌}
use lib.ListN.{length}
use Rattle.units.specs.Places.{at, sum_below, all_below, fill}
use Rattle.units.specs.Judging.{or_else, all_hold}
use Rattle.sets.specs.Rules.{head_in_range, station_in_range}
use Rattle.sets.specs.Header.{head_number}
use Rattle.sets.specs.Judged.{zeros}
use Rattle.plans.specs.Rules.{time_at}
use Rattle.plans.specs.Planned.{judged_plan}
use Rattle.fields.specs.Bytes.{short_at, number_at, body_at}
use Rattle.fields.specs.Header.{header_number, behind_tag, further_place}
use Rattle.fields.specs.Fields.{further_size, is_allowed, field_number, handed_out}
use Rattle.field_reader.specs.Cursor.{cursor_after}
use Rattle.field_reader.specs.Scanned.{with_field, stops_at, stop_number, scan_from, scanned}
use Rattle.sheets.specs.Reading.{read_plan, then_number, judged_sheet, read_answer, read_sheet}
use Rattle.sheets.specs.declared.ReadPlan.{ReadPlan}
use Rattle.text.specs.Text.{decimal_within, line_on, line}
use Rattle.differences.specs.Views.{nth_of, header_of}
use Rattle.differences.specs.Differences.{changed, gathered}
use Rattle.command_diff.specs.DiffText.{letter_word, side_word, words_of, lines_of, diff_text, side_or, compared_text, diff_printed}
use Rattle.command_diff.specs.Promised.{left_sheet, back_sheet, left_to_back, back_to_left}

-- an array of 128 places that begins with these numbers
row : List ℕ → List ℕ
row xs = fill (length xs) (at xs) zeros

left : ReadPlan
left =
    record {
      set =
          record {
            head = record { ttrt = 100; mode = 1; frame = 1; grid = 1 };
            n = 2;
            w = row (2 ∷ 1 ∷ []);
            c = row (20 ∷ 20 ∷ []);
            d = row (100 ∷ 100 ∷ []);
            p = row (100 ∷ 100 ∷ []);
          };
      alloc = record { s = row (20 ∷ 20 ∷ []) };
      number = 0;
    }

back : ReadPlan
back =
    record {
      set =
          record {
            head = record { ttrt = 100; mode = 1; frame = 3; grid = 1 };
            n = 3;
            w = row (1 ∷ 1 ∷ 0 ∷ []);
            c = row (10 ∷ 20 ∷ 10 ∷ []);
            d = row (200 ∷ 100 ∷ 100 ∷ []);
            p = row (200 ∷ 100 ∷ 100 ∷ []);
          };
      alloc = record { s = row (5 ∷ 20 ∷ 10 ∷ []) };
      number = 0;
    }

left_read : read_plan left_sheet ≡ left
unfolding left row read_sheet read_answer then_number scanned scan_from stops_at stop_number with_field cursor_after field_number handed_out is_allowed
    or_else all_below short_at number_at body_at further_size further_place behind_tag fill judged_sheet judged_plan time_at all_hold sum_below head_in_range station_in_range header_number
left_read = refl

back_read : read_plan back_sheet ≡ back
unfolding back row read_sheet read_answer then_number scanned scan_from stops_at stop_number with_field cursor_after field_number handed_out is_allowed
    or_else all_below short_at number_at body_at further_size further_place behind_tag fill judged_sheet judged_plan time_at all_hold sum_below head_in_range station_in_range header_number
back_read = refl

left_back : compared_text left back ≡ left_to_back
unfolding left back row fill side_or diff_text lines_of words_of letter_word side_word line line_on decimal_within changed gathered nth_of header_of head_number
left_back = refl

back_left : compared_text back left ≡ back_to_left
unfolding left back row fill side_or diff_text lines_of words_of letter_word side_word line line_on decimal_within changed gathered nth_of header_of head_number
back_left = refl

pub worked : diff_printed left_sheet back_sheet ≡ left_to_back
worked = ap (λ (p : ReadPlan). compared_text p (read_plan back_sheet)) left_read ∙ ap (compared_text left) back_read ∙ left_back

pub worked_back : diff_printed back_sheet left_sheet ≡ back_to_left
worked_back = ap (λ (p : ReadPlan). compared_text p (read_plan left_sheet)) back_read ∙ ap (compared_text back) left_read ∙ back_left

empty_read : (read_plan []).number ≡ 1
unfolding read_sheet read_answer then_number scanned scan_from stops_at stop_number field_number handed_out or_else
empty_read = refl

-- what is said of a sheet is what is said of its number
pub refusal_line : diff_printed [] [] ≡ 111 ∷ 108 ∷ 100 ∷ 32 ∷ 114 ∷ 101 ∷ 102 ∷ 117 ∷ 115 ∷ 101 ∷ 100 ∷ 32 ∷ 49 ∷ 10 ∷ []
unfolding side_or line line_on decimal_within
refusal_line = rw empty_read refl

pub new_refusal_line : diff_printed left_sheet [] ≡ 110 ∷ 101 ∷ 119 ∷ 32 ∷ 114 ∷ 101 ∷ 102 ∷ 117 ∷ 115 ∷ 101 ∷ 100 ∷ 32 ∷ 49 ∷ 10 ∷ []
unfolding left side_or line line_on decimal_within
new_refusal_line = ap (λ (p : ReadPlan). compared_text p (read_plan [])) left_read ∙ rw empty_read refl
