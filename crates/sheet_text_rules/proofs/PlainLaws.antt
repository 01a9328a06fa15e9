-- The text of a sheet and the lines of records have no letter u, so they end with no refusal (`text/proofs/RefusalLaws.antt`).
use Prim.Native.Nat.{ℕ, zero, suc, ◌+◌}
use mathlib.Core.Path.{refl}
use mathlib.Core.Bool.{Bool, true, false, cond}
use mathlib.Core.List.{List, [], ◌∷◌}
use lib.Dec.{leb, eqb}
use Rattle.units.specs.Places.{at}
use Rattle.sets.specs.declared.Head.{Head}
use Rattle.sets.specs.declared.Set.{Set}
use Rattle.plans.specs.declared.Alloc.{Alloc}
use Rattle.log_records.specs.declared.Entry.{Entry}
use Rattle.log_records.specs.declared.Entry.TheVariants.{Visit, Mark}
use Rattle.fields.specs.Rows.{rows}
use Rattle.fields.specs.Fields.{mode_tag, frame_tag}
use Rattle.fields.specs.Header.{further_count, absent}
use Rattle.sets.specs.Header.{head_number}
use Rattle.sheets.specs.Reading.{read_request, read_plan}
use Rattle.text.specs.Text.{decimal_of, line_on, line, text_or, Tells}
use Rattle.text.proofs.RefusalLaws.{count_u, Plain, plain_append, plain_end, plain_field, plain_line, plain_rows, tells_or}
use Rattle.command_compose.specs.Compose.{ttrt_word, mode_word, frame_word, grid_word, word_of, station_word, visit_word, mark_word}
use Rattle.sheet_text_rules.specs.ShowText.{further_line, head_lines, share_words, station_line, sheet_text, plan_lines_of, show_printed, shown_number}
use Rattle.sheet_text_rules.specs.LogText.{visit_line, mark_line, entry_line, entry_lines}

-- ---- the words

plain_some : (b : Bool) (s t : List ℕ) → Plain s → Plain t → Plain (cond b s t)
plain_some true s t p q = p
plain_some false s t p q = q

plain_name : (tag : ℕ) → Plain (word_of tag)
unfolding word_of count_u
plain_name tag = plain_some (eqb tag mode_tag) mode_word (cond (eqb tag frame_tag) frame_word grid_word) refl (plain_some (eqb tag frame_tag) frame_word grid_word refl refl)

plain_ttrt : Plain ttrt_word
unfolding count_u
plain_ttrt = refl

plain_station : Plain station_word
unfolding count_u
plain_station = refl

plain_visit : Plain visit_word
unfolding count_u
plain_visit = refl

plain_mark : Plain mark_word
unfolding count_u
plain_mark = refl

plain_nothing : Plain []
unfolding count_u
plain_nothing = refl

-- ---- the lines of a sheet

plain_further : (tag number : ℕ) → Plain (further_line tag number)
unfolding further_line
plain_further tag number =
    plain_some (eqb number absent) [] (line (word_of tag ∷ decimal_of number ∷ [])) plain_nothing (plain_line (word_of tag) _ (plain_name tag) (plain_field number [] plain_end))

plain_head : (h : Head) (k : ℕ) → Plain (head_lines h k)
unfolding head_lines
plain_head h zero = plain_line ttrt_word _ plain_ttrt (plain_field h.ttrt [] plain_end)
plain_head h (suc k) = plain_append (head_lines h k) _ (plain_head h k) (plain_further (mode_tag + k) (head_number h (mode_tag + k)))

plain_share : (plan : Bool) (s : ℕ) → Plain (line_on (share_words plan s))
unfolding share_words
plain_share true s = plain_field s [] plain_end
plain_share false s = plain_end

plain_of_station : (plan : Bool) (t : Set) (a : Alloc) (i : ℕ) → Plain (station_line plan t a i)
unfolding station_line
plain_of_station plan t a i =
    plain_line station_word _ plain_station (plain_field _ _ (plain_field _ _ (plain_field _ _ (plain_field _ _ (plain_share plan (at a.s i))))))

pub plain_sheet : (plan : Bool) (t : Set) (a : Alloc) → Plain (sheet_text plan t a)
unfolding sheet_text
plain_sheet plan t a =
    plain_append (head_lines t.head further_count) (rows t.n (station_line plan t a)) (plain_head t.head further_count)
    (plain_rows t.n (station_line plan t a) (plain_of_station plan t a))

pub plain_plan : (t : Set) (a : Alloc) → Plain (plan_lines_of t a)
unfolding plan_lines_of
plain_plan t a = plain_some (leb t.n 128) (sheet_text true t a) [] (plain_sheet true t a) plain_nothing

-- ---- the lines of records

plain_entry : (e : Entry) → Plain (entry_line e)
unfolding visit_line mark_line
plain_entry (Visit v) = plain_line visit_word _ plain_visit (plain_field _ _ (plain_field _ _ (plain_field _ _ (plain_field _ _ (plain_field _ _ plain_end)))))
plain_entry (Mark m) = plain_line mark_word _ plain_mark (plain_field _ _ (plain_field _ _ plain_end))

pub plain_entries : (es : List Entry) → Plain (entry_lines es)
unfolding entry_lines
plain_entries [] = plain_nothing
plain_entries (e ∷ es) = plain_append (entry_line e) (entry_lines es) (plain_entry e) (plain_entries es)

-- ---- what `show` prints of a sheet

shown_by : (b : Bool) (k j : ℕ) (plan request : List ℕ) → Plain plan → Plain request → Tells (cond b (text_or k plan) (text_or j request)) (cond b k j)
shown_by true k j plan request p q = tells_or plan k p
shown_by false k j plan request p q = tells_or request j q

pub show_tells : (sheet : List ℕ) → Tells (show_printed sheet) (shown_number sheet)
unfolding show_printed shown_number
show_tells sheet = shown_by (eqb (read_request sheet).number 2) (read_plan sheet).number (read_request sheet).number _ _ (plain_sheet true _ _) (plain_sheet false _ _)
