-- What is promised of what `show` prints; `proofs/Promised.antt` proves it.
use Rattle.std.specs.Prelude.{ℕ, ◌+◌, ◌≤◌, ◌<◌, ◌≡◌, Bool, true, false, List, [], ◌∷◌, ◌++◌, ◌≢◌}
use Rattle.units.specs.Places.{at}
use Rattle.sets.specs.Header.{head_number}
use Rattle.sets.specs.Rules.{CountAllowed}
use Rattle.sets.specs.declared.Set.{Set}
use Rattle.plans.specs.Planned.{judged_plan}
use Rattle.plans.specs.declared.Alloc.{Alloc}
use Rattle.log_records.specs.declared.Entry.{Entry}
use Rattle.log_records.specs.declared.Entry.TheVariants.{Mark}
use Rattle.logs.specs.Layout.{log_of, AllFit}
use Rattle.fields.specs.Bytes.{AllBytes}
use Rattle.fields.specs.Header.{header_number}
use Rattle.sheets.specs.Layout.{most_of}
use Rattle.sheets.specs.Reading.{read_sheet}
use Rattle.sheets.specs.Writing.{refused_writing}
use Rattle.text.specs.Text.{newline, Tells}
use Rattle.line_reader.specs.Scan.{code_of, is_empty_line}
use Rattle.line_reader.specs.declared.Scan.{Scan}
use Rattle.command_compose.specs.Compose.{mark_word, is_record_line, with_further, with_record, line_drafted, compose_start, compose_after, is_whole, composed_answer, composed_buffer, draft_of}
use Rattle.command_compose.specs.Sent.{sent_over, end_answer, end_buffer, sent_of, Composes, Makes, no_record, Broken}
use Rattle.command_compose.specs.declared.Draft.{Draft}
use Rattle.command_compose.specs.declared.Composing.{Composing}
use Rattle.sheet_text_rules.specs.ShowText.{show_printed, shown_number}
use Rattle.sheet_text_rules.specs.LogText.{entry_line, log_text}

-- an older set's request sheet: TTRT 100, mode 2, one station of w 2, C 20, D 200, P 200; and the text of it
abbrev pub older_sheet : List ℕ
older_sheet =
    1 ∷ 0 ∷ 4 ∷ 0 ∷ 0 ∷ 0 ∷ 100 ∷ 4 ∷ 0 ∷ 1 ∷ 2 ∷ 2 ∷ 0 ∷ 16 ∷ 0 ∷ 0 ∷ 0 ∷ 2 ∷ 0 ∷ 0 ∷ 0 ∷ 20 ∷ 0 ∷ 0 ∷ 0 ∷ 200 ∷ 0 ∷
    0 ∷ 0 ∷ 200 ∷ 255 ∷ 0 ∷ 0 ∷ []

abbrev pub older_text : List ℕ
older_text =
    116 ∷ 116 ∷ 114 ∷ 116 ∷ 32 ∷ 49 ∷ 48 ∷ 48 ∷ 10 ∷ 109 ∷ 111 ∷ 100 ∷ 101 ∷ 32 ∷ 50 ∷ 10 ∷
    115 ∷ 116 ∷ 97 ∷ 116 ∷ 105 ∷ 111 ∷ 110 ∷ 32 ∷ 50 ∷ 32 ∷ 50 ∷ 48 ∷ 32 ∷ 50 ∷ 48 ∷ 48 ∷ 32 ∷ 50 ∷ 48 ∷ 48 ∷ 10 ∷ []

-- the same set with frames of up to 40 ticks
abbrev pub framed_sheet : List ℕ
framed_sheet =
    1 ∷ 0 ∷ 4 ∷ 0 ∷ 0 ∷ 0 ∷ 100 ∷ 4 ∷ 0 ∷ 1 ∷ 2 ∷ 5 ∷ 0 ∷ 4 ∷ 0 ∷ 0 ∷ 0 ∷ 40 ∷
    2 ∷ 0 ∷ 16 ∷ 0 ∷ 0 ∷ 0 ∷ 2 ∷ 0 ∷ 0 ∷ 0 ∷ 20 ∷ 0 ∷ 0 ∷ 0 ∷ 200 ∷ 0 ∷ 0 ∷ 0 ∷ 200 ∷ 255 ∷ 0 ∷ 0 ∷ []

abbrev pub framed_text : List ℕ
framed_text =
    116 ∷ 116 ∷ 114 ∷ 116 ∷ 32 ∷ 49 ∷ 48 ∷ 48 ∷ 10 ∷ 109 ∷ 111 ∷ 100 ∷ 101 ∷ 32 ∷ 50 ∷ 10 ∷ 102 ∷ 114 ∷ 97 ∷ 109 ∷ 101 ∷
    32 ∷ 52 ∷ 48 ∷ 10 ∷
    115 ∷ 116 ∷ 97 ∷ 116 ∷ 105 ∷ 111 ∷ 110 ∷ 32 ∷ 50 ∷ 32 ∷ 50 ∷ 48 ∷ 32 ∷ 50 ∷ 48 ∷ 48 ∷ 32 ∷ 50 ∷ 48 ∷ 48 ∷ 10 ∷ []

-- and on a grid of 5
abbrev pub gridded_sheet : List ℕ
gridded_sheet =
    1 ∷ 0 ∷ 4 ∷ 0 ∷ 0 ∷ 0 ∷ 100 ∷ 4 ∷ 0 ∷ 1 ∷ 2 ∷ 5 ∷ 0 ∷ 4 ∷ 0 ∷ 0 ∷ 0 ∷ 40 ∷ 6 ∷ 0 ∷ 4 ∷ 0 ∷ 0 ∷ 0 ∷ 5 ∷
    2 ∷ 0 ∷ 16 ∷ 0 ∷ 0 ∷ 0 ∷ 2 ∷ 0 ∷ 0 ∷ 0 ∷ 20 ∷ 0 ∷ 0 ∷ 0 ∷ 200 ∷ 0 ∷ 0 ∷ 0 ∷ 200 ∷ 255 ∷ 0 ∷ 0 ∷ []

abbrev pub gridded_text : List ℕ
gridded_text =
    116 ∷ 116 ∷ 114 ∷ 116 ∷ 32 ∷ 49 ∷ 48 ∷ 48 ∷ 10 ∷ 109 ∷ 111 ∷ 100 ∷ 101 ∷ 32 ∷ 50 ∷ 10 ∷ 102 ∷ 114 ∷ 97 ∷ 109 ∷ 101 ∷
    32 ∷ 52 ∷ 48 ∷ 10 ∷
    103 ∷ 114 ∷ 105 ∷ 100 ∷ 32 ∷ 53 ∷ 10 ∷
    115 ∷ 116 ∷ 97 ∷ 116 ∷ 105 ∷ 111 ∷ 110 ∷ 32 ∷ 50 ∷ 32 ∷ 50 ∷ 48 ∷ 32 ∷ 50 ∷ 48 ∷ 48 ∷ 32 ∷ 50 ∷ 48 ∷ 48 ∷ 10 ∷ []

-- "mark 3 1"
abbrev pub marked_text : List ℕ
marked_text = 109 ∷ 97 ∷ 114 ∷ 107 ∷ 32 ∷ 51 ∷ 32 ∷ 49 ∷ 10 ∷ []

pub record Promised : Type 0 where
  -- `show`, then `compose`, is the identity on accepted sheets: of the text that is shown of a request or a plan, its very bytes are made again, all of them at its end
  pub show_compose : (plan : Bool) (sheet : List ℕ)
      → AllBytes sheet → (read_sheet plan sheet).number ≡ 0 → Composes (show_printed sheet) [] sheet
  -- and of the text of a log, the lines of an accepted plan and then those of its records, the bytes of that log
  pub log_compose : (t : Set) (a : Alloc) (es : List Entry)
      → judged_plan t a ≡ 0 → AllFit es → Makes (log_text t a es) (log_of t a es)
  -- a mark's line is `mark STATION MARK`, to the byte
  pub marked : entry_line (Mark (record { station = 3; mark = 1 })) ≡ marked_text
  -- `show` prints `mode 2` behind `ttrt` for an older set, to the byte
  pub older : show_printed older_sheet ≡ older_text
  -- and `frame 40` behind that
  pub framed : show_printed framed_sheet ≡ framed_text
  -- and `grid 5` behind both
  pub gridded : show_printed gridded_sheet ≡ gridded_text
  -- the number that goes with what `show` prints of a sheet: it ends with `refused N` if the number N is not 0, and with no refusal if it is
  pub show_refused : (sheet : List ℕ) → Tells (show_printed sheet) (shown_number sheet)
  -- a further line of the header in a text, `mode M` by tag 4, `frame F` by tag 5 and `grid G` by tag 6: behind TTRT's, before the first station and above those with lower tags it gives the number that its field on a sheet gives
  pub header_line : (d : Draft) (tag number : ℕ)
      → 1 ≤ d.head → d.head < tag → d.set.n ≡ 0
      → head_number (with_further d tag number).set.head tag ≡ header_number true number
  -- so a text with a number there that is not 2 to the highest, 1 among them, is refused with 4, if its lines make a sheet of 1 to 128 stations
  pub header_other : (d : Draft) (tag number : ℕ) (out : List ℕ)
      → head_number d.set.head tag ≡ header_number true number
      → ¬ ((2 ≤ number) × (number ≤ most_of tag))
      → is_whole d ≡ true → CountAllowed d.set → (composed_answer d out).number ≡ 4
  -- a second one, one behind a line with a higher tag, and one behind a station stand out of place, and then no sheet is made
  pub header_twice : (d : Draft) (tag number : ℕ) → tag ≤ d.head → is_whole (with_further d tag number) ≡ false
  pub header_late : (d : Draft) (tag number : ℕ) → d.set.n ≢ 0 → is_whole (with_further d tag number) ≡ false
  -- a text without a record lets out nothing while it is read, and its last bytes are its sheet, or why there is none
  pub no_record_lem : (text out : List ℕ) → no_record compose_start (text ++ (newline ∷ [])) ≡ true
      → (sent_of text ≡ [])
      × (end_answer (draft_of text) out ≡ composed_answer (draft_of text) out)
      × (end_buffer (draft_of text) out ≡ composed_buffer (draft_of text) out)
  -- a record's line is taken for one whatever its kind, so a mark stands wherever a visit may
  pub record_line_lem : (d : Draft) (s : Scan) → is_record_line s ≡ true → line_drafted d s ≡ with_record d
  -- a record before a plan's stations stands out of place
  pub early_record : (d : Draft) → d.kind < 2 → Broken (with_record d)
  -- behind a record every line but an empty one and another record cannot be read or stands out of place
  pub late_line : (d : Draft) (s : Scan)
      → 3 ≤ d.kind → 1 ≤ d.head → d.set.n ≢ 0 → d.line ≢ 0 → is_empty_line s ≡ false → is_record_line s ≡ false
      → Broken (line_drafted d s)
  -- a line whose station is above 255 is no record's, and no more is one of a mark whose mark is
  pub wide_station : (s : Scan) → 256 ≤ at s.values 0 → is_record_line s ≡ false
  pub wide_mark : (s : Scan) → s.word ≡ code_of mark_word → 256 ≤ at s.values 1 → is_record_line s ≡ false
  -- behind a line that cannot be read or stands out of place nothing goes out
  pub broken_silent : (c : Composing) (bs : List ℕ)
      → Broken c.draft → (sent_over c bs ≡ []) × Broken (compose_after c bs).draft
  -- and no end is written: the answer is 2
  pub broken_refused : (d : Draft) (out : List ℕ)
      → Broken d → (end_answer d out ≡ refused_writing 2) × (end_buffer d out ≡ out)
  -- behind the first record of a plan that is refused nothing goes out
  pub refused_silent : (c : Composing) (bs : List ℕ)
      → c.draft.kind ≡ 4 → (sent_over c bs ≡ []) × ((compose_after c bs).draft.kind ≡ 4)
  -- and where no line stands out of place, the answer at the end is the plan's number, and no byte is written
  pub refused_end : (d : Draft) (out : List ℕ) → d.kind ≡ 4 → is_whole d ≡ true → judged_plan d.set d.alloc ≢ 0
      → (end_answer d out ≡ refused_writing (judged_plan d.set d.alloc)) × (end_buffer d out ≡ out)
