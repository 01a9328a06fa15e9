-- What `compose` makes of a text: a set, for a plan with its allocation, read line by line. `Sent` has what goes out of a log while its text is read.
use Rattle.std.specs.Prelude.{ℕ, ◌+◌, ◌^◌, ◌≤◌, ◌<◌, ◌≡◌, Bool, true, false, cond, not, None, Some, is_none, ◌&&◌, ◌||◌, List, [], ◌∷◌, ◌++◌, leb, ltb, eqb, length, take, set}
use Rattle.std.specs.Option.{option_or}
use Rattle.units.specs.Numbers.{accepted, wrong_shape}
use Rattle.units.specs.Places.{at}
use Rattle.sets.specs.Header.{with_head_number, head_of}
use Rattle.sets.specs.Judged.{blank_set}
use Rattle.sets.specs.declared.Head.{Head}
use Rattle.sets.specs.declared.Set.{Set}
use Rattle.plans.specs.Planned.{judged_plan, blank_alloc}
use Rattle.plans.specs.declared.Alloc.{Alloc}
use Rattle.fields.specs.Fields.{head_tag, mode_tag, frame_tag, grid_tag}
use Rattle.fields.specs.Header.{header_number}
use Rattle.sheets.specs.Writing.{refused_writing, written_answer, written_buffer}
use Rattle.sheets.specs.declared.Written.{Written}
use Rattle.text.specs.Text.{newline}
use Rattle.line_reader.specs.Scan.{fresh_scan, stepped, code_of, is_readable, is_empty_line, next_line}
use Rattle.line_reader.specs.declared.Scan.{Scan}
use Rattle.command_compose.specs.declared.Draft.{Draft}
use Rattle.command_compose.specs.declared.Composing.{Composing}

-- ---- the lines

-- "ttrt"
abbrev pub ttrt_word : List ℕ
ttrt_word = 116 ∷ 116 ∷ 114 ∷ 116 ∷ []

-- "mode"
abbrev pub mode_word : List ℕ
mode_word = 109 ∷ 111 ∷ 100 ∷ 101 ∷ []

-- "frame"
abbrev pub frame_word : List ℕ
frame_word = 102 ∷ 114 ∷ 97 ∷ 109 ∷ 101 ∷ []

-- "grid"
abbrev pub grid_word : List ℕ
grid_word = 103 ∷ 114 ∷ 105 ∷ 100 ∷ []

-- the word of a line of the header behind TTRT's, by its tag on a sheet
unfoldable pub word_of : ℕ → List ℕ
word_of tag = cond (eqb tag mode_tag) mode_word (cond (eqb tag frame_tag) frame_word grid_word)

-- "station"
abbrev pub station_word : List ℕ
station_word = 115 ∷ 116 ∷ 97 ∷ 116 ∷ 105 ∷ 111 ∷ 110 ∷ []

-- every number of the line is a 32-bit one
abbrev pub all_fit : Scan → Bool
all_fit s =
    ltb (at s.values 0) (2 ^ 32)
    && (ltb (at s.values 1) (2 ^ 32)
    && (ltb (at s.values 2) (2 ^ 32) && (ltb (at s.values 3) (2 ^ 32) && ltb (at s.values 4) (2 ^ 32))))

-- this word, with this many numbers
abbrev pub is_line : Scan → ℕ → ℕ → Bool
is_line s code count = is_readable s && (eqb s.word code && (eqb s.count count && all_fit s))

-- `ttrt N`
abbrev pub is_ttrt : Scan → Bool
is_ttrt s = is_line s (code_of ttrt_word) 1

-- the tag of a line of the header behind TTRT's, `mode M`, `frame F` or `grid G`; 0 for any other line
unfoldable pub line_tag : Scan → ℕ
line_tag s =
    cond (is_line s (code_of mode_word) 1) mode_tag
    (cond (is_line s (code_of frame_word) 1) frame_tag (cond (is_line s (code_of grid_word) 1) grid_tag 0))

-- `station W C D P`
abbrev pub is_station : Scan → Bool
is_station s = is_line s (code_of station_word) 4

-- `station W C D P S`
abbrev pub is_plan_station : Scan → Bool
is_plan_station s = is_line s (code_of station_word) 5

-- "visit"
abbrev pub visit_word : List ℕ
visit_word = 118 ∷ 105 ∷ 115 ∷ 105 ∷ 116 ∷ []

-- "mark"
abbrev pub mark_word : List ℕ
mark_word = 109 ∷ 97 ∷ 114 ∷ 107 ∷ []

-- `visit STATION START LIMIT SYNC ASYNC`, the station a number of one byte
abbrev pub is_visit_line : Scan → Bool
is_visit_line s = is_line s (code_of visit_word) 5 && ltb (at s.values 0) 256

-- `mark STATION MARK`, both numbers of one byte
abbrev pub is_mark_line : Scan → Bool
is_mark_line s = is_line s (code_of mark_word) 2 && (ltb (at s.values 0) 256 && ltb (at s.values 1) 256)

-- a record of a log: a visit or a mark
abbrev pub is_record_line : Scan → Bool
is_record_line s = is_visit_line s || is_mark_line s

-- ---- the draft

-- no line was read yet: no TTRT, no station
abbrev pub blank_draft : Draft
blank_draft = record { set = blank_set; alloc = blank_alloc; line = 1; unread = None; head = 0; kind = 0; wrong = false }

-- the same, its lines out of place
abbrev pub misplaced : Draft → Draft
misplaced d =
    record {
      set = d.set;
      alloc = d.alloc;
      line = d.line;
      unread = d.unread;
      head = d.head;
      kind = d.kind;
      wrong = true;
    }

-- the same, with these numbers in the header; the line's tag is the highest of the header's lines
abbrev pub headed_by : Draft → ℕ → Head → Draft
headed_by d tag h =
    record {
      set = record { head = h; n = d.set.n; w = d.set.w; c = d.set.c; d = d.set.d; p = d.set.p };
      alloc = d.alloc;
      line = d.line;
      unread = d.unread;
      head = tag;
      kind = d.kind;
      wrong = d.wrong;
    }

-- TTRT stands on the first line, once; a number that no line names is what its absence means on a sheet
unfoldable pub with_ttrt : Draft → ℕ → Draft
with_ttrt d ttrt =
    cond (eqb d.head 0) (headed_by d head_tag (head_of ttrt)) (misplaced d)

-- a further line of the header stands behind TTRT's and before the first station, above those with lower tags, once; it gives the number that its field on a sheet would give
unfoldable pub with_further : Draft → ℕ → ℕ → Draft
with_further d tag number =
    cond (leb head_tag d.head && (ltb d.head tag && eqb d.set.n 0))
    (headed_by d tag (with_head_number d.set.head tag (header_number true number)))
    (misplaced d)

-- the next station of the set
abbrev pub set_and : Set → Scan → Set
set_and t s =
    record {
      head = t.head;
      n = t.n + 1;
      w = set t.w t.n (at s.values 0);
      c = set t.c t.n (at s.values 1);
      d = set t.d t.n (at s.values 2);
      p = set t.p t.n (at s.values 3);
    }

-- and its allocation
abbrev pub alloc_and : Alloc → ℕ → Scan → Alloc
alloc_and a n s = record { s = set a.s n (at s.values 4) }

-- every number of the line is below 2 ^ 32
pub record NumbersFit (s : Scan) : Type 0 where
  pub first : at s.values 0 < 2 ^ 32
  pub second : at s.values 1 < 2 ^ 32
  pub third : at s.values 2 < 2 ^ 32
  pub fourth : at s.values 3 < 2 ^ 32
  pub fifth : at s.values 4 < 2 ^ 32

-- a station stands behind TTRT, is one of at most 128, and all are of one kind: 1 for a request's, 2 for a plan's
unfoldable pub with_station : Draft → Scan → ℕ → Draft
with_station d s kind =
    cond (leb head_tag d.head && (ltb d.set.n 128 && (eqb d.kind 0 || eqb d.kind kind)))
    (record {
      set = set_and d.set s;
      alloc = alloc_and d.alloc d.set.n s;
      line = d.line;
      unread = d.unread;
      head = d.head;
      kind = kind;
      wrong = d.wrong;
    })
    (misplaced d)

-- the kind of a plan's stations behind a record: 3 where the plan is accepted, 4 where it is refused
unfoldable pub logged_kind : Set → Alloc → ℕ
logged_kind t a = cond (eqb (judged_plan t a) accepted) 3 4

-- the same, with stations of another kind
abbrev pub of_kind : Draft → ℕ → Draft
of_kind d kind =
    record {
      set = d.set;
      alloc = d.alloc;
      line = d.line;
      unread = d.unread;
      head = d.head;
      kind = kind;
      wrong = d.wrong;
    }

-- a record stands behind a plan's stations, or behind another record; at the first one the plan is judged
unfoldable pub with_record : Draft → Draft
with_record d =
    cond (eqb d.kind 2) (of_kind d (logged_kind d.set d.alloc)) (cond (ltb d.kind 3) (misplaced d) d)

-- the first line that cannot be read is named
unfoldable pub with_unread : Draft → Draft
with_unread d =
    record {
      set = d.set;
      alloc = d.alloc;
      line = d.line;
      unread = option_or d.unread (Some d.line);
      head = d.head;
      kind = d.kind;
      wrong = d.wrong;
    }

-- a record, or a line that cannot be read
unfoldable pub record_drafted : Draft → Scan → Draft
record_drafted d s = cond (is_record_line s) (with_record d) (with_unread d)

-- one line; behind a record every line but another record stands out of place, since TTRT is there, stations are, and they are of kind 3 or 4
unfoldable pub line_drafted : Draft → Scan → Draft
line_drafted d s =
    cond (is_empty_line s) d
    (cond (is_ttrt s) (with_ttrt d (at s.values 0))
    (cond (leb mode_tag (line_tag s)) (with_further d (line_tag s) (at s.values 0))
    (cond (is_station s) (with_station d s 1) (cond (is_plan_station s) (with_station d s 2) (record_drafted d s)))))

-- the next line
abbrev pub on_next_line : Draft → Draft
on_next_line d =
    record {
      set = d.set;
      alloc = d.alloc;
      line = next_line d.line;
      unread = d.unread;
      head = d.head;
      kind = d.kind;
      wrong = d.wrong;
    }

-- ---- the text, byte after byte

abbrev pub compose_start : Composing
compose_start = record { draft = blank_draft; scan = fresh_scan }

unfoldable pub compose_on : Composing → ℕ → Composing
compose_on c b =
    cond (eqb b newline)
    (record { draft = on_next_line (line_drafted c.draft c.scan); scan = fresh_scan })
    (record { draft = c.draft; scan = stepped c.scan b })

unfoldable pub compose_after : Composing → List ℕ → Composing
compose_after c [] = c
compose_after c (b ∷ bs) = compose_after (compose_on c b) bs

-- ---- the sheet

-- a sheet can be made: every line was read, each in its place, and TTRT is there
abbrev pub is_whole : Draft → Bool
is_whole d = is_none d.unread && (not d.wrong && leb head_tag d.head)

-- 2 if none can; else what writing answers, a plan's where the stations are a plan's
unfoldable pub composed_answer : Draft → List ℕ → Written
composed_answer d out =
    cond (is_whole d)
    (cond (leb 2 d.kind) (written_answer true d.set d.alloc out) (written_answer false d.set blank_alloc out))
    (refused_writing wrong_shape)

-- the sheet in front, all behind it as it was; refused, no byte has changed
unfoldable pub composed_buffer : Draft → List ℕ → List ℕ
composed_buffer d out =
    cond (is_whole d)
    (cond (leb 2 d.kind) (written_buffer true d.set d.alloc out) (written_buffer false d.set blank_alloc out))
    out

-- the draft was written
pub record WroteDraft (d : Draft) (before after : List ℕ) (w : Written) : Type 0 where
  pub answer : w ≡ composed_answer d before
  pub buffer : after ≡ composed_buffer d before
  -- the sheet lies inside the buffer; both lines say so, for whoever lends its bytes
  pub fits : w.length ≤ length after
  pub counts : w.length ≡ length (take w.length after)

-- ---- a whole text

-- the draft of a whole text, whose last line may lack its newline
abbrev pub draft_of : List ℕ → Draft
draft_of text = (compose_after compose_start (text ++ (newline ∷ []))).draft
