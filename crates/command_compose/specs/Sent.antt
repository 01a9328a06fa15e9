-- What goes out of a log while its text is read: at the first record its plan's fields, at each record the record's field, and the end when the text has ended.
use Rattle.std.specs.Prelude.{ℕ, ◌+◌, ◌*◌, ◌≤◌, ◌≡◌, Bool, true, cond, not, None, is_some, ◌&&◌, List, [], ◌∷◌, ◌++◌, ◌⊎◌, ltb, eqb, length, take, drop}
use Rattle.units.specs.Places.{at}
use Rattle.log_records.specs.Visit.{visit_length}
use Rattle.log_records.specs.Entry.{entry_bytes}
use Rattle.log_records.specs.declared.VisitEntry.{VisitEntry}
use Rattle.log_records.specs.declared.MarkEntry.{MarkEntry}
use Rattle.log_records.specs.declared.Entry.{Entry}
use Rattle.log_records.specs.declared.Entry.TheVariants.{Visit, Mark}
use Rattle.sheets.specs.Layout.{end_bytes, fields_of}
use Rattle.sheets.specs.Reading.{judged_sheet}
use Rattle.sheets.specs.Writing.{write_answer, room_number, laid_after}
use Rattle.sheets.specs.declared.Written.{Written}
use Rattle.text.specs.Text.{newline, Put, Printed, page_size}
use Rattle.line_reader.specs.declared.Scan.{Scan}
use Rattle.command_compose.specs.Compose.{is_visit_line, is_record_line, with_record, compose_start, compose_on, compose_after, is_whole, composed_answer, composed_buffer, draft_of}
use Rattle.command_compose.specs.declared.Draft.{Draft}
use Rattle.command_compose.specs.declared.Composing.{Composing}
use Rattle.command_compose.specs.declared.Composed.{Composed}

-- ---- one line

-- the visit that a line names
abbrev pub visit_in : Scan → VisitEntry
visit_in s =
    record {
      station = at s.values 0;
      start = at s.values 1;
      limit = at s.values 2;
      synchronous = at s.values 3;
      asynchronous = at s.values 4;
    }

-- the mark that a line names
abbrev pub mark_in : Scan → MarkEntry
mark_in s = record { station = at s.values 0; mark = at s.values 1 }

-- the entry that a record's line names
unfoldable pub entry_in : Scan → Entry
entry_in s = cond (is_visit_line s) (Visit (visit_in s)) (Mark (mark_in s))

-- the text is a log's so far: its plan was accepted, and every line was read, each in its place
abbrev pub goes_out : Draft → Bool
goes_out d = is_whole d && eqb d.kind 3

-- what goes out before a record: at the first one the plan's fields
unfoldable pub plan_sent : Draft → List ℕ
plan_sent d = cond (eqb d.kind 2) (fields_of true d.set d.alloc) []

-- what a line lets out: a record its field; any other line nothing, nor a record where the plan is refused or a line before could not be read or stood out of place
unfoldable pub sent_by : Draft → Scan → List ℕ
sent_by d s = cond (is_record_line s && goes_out (with_record d)) (plan_sent d ++ entry_bytes (entry_in s)) []

-- ---- the text, byte after byte

-- what goes out at a byte
unfoldable pub sent_at : Composing → ℕ → List ℕ
sent_at c b = cond (eqb b newline) (sent_by c.draft c.scan) []

-- and over all of them
unfoldable pub sent_over : Composing → List ℕ → List ℕ
sent_over c [] = []
sent_over c (b ∷ bs) = sent_at c b ++ sent_over (compose_on c b) bs

-- ---- the end of the text

-- the end of a log; or else the sheet
unfoldable pub end_answer : Draft → List ℕ → Written
end_answer d out = cond (goes_out d) (write_answer (room_number 3 (length out)) 3) (composed_answer d out)

unfoldable pub end_buffer : Draft → List ℕ → List ℕ
end_buffer d out = cond (goes_out d) (laid_after (room_number 3 (length out)) out 0 end_bytes) (composed_buffer d out)

-- the last bytes were written
pub record WroteEnd (d : Draft) (before after : List ℕ) (w : Written) : Type 0 where
  pub answer : w ≡ end_answer d before
  pub buffer : after ≡ end_buffer d before
  -- they lie inside the buffer; both lines say so, for whoever lends its bytes
  pub fits : w.length ≤ length after
  pub counts : w.length ≡ length (take w.length after)

-- ---- what the functions hand back

-- how many bytes the fields of a plan have at most, and a little more
abbrev pub most_fields : ℕ
most_fields = 3_400

-- at the first record the plan was accepted, nothing has gone out, and its fields have room
pub record PlanRoom (d : Draft) (a : ℕ) (page : List ℕ) : Type 0 where
  pub judged : d.kind ≡ 2 → judged_sheet true d.set d.alloc ≡ 0
  pub first : d.kind ≡ 2 → a ≡ 0
  pub large : most_fields + visit_length + 3 ≤ length page

-- a record's field has room, and the end behind it
pub record RecordRoom (s : Scan) (a : ℕ) (page : List ℕ) : Type 0 where
  pub line : is_record_line s ≡ true
  pub room : a + 23 ≤ length page

-- a line's bytes have room: before the first record nothing has gone out
pub record LineRoom (d : Draft) (a : ℕ) (page : List ℕ) : Type 0 where
  pub first : d.kind ≤ 2 → a ≡ 0
  pub room : a + 23 ≤ length page
  pub large : most_fields + visit_length + 3 ≤ length page

-- how many bytes are read at once
abbrev pub piece_size : ℕ
piece_size = 2_048

-- how many bytes go out at most over so many bytes of text: a record's field has no more than a visit's
abbrev pub most_sent : ℕ → ℕ
most_sent n = most_fields + visit_length * n

-- a piece of the text, and a page with room for what it lets out
pub record Piece (piece page : List ℕ) : Type 0 where
  pub few : length piece ≤ piece_size
  pub large : page_size ≤ length page

-- the text goes on over a piece
pub record ComposedPiece (c : Composing) (piece before after : List ℕ) (r : Composed) : Type 0 where
  pub behind : r.composing ≡ compose_after c piece
  pub sent : Put before 0 (sent_over c piece) after r.length
  pub short : r.length ≤ most_sent piece_size

-- the bytes that are read: the first 2,048; with a page that is too small, none
unfoldable pub piece_of : List ℕ → List ℕ → List ℕ
piece_of text page = cond (ltb (length page) page_size) [] (take piece_size text)

-- the text goes on over a piece, and what it lets out stands on the page
pub record ComposedOn (c : Composing) (text before after : List ℕ) (r : Composed) : Type 0 where
  pub behind : r.composing ≡ compose_after c (piece_of text before)
  pub sent : Printed (sent_over c (piece_of text before)) before after r.length

-- ---- a whole text

-- all that goes out while it is read
abbrev pub sent_of : List ℕ → List ℕ
sent_of text = sent_over compose_start (text ++ (newline ∷ []))

-- `compose` makes these bytes of the text: every line can be read, the first bytes go out while it is read, and the last are written at its end:
-- in front of any buffer with room for them, all behind them as it was
pub record Composes (text first last : List ℕ) : Type 0 where
  pub readable : (draft_of text).unread ≡ None
  pub sent : sent_of text ≡ first
  pub answer : (out : List ℕ)
      → length last ≤ length out → end_answer (draft_of text) out ≡ record { length = length last; number = 0 }
  pub buffer : (out : List ℕ) → length last ≤ length out → end_buffer (draft_of text) out ≡ last ++ drop (length last) out

-- both together are these bytes
pub record Makes (text bytes : List ℕ) : Type 0 where
  pub first : List ℕ
  pub last : List ℕ
  pub composes : Composes text first last
  pub all : first ++ last ≡ bytes

-- no line of the text is a record
unfoldable pub no_record : Composing → List ℕ → Bool
no_record c [] = true
no_record c (b ∷ bs) = cond (eqb b newline) (not (is_record_line c.scan)) true && no_record (compose_on c b) bs

-- a line before could not be read, or stood out of place
abbrev pub Broken : Draft → Type 0
Broken d = (is_some d.unread ≡ true) ⊎ (d.wrong ≡ true)
