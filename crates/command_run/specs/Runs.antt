-- A run: the calls are read byte after byte, and a newline ends a line.
use Rattle.std.specs.Prelude.{ℕ, ◌+◌, ◌≤◌, Bool, cond, List, [], ◌∷◌, ◌++◌, ltb, eqb, length, take}
use Rattle.sheets.specs.Reading.{then_number}
use Rattle.sheets.specs.declared.ReadPlan.{ReadPlan}
use Rattle.rings.specs.Opening.{opening}
use Rattle.rings.specs.declared.Ring.{Ring}
use Rattle.text.specs.Text.{newline, page_size}
use Rattle.line_reader.specs.Scan.{fresh_scan, stepped, next_line}
use Rattle.command_run.specs.Bytes.{moved_over, some_over}
use Rattle.command_run.specs.Calls.{is_unread, called}
use Rattle.command_run.specs.declared.Answer.{Answer}
use Rattle.command_run.specs.declared.Answer.TheVariants.{Nothing}
use Rattle.command_run.specs.declared.Run.{Run}
use Rattle.command_run.specs.declared.LineStep.{LineStep}
use Rattle.command_run.specs.declared.OpenedRun.{OpenedRun}

-- ---- how a run begins

-- the run begins on line 1
abbrev pub run_from : Ring → Run
run_from ring = record { ring = ring; scan = fresh_scan; line = 1 }

-- the run of a plan that was read: the refusal of reading, or else that of opening
abbrev pub opened_run : ReadPlan → OpenedRun
opened_run p =
    record {
      run = run_from (opening p.set p.alloc).ring;
      number = then_number p.number (opening p.set p.alloc).number;
    }

-- ---- byte after byte

-- the line ends: the run on the next line, and what the line did
abbrev pub line_ends : Run → LineStep
line_ends u =
    record {
      run = record { ring = (called u.ring u.scan).ring; scan = fresh_scan; line = next_line u.line };
      answer = (called u.ring u.scan).answer;
    }

-- the line goes on
abbrev pub line_goes_on : Run → ℕ → LineStep
line_goes_on u b =
    record {
      run = record { ring = u.ring; scan = stepped u.scan b; line = u.line };
      answer = Nothing;
    }

-- one byte more: a newline ends the line
unfoldable pub byte_on : Run → ℕ → LineStep
byte_on u b = cond (eqb b newline) (line_ends u) (line_goes_on u b)

-- the run behind it, the answer there, and whether a line ends there that cannot be read
abbrev pub run_on : Run → ℕ → Run
run_on u b = (byte_on u b).run

abbrev pub answer_at : Run → ℕ → Answer
answer_at u b = (byte_on u b).answer

abbrev pub unread_at : Run → ℕ → Bool
unread_at u b = is_unread (byte_on u b).answer

-- the run behind all the bytes
abbrev pub run_after : Run → List ℕ → Run
run_after u text = moved_over run_on u text

-- one of the lines that end there cannot be read
abbrev pub some_unread : Run → List ℕ → Bool
some_unread u text = some_over run_on unread_at u text

-- ---- a whole text

-- how many lines end in it
unfoldable pub lines_in : List ℕ → ℕ
lines_in [] = 0
lines_in (b ∷ bs) = cond (eqb b newline) 1 0 + lines_in bs

-- the last line of a text may lack its newline: one more stands behind it
abbrev pub with_end : List ℕ → List ℕ
with_end text = text ++ (newline ∷ [])

-- ---- a piece of the text

-- how many bytes are read at once
abbrev pub piece_size : ℕ
piece_size = 256

-- a piece of the text, and a page with room for its answers
pub record Piece (piece page : List ℕ) : Type 0 where
  pub few : length piece ≤ piece_size
  pub large : page_size ≤ length page

-- the bytes that are read: the first 256; with a page that is too small, none
unfoldable pub piece_of : List ℕ → List ℕ → List ℕ
piece_of text page = cond (ltb (length page) page_size) [] (take piece_size text)
