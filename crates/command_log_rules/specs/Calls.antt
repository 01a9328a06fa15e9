-- The calls that a text makes, as the model's runs have them, and what is recorded of those that the ring accepts.
use Rattle.std.specs.Prelude.{ℕ, cond, List, [], ◌∷◌, eqb}
use Rattle.rings.specs.declared.VisitRecord.{VisitRecord}
use Rattle.log_records.specs.declared.Entry.{Entry}
use Rattle.promises.specs.Run.{Call, visit, message, mark, unmark}
use Rattle.text.specs.Text.{newline}
use Rattle.line_reader.specs.Scan.{fresh_scan, stepped, is_empty_line}
use Rattle.line_reader.specs.declared.Scan.{Scan}
use Rattle.command_run.specs.Bytes.{out_over}
use Rattle.command_run.specs.Calls.{is_visit, ask_in, is_message, message_in, is_mark, is_unmark, station_in}
use Rattle.command_run.specs.Runs.{run_on, answer_at, with_end}
use Rattle.command_run.specs.declared.Run.{Run}
use Rattle.command_log.specs.LogBytes.{visits_at, entries_by}

-- ---- the calls: by the text alone, whatever the ring answers

-- of one line: a visit, a message, a station switched through or in again, or none
unfoldable pub calls_in : Scan → List Call
calls_in s =
    cond (is_empty_line s) []
    (cond (is_visit s) (visit (ask_in s) ∷ [])
    (cond (is_message s) (message (message_in s) ∷ [])
    (cond (is_mark s) (mark (station_in s) ∷ []) (cond (is_unmark s) (unmark (station_in s) ∷ []) []))))

-- what is read of a line behind one byte more, and the calls of a line that ends there
unfoldable pub scan_on : Scan → ℕ → Scan
scan_on s b = cond (eqb b newline) fresh_scan (stepped s b)

unfoldable pub calls_at : Scan → ℕ → List Call
calls_at s b = cond (eqb b newline) (calls_in s) []

-- of the bytes that follow what was read of a line
abbrev pub calls_over : Scan → List ℕ → List Call
calls_over s bs = out_over scan_on calls_at s bs

-- of a whole text
abbrev pub calls_of : List ℕ → List Call
calls_of text = calls_over fresh_scan (with_end text)

-- ---- what is recorded, of the bytes that follow where the run stands, in their order

-- the records of the visits
abbrev pub visits_over : Run → List ℕ → List VisitRecord
visits_over u bs = out_over run_on visits_at u bs

-- the entries of the visits, markings and unmarkings, by a counter that is 0 at clock 0
abbrev pub entries_at : Run → ℕ → List Entry
entries_at u b = entries_by 0 0 (answer_at u b)

abbrev pub entries_over : Run → List ℕ → List Entry
entries_over u bs = out_over run_on entries_at u bs
