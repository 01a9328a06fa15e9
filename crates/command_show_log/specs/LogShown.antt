-- What `show` prints of a log: the plan's text, then a line for each record as it is read; a fault behind that ends the text with the refusal.
use Rattle.std.specs.Prelude.{ℕ, zero, suc, ◌≡◌, Bool, cond, not, ◌&&◌, List, [], ◌++◌, ltb, eqb, length, take, drop}
use Rattle.sets.specs.declared.Set.{Set}
use Rattle.plans.specs.declared.Alloc.{Alloc}
use Rattle.sheets.specs.Reading.{then_number, plan_start}
use Rattle.log_records.specs.declared.Entry.{Entry}
use Rattle.logs.specs.Records.{record_size}
use Rattle.logs.specs.Reading.{read_log}
use Rattle.log_stream.specs.Pieces.{first_size, nothing_read, number_of, read_over, handed_over}
use Rattle.text.specs.Text.{text_or, page_size, Printed, number_on}
use Rattle.sheet_text_rules.specs.ShowText.{plan_lines_of, show_printed, shown_number}
use Rattle.sheet_text_rules.specs.LogText.{entry_lines}
use Rattle.command_show_log.specs.declared.Showing.{Showing}
use Rattle.command_show_log.specs.declared.Shown.{Shown}
use Rattle.command_show_log.specs.declared.Begun.{Begun}

-- ---- the first bytes

-- a log with a record: all fields of a plan have passed, and a whole record stands behind them
abbrev pub is_log : List ℕ → Bool
is_log bs = (plan_start bs).passed && not (eqb (record_size bs (plan_start bs).at) 0)

-- the text of a plan; nothing where it is refused
abbrev pub plan_text : ℕ → Set → Alloc → List ℕ
plan_text number t a = cond (eqb number 0) (plan_lines_of t a) []

-- bytes without a whole record: behind a plan's fields those of a log that has none, else a request or plan as ever
unfoldable pub plain_text : List ℕ → List ℕ
plain_text bs =
    cond (plan_start bs).passed (text_or (read_log bs).number (plan_lines_of (read_log bs).set (read_log bs).alloc))
    (show_printed bs)

-- the number of any bytes, which the status of `show` goes by: where all fields of a plan have passed that of reading a log, else that of a request or plan as ever
unfoldable pub shown_number_of : List ℕ → ℕ
shown_number_of bs = cond (plan_start bs).passed (read_log bs).number (shown_number bs)

-- what is printed of the first bytes: of a log the plan's text, of anything else the whole answer
unfoldable pub head_text : List ℕ → List ℕ
head_text bs = cond (is_log bs) (plan_text (plan_start bs).number (plan_start bs).set (plan_start bs).alloc) (plain_text bs)

-- the number that goes with it: of a log 0, for its refusal stands behind the records; of anything else the number
unfoldable pub first_number : List ℕ → ℕ
first_number bs = cond (is_log bs) 0 (shown_number_of bs)

-- what is kept for the records: none was read yet, and the plan's refusal
abbrev pub show_from : List ℕ → Showing
show_from bs = record { gathered = nothing_read; number = (plan_start bs).number }

-- ---- the records, byte after byte

-- what is kept behind the bytes
abbrev pub show_after : Showing → List ℕ → Showing
show_after k bs = record { gathered = read_over k.gathered bs; number = k.number }

-- the lines of entries; behind a refused plan none
unfoldable pub lines_for : ℕ → List Entry → List ℕ
lines_for zero es = entry_lines es
lines_for (suc k) es = []

-- what is printed on the way
abbrev pub shown_over : Showing → List ℕ → List ℕ
shown_over k bs = lines_for k.number (handed_over k.gathered bs)

-- the number when all was read: 1, 2, 3 of the records, then the plan's
abbrev pub last_number : Showing → ℕ
last_number k = then_number (number_of k.gathered) k.number

-- and what is printed then: nothing, or the refusal
abbrev pub end_text : Showing → List ℕ
end_text k = text_or (last_number k) []

-- ---- what `show` prints of any bytes

-- the bytes of a log behind its plan's fields
abbrev pub records_part : List ℕ → List ℕ
records_part bs = drop (plan_start bs).at bs

-- the text of first bytes; where they are a log's, then that of the records, and the end
abbrev pub shown_with : List ℕ → List ℕ → List ℕ
shown_with first records =
    cond (is_log first)
    (head_text first ++ shown_over (show_from first) records ++ end_text (show_after (show_from first) records))
    (head_text first)

unfoldable pub shown_of : List ℕ → List ℕ
shown_of bs = shown_with bs (records_part bs)

-- the number that goes with first bytes; where they are a log's, that behind the records
abbrev pub number_with : List ℕ → List ℕ → ℕ
number_with first records = cond (is_log first) (last_number (show_after (show_from first) records)) (first_number first)

-- ---- how the program reads them

-- so many bytes first, for the plan and a record
abbrev pub first_part : List ℕ → List ℕ
first_part bs = take first_size bs

-- and as records the rest of these, then all that follow
abbrev pub records_read : List ℕ → List ℕ
records_read bs = records_part (first_part bs) ++ drop first_size bs

-- ---- what the functions hand back

-- how many bytes are read at once
abbrev pub piece_size : ℕ
piece_size = 512

-- the bytes that are read: the first 512; with a page that is too small, none
unfoldable pub piece_of : List ℕ → List ℕ → List ℕ
piece_of bs page = cond (ltb (length page) page_size) [] (take piece_size bs)

-- the records go on over a piece, and their lines stand on the page
pub record ShownOn (k : Showing) (bs before after : List ℕ) (r : Shown) : Type 0 where
  pub behind : r.showing ≡ show_after k (piece_of bs before)
  pub shown : Printed (shown_over k (piece_of bs before)) before after r.length

-- the first bytes were shown: whether they are a log's, where its records begin, and their number
pub record BegunOn (bs before after : List ℕ) (r : Begun) : Type 0 where
  pub log : r.log ≡ is_log bs
  pub at : r.at ≡ (plan_start bs).at
  pub showing : r.showing ≡ show_from bs
  pub shown : Printed (head_text bs) before after r.length
  pub number : r.number ≡ number_on (first_number bs) before
