-- What is promised of what `show` prints of a log; `proofs/Promised.antt` proves it.
use Rattle.std.specs.Prelude.{ℕ, ◌≡◌, true, false, List, [], ◌++◌, ◌≢◌}
use Rattle.sheets.specs.Reading.{plan_start, read_plan}
use Rattle.logs.specs.Walked.{walked}
use Rattle.logs.specs.Reading.{log_number, read_log, handed_from, entries_in}
use Rattle.text.specs.Text.{refused_line, text_or, Tells}
use Rattle.sheet_text_rules.specs.ShowText.{show_printed}
use Rattle.sheet_text_rules.specs.LogText.{log_text}
use Rattle.command_show_log.specs.LogShown.{is_log, plan_text, show_from, lines_for, show_after, shown_over, last_number, records_part, shown_with, shown_of, number_with, shown_number_of, first_part, records_read}
use Rattle.command_show_log.specs.declared.Showing.{Showing}

pub record Promised : Type 0 where
  -- the records may be read in pieces of any length: the same lines are printed, and the same is kept
  pub pieces_behind : (k : Showing) (first rest : List ℕ)
      → show_after k (first ++ rest) ≡ show_after (show_after k first) rest
  pub pieces_shown : (k : Showing) (first rest : List ℕ)
      → shown_over k (first ++ rest) ≡ shown_over k first ++ shown_over (show_after k first) rest
  -- a log with a record: the plan's text and the lines of the records before the first fault, none of them where the plan is refused; then the number that reading the log gives, if it is a refusal
  pub log_shown : (bs : List ℕ) → is_log bs ≡ true
      → shown_of bs
      ≡ plan_text (plan_start bs).number (plan_start bs).set (plan_start bs).alloc
      ++ lines_for (plan_start bs).number (handed_from (walked bs (plan_start bs).at).records bs (plan_start bs).at)
      ++ text_or (log_number bs) []
  -- and that number stands behind all its records, so the status tells of it
  pub same_number : (bs : List ℕ)
      → is_log bs ≡ true → last_number (show_after (show_from bs) (records_part bs)) ≡ log_number bs
  -- so an accepted log is printed as its text: the lines of its plan and a line for each of its entries
  pub accepted_shown : (bs : List ℕ) → is_log bs ≡ true → (read_log bs).number ≡ 0
      → shown_of bs ≡ log_text (read_log bs).set (read_log bs).alloc (entries_in bs)
  -- where the fields of a plan have not all passed, the answer is the one of before
  pub as_ever : (bs : List ℕ) → (plan_start bs).passed ≡ false → shown_of bs ≡ show_printed bs
  -- and so it is where a plan is accepted
  pub plan_as_ever : (bs : List ℕ) → (read_plan bs).number ≡ 0 → shown_of bs ≡ show_printed bs
  -- where they have passed, no whole record stands behind them, and the log is refused, the answer is its number alone
  pub plain_refused : (bs : List ℕ)
      → (plan_start bs).passed ≡ true → is_log bs ≡ false → log_number bs ≢ 0 → shown_of bs ≡ refused_line (log_number bs)
  -- the first 3,400 bytes are enough: they tell whether it is a log
  pub first_log : (bs : List ℕ) → is_log (first_part bs) ≡ is_log bs
  -- their text, and of a log the lines of the records behind, are all that is printed
  pub in_pieces : (bs : List ℕ) → shown_with (first_part bs) (records_read bs) ≡ shown_of bs
  -- and the number that goes with them is that of all bytes: the status goes by it
  pub number_in_pieces : (bs : List ℕ) → number_with (first_part bs) (records_read bs) ≡ shown_number_of bs
  -- what is printed ends with `refused N` if that number N is not 0, and with no refusal if it is
  pub shown_refused : (bs : List ℕ) → Tells (shown_of bs) (shown_number_of bs)
