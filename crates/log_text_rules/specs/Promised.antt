-- What is promised of a log's text: `show`, then `compose`, gives the log's very bytes again; `proofs/Promised.antt` proves it.
use Rattle.std.specs.Prelude.{ℕ, ◌≡◌, List}
use Rattle.fields.specs.Bytes.{AllBytes}
use Rattle.logs.specs.Reading.{read_log, entries_in}
use Rattle.command_compose.specs.Sent.{Makes}
use Rattle.sheet_text_rules.specs.LogText.{log_text}
use Rattle.command_show_log.specs.LogShown.{shown_of}

pub record Promised : Type 0 where
  -- an accepted log, with records or without, is printed as its text: the lines of its plan and a line for each of its entries
  pub log_text_lem : (bs : List ℕ)
      → (read_log bs).number ≡ 0 → shown_of bs ≡ log_text (read_log bs).set (read_log bs).alloc (entries_in bs)
  -- and `compose` makes of this text the bytes that were shown. `AllBytes` holds of any slice that is lent
  pub show_compose : (bs : List ℕ) → AllBytes bs → (read_log bs).number ≡ 0 → Makes (shown_of bs) bs
