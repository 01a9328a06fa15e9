-- What is promised of a log that `log` writes when `inspect` reads it, and of any log that `inspect` accepts; `proofs/Promised.antt` proves it.
use Rattle.std.specs.Prelude.{ℕ, ◌^◌, ◌<◌, ◌≡◌, true, List, [], ◌∷◌, ◌++◌, length}
use Rattle.fields.specs.Bytes.{AllBytes}
use Rattle.sheets.specs.Reading.{read_plan}
use Rattle.logs.specs.Reading.{read_log, entries_in}
use Rattle.command_run.specs.Runs.{opened_run}
use Rattle.command_log_rules.specs.Promised.{written, entries_for}
use Rattle.inspection.specs.Findings.{finding_in}
use Rattle.inspection_stream.specs.Inspecting.{inspect_over, inspect_start}
use Rattle.inspection_stream.specs.Promised.{Enough}
use Rattle.inspection_stream.specs.declared.Inspecting.{Inspecting}
use Rattle.accepted_log_rules.specs.Shows.{Shows}
use Rattle.command_inspect.specs.FindingText.{accepted_line, finding_text, is_accepted}

-- the bytes of these pieces, one behind another
unfoldable pub joined : List (List ℕ) → List ℕ
joined [] = []
joined (piece ∷ pieces) = piece ++ joined pieces

-- what `inspect` keeps when these pieces have come too
unfoldable pub inspect_pieces : Inspecting → List (List ℕ) → Inspecting
inspect_pieces k [] = k
inspect_pieces k (piece ∷ pieces) = inspect_pieces (inspect_over k piece) pieces

-- these bytes come in these pieces, and the first is enough for the plan
abbrev pub ComesIn : List ℕ → List ℕ → List (List ℕ) → Type 0
ComesIn bs first pieces = (bs ≡ first ++ joined pieces) × Enough first (joined pieces)

pub record Promised : Type 0 where
  -- whatever plan the sheet opens, of both editions of timely-token, and whatever calls the text makes, marks among them: `inspect` accepts the bytes that `log` writes, and counts all their records.
  -- `log` opens no FDDI plan any more; that the log of every run of an FDDI ring is accepted, `inspection_rules` says (`log_of_run`)
  pub accepted : (sheet text : List ℕ) → (opened_run (read_plan sheet)).number ≡ 0
      → finding_in (written sheet text)
      ≡ record { records = length (entries_for sheet text); «record» = 0; rule = 0; number = 0 }
  -- in whatever pieces these bytes come, the program ends with 0
  pub status : (sheet text first : List ℕ) (pieces : List (List ℕ))
      → (opened_run (read_plan sheet)).number ≡ 0 → ComesIn (written sheet text) first pieces
      → is_accepted (inspect_pieces (inspect_start first) pieces) ≡ true
  -- and prints `accepted` and the number of their records, fewer than 2 ^ 64
  pub printed : (sheet text first : List ℕ) (pieces : List (List ℕ))
      → (opened_run (read_plan sheet)).number ≡ 0 → ComesIn (written sheet text) first pieces
      → length (entries_for sheet text) < 2 ^ 64
      → finding_text (inspect_pieces (inspect_start first) pieces) ≡ accepted_line (length (entries_for sheet text))
  -- of any maker's log, in whatever pieces its bytes come: where the program ends with 0, its records show what those of an accepted log show, of its own plan. `AllBytes` and the length hold of any slice that is lent
  pub shows : (bs head : List ℕ) (rest : List (List ℕ))
      → AllBytes bs → length bs < 2 ^ 64 → ComesIn bs head rest
      → is_accepted (inspect_pieces (inspect_start head) rest) ≡ true
      → Shows (read_log bs).set (read_log bs).alloc (entries_in bs)
