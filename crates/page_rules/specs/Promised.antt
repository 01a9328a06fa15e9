-- What is promised of the page of an accepted log, of any maker's recorder; `proofs/Promised.antt` proves it.
use Rattle.std.specs.Prelude.{ℕ, ◌^◌, ◌≤◌, ◌<◌, ◌≡◌, Bool, List, length}
use Rattle.units.specs.Places.{at}
use Rattle.fields.specs.Bytes.{AllBytes}
use Rattle.sheets.specs.declared.ReadPlan.{ReadPlan}
use Rattle.logs.specs.Reading.{read_log, entries_in}
use Rattle.tallies.specs.Tallies.{longest_column, most_column}
use Rattle.tallies.specs.Shown.{moment}
use Rattle.picture_stream.specs.Watching.{watch_all}
use Rattle.command_page.specs.Account.{outcome_of, account_of}
use Rattle.command_page.specs.Did.{did}
use Rattle.command_page.specs.Parts.{stations_of}
use Rattle.command_page.specs.declared.Account.{Account}
use Rattle.command_page.specs.declared.Outcome.TheVariants as outcome

-- of station i no number of the table is above the bound beside it
pub record WithinBounds (x : Account) (i : ℕ) : Type 0 where
  -- the longest time between two of its visits: within how many ticks the token is back
  pub longest : did x longest_column i ≤ x.sums.bound
  -- the most that it sent synchronously in a visit: its S
  pub most : did x most_column i ≤ at x.alloc.s i

pub record Promised : Type 0 where
  -- of any bytes of which the page says that they are an accepted log, with a plan sheet or without one, whose visits took less than 2 ^ 64 ticks. `AllBytes` and the length hold of any slice that is lent
  pub within : (given : Bool) (p : ReadPlan) (bs : List ℕ) → AllBytes bs → length bs < 2 ^ 64
      → outcome_of given p (watch_all bs).inspecting ≡ outcome.Accepted
      → moment (read_log bs).set.w (entries_in bs) < 2 ^ 64
      → (i : ℕ) → i < stations_of (account_of given p (watch_all bs)) → WithinBounds (account_of given p (watch_all bs)) i
