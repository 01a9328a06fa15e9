-- What is promised of a text that is watched beside the contracts; `proofs/Promised.antt` proves it.
use Rattle.std.specs.Prelude.{ℕ, ◌<◌, ◌≡◌, true, false, Some, List, ◌++◌, ◌≢◌}
use Rattle.line_reader.specs.declared.Scan.{Scan}
use Rattle.command_compose.specs.Compose.{draft_of}
use Rattle.command_compose.specs.Sent.{end_answer}
use Rattle.text_faults.specs.declared.Watch.{Watch}
use Rattle.text_faults.specs.Lines.{least_of, begins}
use Rattle.text_faults.specs.Watching.{watch_after, watch_of}
use Rattle.text_faults.specs.Cases.{Cases}

-- what was read of a line begins one, and a number is missing
pub record TooFew (s : Scan) : Type 0 where
  pub begun : begins s ≡ true
  pub missing : s.count < least_of s.word

pub record Promised : Type 0 where
  -- a text may be read in pieces of any length
  pub pieces : (w : Watch) (first rest : List ℕ) → watch_after w (first ++ rest) ≡ watch_after (watch_after w first) rest
  -- the line that is named is the one that `compose` names as the first that cannot be read
  pub same_line : (text : List ℕ) → (watch_of text).unread ≡ (draft_of text).unread
  -- where no word of it is at fault, it ends too early: so what was expected is a number more
  pub too_few : (text : List ℕ) (line : ℕ)
      → (watch_of text).unread ≡ Some line → (watch_of text).found.stuck ≡ false → TooFew (watch_of text).scan
  -- where `compose` refuses a text with 4, a line with a number out of its range is named
  pub out_named : (text out : List ℕ) → (end_answer (draft_of text) out).number ≡ 4 → (watch_of text).out ≢ 0
  -- cases that a person can check by hand
  pub cases : Cases
