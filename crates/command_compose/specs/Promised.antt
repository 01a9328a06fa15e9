-- What is promised of `compose` beside the contracts; `proofs/Promised.antt` proves it. What it makes of texts and logs is promised in `sheet_text_rules`.
use Rattle.std.specs.Prelude.{ℕ, ◌≡◌, List, [], ◌∷◌, ◌++◌}
use Rattle.text.specs.Text.{newline}
use Rattle.command_compose.specs.Compose.{on_next_line, compose_after, draft_of}
use Rattle.command_compose.specs.Sent.{sent_over}
use Rattle.command_compose.specs.declared.Composing.{Composing}

pub record Promised : Type 0 where
  -- a text may be read in pieces of any length
  pub compose_pieces : (c : Composing) (first rest : List ℕ)
      → compose_after c (first ++ rest) ≡ compose_after (compose_after c first) rest
  -- and it may end with a newline or lack it: the same draft, but for the number of the next line
  pub last_newline : (text : List ℕ) → draft_of (text ++ (newline ∷ [])) ≡ on_next_line (draft_of text)
  -- what goes out while it is read does not depend on the pieces either
  pub sent_pieces : (c : Composing) (first rest : List ℕ)
      → sent_over c (first ++ rest) ≡ sent_over c first ++ sent_over (compose_after c first) rest
