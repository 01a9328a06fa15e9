-- What is promised of the commands beside the contracts; `proofs/Promised.antt` proves it.
use Rattle.std.specs.Prelude.{ℕ, ◌+◌, ◌≤◌, ◌<◌, ◌≡◌, List, [], None, Some, ◌⊎◌, ◌≢◌}
use Rattle.commands.specs.Table.{word_of, least_of, most_of}
use Rattle.commands.specs.Asked.{command_of, asked_for}
use Rattle.commands.specs.declared.Command.{Command}
use Rattle.commands.specs.declared.Asked.TheVariants.{Do, Miscounted}

pub record Promised : Type 0 where
  -- a command is found by its word
  pub found : (c : Command) → command_of (word_of c) ≡ Some c
  -- what is found by a word has that word
  pub own : (word : List ℕ) (c : Command) → command_of word ≡ Some c → word_of c ≡ word
  -- no two commands share a word
  pub apart : (c d : Command) → word_of c ≡ word_of d → c ≡ d
  -- the empty word is no command, and no command has it
  pub empty : command_of [] ≡ None
  pub worded : (c : Command) → word_of c ≢ []
  -- a command is done if as many words follow it as it takes
  pub done : (c : Command) (more : ℕ) → least_of c ≤ more → more ≤ most_of c → asked_for (word_of c) (more + 1) ≡ Some (Do c)
  -- a word too few or too many is never passed over
  pub miscounted : (c : Command) (more : ℕ) → (more < least_of c) ⊎ (most_of c < more) → asked_for (word_of c) (more + 1) ≡ Some (Miscounted c)
  -- a word that is no command asks for nothing, whatever follows it
  pub nothing : (word : List ℕ) (more : ℕ) → command_of word ≡ None → asked_for word (more + 1) ≡ None
