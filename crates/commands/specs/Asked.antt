-- What a caller's words ask for.
use Rattle.std.specs.Prelude.{ℕ, ◌-◌, Bool, cond, ◌&&◌, List, Option, Some, eqb, leb}
use Rattle.std.specs.List.{find}
use Rattle.std.specs.Option.{option_map}
use Rattle.commands.specs.Table.{commands, word_of, least_of, most_of}
use Rattle.commands.specs.Words.{same_bytes}
use Rattle.commands.specs.declared.Command.{Command}
use Rattle.commands.specs.declared.Command.TheVariants.{Plan}
use Rattle.commands.specs.declared.Asked.{Asked}
use Rattle.commands.specs.declared.Asked.TheVariants.{Do, Miscounted}

-- the first of these commands whose word it is, if there is one
abbrev pub whose : List Command → List ℕ → Option Command
whose cs word = find (λ c. same_bytes word (word_of c)) cs

-- the command whose word it is
abbrev pub command_of : List ℕ → Option Command
command_of word = whose commands word

-- so many words may follow the command
abbrev pub takes : Command → ℕ → Bool
takes c more = leb (least_of c) more && leb more (most_of c)

-- the command with so many words behind it
unfoldable pub counted_for : Command → ℕ → Asked
counted_for c more = cond (takes c more) (Do c) (Miscounted c)

-- what so many words ask for, the first of which is this one, if that is a command; no word at all asks for `plan`
unfoldable pub asked_for : List ℕ → ℕ → Option Asked
asked_for word given = cond (eqb given 0) (Some (Do Plan)) (option_map (λ c. counted_for c (given - 1)) (command_of word))
