-- `has_word` is right because `==` compares two words as the definition does.
use Rattle.std.proofs.Common.{rules}
use Rattle.commands.proofs.WordLaws.{same_by_eq}
use Rattle.commands.proofs.has_word.Goals as goal

pub returns : goal.returns
returns c =
    search (rules, same_by_eq)
