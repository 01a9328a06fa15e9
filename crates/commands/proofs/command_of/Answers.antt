-- `command_of` is right because it looks for the first command whose word it is.
use Rattle.std.proofs.Common.{◌∙◌, sym, rules, tests}
use Rattle.std.proofs.lemmas.Iterator.{YieldsList-from_slice}
use Rattle.std.proofs.lemmas.Iterator.Adapters.{option_map_id}
use Rattle.std.proofs.lemmas.Iterator.Consumers.{YieldsList-from_copied}
use Rattle.std.proofs.lemmas.Iterator.Search.{find_from_yields_List}
use Rattle.commands.specs.Table.{commands, word_of}
use Rattle.commands.specs.Words.{same_bytes}
use Rattle.commands.proofs.command_of.Goals as goal

pub returns : goal.returns
returns c =
    let word = c.args.word.now in
    sym (option_map_id c.find.result)
    ∙ find_from_yields_List (λ d. same_bytes word (word_of d)) _ _ c.find.result c.find.ensures.ran (YieldsList-from_copied (YieldsList-from_slice commands cc)) (λ x b q k. search (rules, tests))
