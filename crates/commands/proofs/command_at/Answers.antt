-- `command_at` is right because it reads the table at that place.
use Rattle.std.proofs.Common.{rules, ◌≡◌, refl, sym, ◌∙◌, ℕ, List, length, Bor}
use Rattle.std.proofs.Common.{Option, None, Some}
use Rattle.std.specs.List.{slice_get}
use Rattle.std.specs.Option.{option_copied}
use Rattle.std.specs.Slice.{IsItemAt}
use Rattle.std.proofs.lemmas.Option.{slice_get_past, slice_get_read}
use Rattle.commands.specs.Table.{commands}
use Rattle.commands.proofs.command_at.Goals as goal

got : {X : Type 0} (xs : List X) (i : ℕ) (r : Option (Bor X)) → IsItemAt xs i r → option_copied r ≡ slice_get xs i
got xs i None h = sym (slice_get_past xs i (search rules))
got xs i (Some x) h = sym (slice_get_read xs (length xs) i x.now refl (search rules) (search rules))

pub returns : goal.returns
returns c = c.copied.ensures ∙ got commands c.args.place c.get.result c.get.ensures.lookup
