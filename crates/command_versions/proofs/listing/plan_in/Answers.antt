-- `plan_in` is right because a plan that is found lies inside the store.
use mathlib.Core.Path.{◌∙◌}
use native.Mathlib.Omega.{arith}
use Rattle.command_versions.proofs.FoundLaws.{found_fits, plan_there}
use borrow.Author.Rules.{rules}
use Rattle.command_versions.proofs.listing.plan_in.Goals as goal

pub overflow_add-end : goal.overflow_add-end
overflow_add-end c =
    let inside = found_fits _ _ _ c.find_version-found.ensures in
    search rules

pub read_from-requires : goal.read_from-requires
read_from-requires c =
    (omega arith, found_fits _ _ _ c.find_version-found.ensures)

pub returns : goal.returns
returns c =
    c.read_from.ensures ∙ plan_there _ _ _ c.find_version-found.ensures
