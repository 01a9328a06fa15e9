-- `find_kept` is right because a version that is found lies inside the store, and one that is refused has no byte.
use Rattle.command_versions.proofs.FoundLaws.{found_fits}
use Rattle.command_versions.proofs.KeptLaws.{kept_refused, kept_found}
use borrow.Author.Rules.{rules}
use Rattle.command_versions.proofs.find_kept.Goals as goal

pub returns-then-found-ne-ACCEPTED : goal.returns-then-found-ne-ACCEPTED
returns-then-found-ne-ACCEPTED c =
    kept_refused _ _ _ _ c.version_asked-version.ensures c.find_version-found.ensures c.if-found-ne-ACCEPTED.true

pub overflow_add-end : goal.overflow_add-end
overflow_add-end c =
    let inside = found_fits _ _ _ c.find_version-found.ensures in
    search rules

pub returns : goal.returns
returns c =
    kept_found _ _ _ _ c.version_asked-version.ensures c.find_version-found.ensures c.if-found-ne-ACCEPTED.false
