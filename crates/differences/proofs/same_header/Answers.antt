-- `same_header` is right because it compares the numbers of the four tags.
use mathlib.Core.Path.{sym}
use Rattle.differences.proofs.NoneLaws.{none_header}
use Rattle.differences.proofs.same_header.Goals as goal

pub returns : goal.returns
returns c =
    sym (none_header _ _)
