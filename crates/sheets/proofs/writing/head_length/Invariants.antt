-- `head_length` is right because it adds the lengths of the fields behind TTRT, one after another.
use mathlib.Core.Path.{◌≡◌}
use Rattle.sheets.specs.Layout.{length_up_to}
use Rattle.sheets.proofs.writing.head_length.Given as goal

abbrev pub invariant-loop-tag : goal.invariant-loop-tag
invariant-loop-tag l =
    l.sum ≡ length_up_to l.h l.tag-index
