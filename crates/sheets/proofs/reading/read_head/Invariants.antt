-- `read_head` is right because it looks for each field behind those before it, and puts its number into the header.
use mathlib.Core.Path.{◌≡◌}
use Rattle.sets.proofs.HeaderLaws.{head_so_far}
use Rattle.fields.specs.Header.{further_place}
use Rattle.sheets.specs.Reading.{head_in}
use Rattle.sheets.proofs.reading.read_head.Given as goal

abbrev pub invariant-loop-tag : goal.invariant-loop-tag
invariant-loop-tag l =
    (l.at ≡ further_place l.bs l.tag-index) × (l.head ≡ head_so_far (head_in l.bs) l.tag-index)
