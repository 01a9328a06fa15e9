-- `put_furthers` is right because each turn lays one more field behind those laid.
use Rattle.sheets.proofs.WritingLaws.{FurtherLaid}
use Rattle.sheets.proofs.writing.put_furthers.Given as goal

abbrev pub invariant-loop-tag : goal.invariant-loop-tag
invariant-loop-tag l =
    FurtherLaid l.initial.out l.out l.h l.at l.tag-index
