-- `read_fields` is right because it hands out what the fields hold with its judgement, and goes by the test of the definition.
use mathlib.Core.Path.{ap, ◌∙◌}
use Rattle.sheets.specs.declared.ReadPlan.{ReadPlan}
use Rattle.sheets.proofs.ReadingLaws.{answer_blank, answer_whole}
use Rattle.sheets.proofs.reading.read_fields.Goals as goal

pub read_columns-requires : goal.read_columns-requires
read_columns-requires c =
    let blank = c.refused-read.ensures in
    (c.requires, (ap (λ (r : ReadPlan). r.set) blank, ap (λ (r : ReadPlan). r.alloc) blank))

pub returns-then-not-whole : goal.returns-then-not-whole
returns-then-not-whole c =
    let args = c.args in
    let read = c.read_columns.ensures in
    c.refused.ensures ∙ answer_blank args.kept args.plan _ _ (rw (read.set, read.alloc) at (c.answer_number-number.ensures ∙ c.judge_sheet.ensures)) c.if-not-whole.true

pub returns : goal.returns
returns c =
    let args = c.args in
    let read = c.read_columns.ensures in
    rw (read.set, read.alloc) (answer_whole args.kept args.plan _ _ (rw (read.set, read.alloc) at (c.answer_number-number.ensures ∙ c.judge_sheet.ensures)) c.if-not-whole.false)
