-- `judge_fields` is right because it judges what the fields hold.
use mathlib.Core.Path.{ap, ◌∙◌}
use Rattle.sets.specs.declared.Set.{Set}
use Rattle.plans.specs.Planned.{judged_plan}
use Rattle.sheets.specs.Reading.{set_of}
use Rattle.sheets.proofs.reading.judge_fields.Goals as goal

pub read_columns-requires : goal.read_columns-requires
read_columns-requires c =
    (c.requires, (c.blank_set-set.ensures, c.blank_alloc-alloc.ensures))

pub returns : goal.returns
returns c =
    let read = c.read_columns.ensures in
    c.judge_plan_lent.ensures
    ∙ ap (λ (t : Set). judged_plan t c.read_columns.new.a) read.set
    ∙ ap (judged_plan (set_of c.args.bs.now c.args.passed)) read.alloc
