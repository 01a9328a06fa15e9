-- `inspect_records` is right because the plan's own w and S are lent.
use Rattle.inspection.proofs.records.inspect_records.Goals as goal

pub returns : goal.returns
returns c =
    let t = c.args.set in
    c.inspect_lent.ensures.all t.c t.d t.p
