-- `begin` is right because the plan's own w and S are lent.
use Rattle.std.proofs.Common.{rules}
use Rattle.inspection.proofs.begin.Goals as goal

pub returns : goal.returns
returns c =
    let t = c.args.set in
    c.begin_lent.ensures (search rules) (search rules) t.head t.c t.d t.p
