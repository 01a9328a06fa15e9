-- `inspect_log` is right because it is refused as its reading is, and else inspects the records that are handed out.
use Rattle.std.proofs.Common.{◌≡◌, length, ◌∙◌, rules}
use Rattle.inspection.proofs.FindingLaws.{refused_in, found_in_lem}
use Rattle.inspection.proofs.inspect_log.Goals as goal

pub returns-then-read-ne-ACCEPTED : goal.returns-then-read-ne-ACCEPTED
returns-then-read-ne-ACCEPTED c =
    c.refused.ensures ∙ refused_in _ _ c.read_log-read.ensures c.if-read-ne-ACCEPTED.true

pub returns : goal.returns
returns c =
    let walks : length c.read_log-read.result.set.w ≡ 128 = search rules in
    let shares : length c.read_log-read.result.alloc.s ≡ 128 = search rules in
    let t = c.read_log-read.result.set in
    c.found.ensures
    ∙ found_in_lem _ _ c.read_log-read.ensures _ _ c.if-read-ne-ACCEPTED.false (c.begin_lent-begun.ensures walks shares t.head t.c t.d t.p)
    (c.inspect_lent-state.ensures.all t.c t.d t.p)
