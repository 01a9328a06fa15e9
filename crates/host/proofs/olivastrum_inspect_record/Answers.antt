-- `olivastrum_inspect_record` is right because the inspection in the host's memory is changed by the record on its arrays; a refused record leaves them.
use Rattle.std.proofs.Common.{◌≡◌, ◌≢◌, ap, sym, ◌∙◌}
use Rattle.inspection.specs.Kept.{recorded, answered}
use Rattle.inspection.specs.declared.RecordFinding.{RecordFinding}
use Rattle.host_rules.proofs.Promised.{promised}
use Rattle.host.proofs.Refused.{inspection_stays}
use Rattle.host.proofs.olivastrum_inspect_record.Goals as goal

pub returns-then-next-ne0 : goal.returns-then-next-ne0
returns-then-next-ne0 c =
    let i = c.args.kept.now in
    let h = c.inspect_on-next.ensures in
    let refused : (answered i c.args.entry).number ≢ 0 = λ e. c.if-next-ne0.true (h.number ∙ ap (λ (a : RecordFinding). a.number) h.answered ∙ e) in
    let back : recorded i c.args.entry ≡ i = (promised.inspect i c.args.entry).refused refused in
    let same = inspection_stays i _ (h.kept ∙ back) in
    record { kept = same ∙ sym back; answered = h.answered; refused = λ _. same }
