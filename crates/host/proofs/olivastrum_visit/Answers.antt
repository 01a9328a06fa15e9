-- `olivastrum_visit` is right because it is the visit of the layer below, and a refused visit gives the ring back.
use Rattle.std.proofs.Common.{ap, ◌∙◌}
use Rattle.rings.specs.declared.VisitAnswer.{VisitAnswer}
use Rattle.host_rules.proofs.Promised.{promised}
use Rattle.host.proofs.olivastrum_visit.Goals as goal

pub returns : goal.returns
returns c =
    let h = c.visit_on.ensures in
    record {
      ring = h.ring;
      answered = h.answered;
      refused = λ n. h.ring ∙ (promised.visit c.args.ring.now c.args.ask).refused (λ e. n (ap (λ (a : VisitAnswer). a.number) h.answered ∙ e));
    }
