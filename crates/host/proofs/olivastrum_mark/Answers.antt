-- `olivastrum_mark` is right because it is the marking of the layer below, and a refused one gives the ring back.
use Rattle.std.proofs.Common.{ap, ◌∙◌}
use Rattle.rings.specs.declared.MarkAnswer.{MarkAnswer}
use Rattle.host_rules.proofs.Promised.{promised}
use Rattle.host.proofs.olivastrum_mark.Goals as goal

pub returns : goal.returns
returns c =
    let h = c.mark_on.ensures in
    record {
      ring = h.ring;
      answered = h.answered;
      refused = λ n. h.ring ∙ (promised.mark c.args.ring.now c.args.station).refused (λ e. n (ap (λ (a : MarkAnswer). a.number) h.answered ∙ e));
    }
