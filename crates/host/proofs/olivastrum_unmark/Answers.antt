-- `olivastrum_unmark` is right because it is the taking off of the layer below, and a refused call gives the ring back.
use Rattle.std.proofs.Common.{◌∙◌}
use Rattle.host_rules.proofs.Promised.{promised}
use Rattle.host.proofs.olivastrum_unmark.Goals as goal

pub returns : goal.returns
returns c =
    let h = c.unmark_on.ensures in
    record {
      ring = h.ring;
      answered = h.answered;
      refused = λ n. h.ring ∙ (promised.unmark c.args.ring.now c.args.station).refused (λ e. n (h.answered ∙ e));
    }
