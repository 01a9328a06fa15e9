-- `olivastrum_hand_in` is right because it is the handing in of the layer below, and a refused one gives the ring back.
use Rattle.std.proofs.Common.{◌∙◌}
use Rattle.host_rules.proofs.Promised.{promised}
use Rattle.host.proofs.olivastrum_hand_in.Goals as goal

pub returns : goal.returns
returns c =
    let h = c.hand_in_on.ensures in
    record {
      ring = h.ring;
      answered = h.answered;
      refused = λ n. h.ring ∙ (promised.hand_in c.args.ring.now c.args.message).refused (λ e. n (h.answered ∙ e));
    }
