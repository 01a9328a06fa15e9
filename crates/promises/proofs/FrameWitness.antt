-- The runs are computed, the frames one by one.
use mathlib.Core.Path.{refl}
use Rattle.promises.specs.History.{async_of}
use Rattle.promises.specs.FrameWitness.{FramesHappen}
use Rattle.promises.proofs.Computed.{running}

pub frames_happen : FramesHappen
unfolding running async_of
frames_happen =
    record {
      plan = refl;
      spare = refl;
      judged = refl;
      records = refl;
      window = refl;
      long = refl;
      none = refl;
      older_judged = refl;
      older_not_planned = refl;
      older_not_opened = refl;
      older_spare = refl;
      older_records = refl;
    }
