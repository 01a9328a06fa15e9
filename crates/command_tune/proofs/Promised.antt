-- What `specs/Promised.antt` promises.
use Rattle.command_tune.specs.Promised.{Promised}
use Rattle.command_tune.specs.Tune.{requested, tune_number}
use Rattle.command_tune.proofs.TuneLaws.{accepted_range, whole_with, ends_with, shown, status, refused, plan_line_lem}

pub promised : Promised
promised =
    record {
      whole = λ bs from to i e. whole_with (requested bs) from to (tune_number bs from to) (accepted_range bs from to) i e;
      shown = shown;
      status = status;
      refused = refused;
      plan_line_lem = plan_line_lem;
      ends = λ bs from to. ends_with (requested bs) from to (tune_number bs from to) (accepted_range bs from to);
    }
