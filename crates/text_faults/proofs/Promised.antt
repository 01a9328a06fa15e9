-- What `specs/Promised.antt` promises.
use mathlib.Core.Path.{ap}
use Rattle.std.specs.Prelude.{is_some}
use Rattle.text_faults.specs.Promised.{Promised}
use Rattle.text_faults.proofs.WatchLaws as laws
use Rattle.text_faults.proofs.AlikeLaws.{alike}
use Rattle.text_faults.proofs.RangeLaws.{out_named}
use Rattle.text_faults.proofs.Cases.{cases_hold}

pub promised : Promised
promised =
    record {
      pieces = laws.pieces;
      same_line = λ text. (alike text).unread;
      too_few = λ text line named. (alike text).early (ap is_some named);
      out_named = out_named;
      cases = cases_hold;
    }
