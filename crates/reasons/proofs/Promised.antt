-- What `specs/Promised.antt` promises.
use mathlib.Core.Path.{ap, ◌∙◌}
use Rattle.reasons.specs.Promised.{Promised}
use Rattle.units.proofs.JudgingLaws.{decides_not}
use Rattle.units.specs.Places.{at}
use Rattle.units.proofs.PlaceLaws.{zero_at}
use Rattle.reasons.proofs.Cases.{cases_hold}
use Rattle.reasons.proofs.GroundLaws.{shown}
use Rattle.reasons.proofs.RoomLaws.{rooms_none, decides_fits, largest}
use Rattle.reasons.specs.declared.Rooms.{Rooms}
use Rattle.reasons.proofs.PlanningLaws.{decides_plannable}
use Rattle.reasons.proofs.ShortageLaws.{shortage_none, exact, six, plan, no_better, alone, grid_cause}

pub promised : Promised
promised =
    record {
      six = six;
      plan = plan;
      exact = exact;
      no_better = no_better;
      alone = alone;
      grid_cause = grid_cause;
      not_planned = λ t n. shortage_none t ((decides_not _ _ (decides_plannable t)).1 n);
      grounds = shown;
      rooms = largest;
      no_rooms = λ t n i. ap (λ (r : Rooms). at r.c i) (rooms_none t ((decides_not _ _ (decides_fits t)).1 n)) ∙ zero_at i;
      cases = cases_hold;
    }
