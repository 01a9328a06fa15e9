-- What is promised of a call on a lent ring or a lent inspection; `proofs/Promised.antt` proves it, and `host` stands on it.
use Rattle.rings.specs.Steps.{Ask, visited}
use Rattle.units.specs.declared.Station.{Station}
use Rattle.rings.specs.HandingIn.{handed_in}
use Rattle.rings.specs.Marking.{marked, unmarked}
use Rattle.rings.specs.declared.Ring.{Ring}
use Rattle.rings.specs.declared.Message.{Message}
use Rattle.inspection.specs.Kept.{recorded, answered}
use Rattle.inspection.specs.declared.LogEntry.{LogEntry}
use Rattle.inspection.specs.declared.KeptInspection.{KeptInspection}
use Rattle.host_rules.specs.Lent.{VisitLent, HandInLent, MarkLent, UnmarkLent, RecordLent}

pub record Promised : Type 0 where
  -- the ring and the answer of a visit by value are what the host finds behind a visit at its ring
  pub visit : (ring : Ring) (ask : Ask) → VisitLent ring ask (visited ring ask).ring (visited ring ask).answer
  -- and those of a handing in by value are what it finds behind a handing in
  pub hand_in : (ring : Ring) (message : Message)
      → HandInLent ring message (handed_in ring message).ring (handed_in ring message).number
  -- those of a marking by value are what it finds behind a marking
  pub mark : (ring : Ring) (station : Station)
      → MarkLent ring station (marked ring station).ring (marked ring station).answer
  -- and those of taking the mark off are what it finds behind that
  pub unmark : (ring : Ring) (station : Station)
      → UnmarkLent ring station (unmarked ring station).ring (unmarked ring station).number
  -- the inspection and the answer of a record by value are what it finds behind a record at its inspection
  pub inspect : (kept : KeptInspection) (told : LogEntry)
      → RecordLent kept told (recorded kept told) (answered kept told)
