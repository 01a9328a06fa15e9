-- Demand 3, as it reads for the plan's mode (requests No. 1 and 7) and its longest frame (No. 4), and request No. 3.
-- It is promised of every run, for every set and allocation that meet the rules, whatever calls are made, accepted and refused ones, and whatever is asked for; `proofs/Promised.antt` proves it.
use Rattle.std.specs.Prelude.{ℕ, ◌≤◌, ◌≡◌, List, [], ◌↔◌}
use Rattle.units.specs.Places.{at}
use Rattle.units.specs.declared.Station.{Station}
use Rattle.sets.specs.declared.Set.{Set}
use Rattle.plans.specs.Rules.{Retired, spare_time}
use Rattle.plans.specs.Planned.{judged_plan, planned}
use Rattle.plans.specs.declared.Alloc.{Alloc}
use Rattle.sheets.specs.Reading.{read_request, read_plan}
use Rattle.rings.specs.State.{Shaped}
use Rattle.rings.specs.Opening.{opening}
use Rattle.rings.specs.Steps.{Ask, visited}
use Rattle.rings.specs.HandingIn.{handed_in}
use Rattle.rings.specs.Marking.{marked, unmarked}
use Rattle.rings.specs.declared.Ring.{Ring}
use Rattle.rings.specs.declared.Message.{Message}
use Rattle.ring_rules.specs.Promised.{Fresh}
use Rattle.promises.specs.Run.{run_of}
use Rattle.promises.specs.Facts.{VisitFacts, Accepting, MarkFacts, UnmarkFacts}
use Rattle.promises.specs.Valid.{Timely, Valid}
use Rattle.promises.specs.Bulk.{BulkServed}
use Rattle.promises.specs.Witness.{Happens}
use Rattle.promises.specs.FddiWitness.{FddiHappens}
use Rattle.promises.specs.BulkWitness.{BulkWaits}
use Rattle.promises.specs.FrameWitness.{FramesHappen}
use Rattle.promises.specs.EarlierWitness.{EarlierHappens}
use Rattle.promises.specs.GridWitness.{GridHappens}
use Rattle.promises.specs.MarkWitness.{MarksHappen}

pub record Promised : Type 0 where
  -- whatever set and allocation meet the rules, they are valid
  pub judged : (t : Set) (a : Alloc) → judged_plan t a ≡ 0 → Valid t a
  -- in every mode their runs begin with the ring that opening gives or, of an FDDI plan, used to give
  pub begins : (t : Set) (a : Alloc) → judged_plan t a ≡ 0 → Fresh t a (run_of t a []).ring
  -- these are the ones that opening accepts, but for FDDI's, which it accepts no more; an FDDI ring that is open runs on
  pub opens : (t : Set) (a : Alloc) → ((opening t a).number ≡ 0) ↔ ((judged_plan t a ≡ 0) × ¬ Retired t)
  -- and the ring that it hands out is the one with which the runs begin
  pub opened : (t : Set) (a : Alloc) → (opening t a).number ≡ 0 → (opening t a).ring ≡ (run_of t a []).ring
  -- a plan that planning made meets the rules, and so it is valid
  pub plan_judged : (t : Set) → (planned t).number ≡ 0 → judged_plan t (planned t).alloc ≡ 0
  pub plan_valid : (t : Set) → (planned t).number ≡ 0 → Valid t (planned t).alloc
  -- a plan sheet that reading accepted meets the rules, and so what it holds is valid
  pub sheet_judged : (bytes : List ℕ)
      → (read_plan bytes).number ≡ 0 → judged_plan (read_plan bytes).set (read_plan bytes).alloc ≡ 0
  pub sheet_valid : (bytes : List ℕ) → (read_plan bytes).number ≡ 0 → Valid (read_plan bytes).set (read_plan bytes).alloc
  -- from the bytes of a request sheet to the kept deadlines: where reading and then planning accept, which planning does of the two timely-token editions alone, the plan is valid
  pub request_valid : (bytes : List ℕ)
      → (read_request bytes).number ≡ 0 → (planned (read_request bytes).set).number ≡ 0
      → Valid (read_request bytes).set (planned (read_request bytes).set).alloc
  -- request No. 3: on a timely-token ring of the 2003 edition, where A* is at least 1, no station waits long for asynchronous time; no premise on F
  pub bulk : (t : Set) (a : Alloc) → judged_plan t a ≡ 0 → Timely t → 1 ≤ spare_time t (at a.s) → BulkServed t a
  -- none of it is kept by never being called upon: there is a run in which all that is promised happens
  pub happens : Happens
  -- and one of an FDDI ring, in which the token is as late as it can be
  pub fddi_happens : FddiHappens
  -- nor is the promise of bulk data larger than need be: there is a run in which a station waits all but the last of those visits
  pub bulk_waits : BulkWaits
  -- and there are runs of both kinds of ring in which a frame runs on past the limit by all of F − 1
  pub frames_happen : FramesHappen
  -- and there are runs of the 2002 edition
  pub earlier_happens : EarlierHappens
  -- and there is a run on a grid above 1
  pub grid_happens : GridHappens
  -- what an accepted visit, handing in, marking and taking off of a mark do, as facts that add up: all that is promised of runs follows from these
  pub visit_facts : (r : Ring) (ask : Ask)
      → Shaped r → (visited r ask).answer.number ≡ 0
      → VisitFacts r (visited r ask).ring (visited r ask).answer.«record»
  pub message_facts : (r : Ring) (m : Message)
      → Shaped r → (handed_in r m).number ≡ 0 → Accepting r.set r (handed_in r m).ring m
  pub mark_facts : (r : Ring) (p : Station)
      → Shaped r → (marked r p).answer.number ≡ 0 → MarkFacts r (marked r p).ring p.0 (marked r p).answer
  pub unmark_facts : (r : Ring) (p : Station)
      → Shaped r → (unmarked r p).number ≡ 0 → UnmarkFacts r (unmarked r p).ring p.0
  -- and there are runs of each mode in which a station is switched through, and in again
  pub marks_happen : MarksHappen
