-- A call on a lent ring or a lent inspection: what the host's memory holds of it when the call ends, and what is answered. Both are what the form by value gives.
use Rattle.std.specs.Prelude.{ℕ, ◌≡◌, ◌≢◌}
use Rattle.rings.specs.Steps
use Rattle.units.specs.declared.Station.{Station}
use Rattle.rings.specs.HandingIn
use Rattle.rings.specs.Marking
use Rattle.rings.specs.declared.Ring.{Ring}
use Rattle.rings.specs.declared.Message.{Message}
use Rattle.rings.specs.declared.VisitAnswer.{VisitAnswer}
use Rattle.rings.specs.declared.MarkAnswer.{MarkAnswer}
use Rattle.inspection.specs.Kept
use Rattle.inspection.specs.declared.LogEntry.{LogEntry}
use Rattle.inspection.specs.declared.KeptInspection.{KeptInspection}
use Rattle.inspection.specs.declared.RecordFinding.{RecordFinding}

-- a visit at the lent ring, with these asynchronous frames asked for
pub record VisitLent (entry : Ring) (ask : Steps.Ask) (exit : Ring) (answer : VisitAnswer) : Type 0 where
  -- the ring in the host's memory is the ring after the visit
  pub ring : exit ≡ (Steps.visited entry ask).ring
  -- the number and the record are the visit's
  pub answered : answer ≡ (Steps.visited entry ask).answer
  -- a refused visit leaves each field of the ring as it was
  pub refused : answer.number ≢ 0 → exit ≡ entry

-- a message handed in at the lent ring
pub record HandInLent (entry : Ring) (message : Message) (exit : Ring) (number : ℕ) : Type 0 where
  -- the ring in the host's memory is the ring after the handing in
  pub ring : exit ≡ (HandingIn.handed_in entry message).ring
  -- the number is that of the handing in
  pub answered : number ≡ (HandingIn.handed_in entry message).number
  -- a refused handing in leaves each field of the ring as it was
  pub refused : number ≢ 0 → exit ≡ entry

-- a station of the lent ring switched through
pub record MarkLent (entry : Ring) (station : Station) (exit : Ring) (told : MarkAnswer) : Type 0 where
  -- the ring in the host's memory is the ring after the marking
  pub ring : exit ≡ (Marking.marked entry station).ring
  -- the number and what was withdrawn are the marking's
  pub answered : told ≡ (Marking.marked entry station).answer
  -- a refused marking leaves each field of the ring as it was
  pub refused : told.number ≢ 0 → exit ≡ entry

-- a station of the lent ring switched in again
pub record UnmarkLent (entry : Ring) (station : Station) (exit : Ring) (said : ℕ) : Type 0 where
  -- the ring in the host's memory is the ring without the mark
  pub ring : exit ≡ (Marking.unmarked entry station).ring
  -- the number is that of taking the mark off
  pub answered : said ≡ (Marking.unmarked entry station).number
  -- a refused call leaves each field of the ring as it was
  pub refused : said ≢ 0 → exit ≡ entry

-- a record inspected, on the inspection that the host keeps and lends
pub record RecordLent (entry : KeptInspection) (told : LogEntry) (exit : KeptInspection) (finding : RecordFinding) : Type 0 where
  -- the inspection in the host's memory is the one behind the record
  pub kept : exit ≡ Kept.recorded entry told
  -- the number, the record's number, the rule and what was compared are the record's
  pub answered : finding ≡ Kept.answered entry told
  -- a refused record leaves each field of the inspection as it was
  pub refused : finding.number ≢ 0 → exit ≡ entry
