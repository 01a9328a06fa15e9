-- The record of a visit of the published steps, as our recorder writes it down.
use Rattle.std.specs.Prelude.{ℕ, ◌^◌, ◌≤◌, ◌<◌, ◌≡◌}
use Rattle.log_records.specs.declared.VisitEntry.{VisitEntry}
use Rattle.rings.specs.Steps.{Ask, LengthNamed, async_sent, most_sent, record_of}
use Rattle.rings.specs.declared.Ring.{Ring}
use Rattle.logs.specs.Writing.{visit_of}

-- v is what is written of a visit of ring r, by a counter that showed this number at clock 0
pub record WrittenVisit (counter : ℕ) (r : Ring) (v : VisitEntry) : Type 0 where
  -- it sends some synchronous amount up to S, none where the station is marked
  pub sync : ℕ
  pub within : sync ≤ most_sent r
  -- and what some request in frames gives
  pub ask : Ask
  pub frames : ask.frames < 2 ^ 32
  pub named : LengthNamed r ask
  pub written : v ≡ visit_of counter 0 (record_of r sync (async_sent r ask))
