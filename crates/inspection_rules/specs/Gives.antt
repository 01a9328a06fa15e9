-- Which records a run of the published steps could give. Nothing of the inspection stands here: the ring is opened, moves and is marked as in `rings`, by any synchronous amount up to S and by what some request in frames sends.
use Rattle.std.specs.Prelude.{ℕ, zero, suc, ◌+◌, ◌%◌, ◌^◌, ◌≤◌, ◌<◌, ◌≡◌, List, [], ◌∷◌}
use Rattle.sets.specs.declared.Set.{Set}
use Rattle.plans.specs.declared.Alloc.{Alloc}
use Rattle.log_records.specs.declared.VisitEntry.{VisitEntry}
use Rattle.log_records.specs.declared.MarkEntry.{MarkEntry}
use Rattle.log_records.specs.declared.Entry.{Entry}
use Rattle.log_records.specs.declared.Entry.TheVariants.{Visit, Mark}
use Rattle.rings.specs.State.{count}
use Rattle.rings.specs.Timers.{limit}
use Rattle.rings.specs.Opening.{opened_ring}
use Rattle.rings.specs.Steps.{Ask, LengthNamed, async_sent, most_sent, moved}
use Rattle.rings.specs.Marking.{marked_ring, switched_in}
use Rattle.rings.specs.declared.Ring.{Ring}

-- some request in frames sends this amount at the next visit of ring r: so many frames, a 32-bit number, of one length from 1 to F
pub record Asked (r : Ring) (amount : ℕ) : Type 0 where
  pub ask : Ask
  pub frames : ask.frames < 2 ^ 32
  pub named : LengthNamed r ask
  pub sent : amount ≡ async_sent r ask

-- ---- what the next visit of ring r can say; the rules of an inspection have these names

-- the station that has the token
abbrev pub StationRule : Ring → VisitEntry → Type 0
StationRule r v = v.station ≡ r.token

-- the limit of step 1, which is 0 where the station is marked
abbrev pub LimitRule : Ring → VisitEntry → Type 0
LimitRule r v = v.limit ≡ limit r

-- any synchronous amount up to S, and none where the station is marked
abbrev pub SynchronousRule : Ring → VisitEntry → Type 0
SynchronousRule r v = v.synchronous ≤ most_sent r

-- what some request in frames sends
abbrev pub AsynchronousRule : Ring → VisitEntry → Type 0
AsynchronousRule r v = Asked r v.asynchronous

-- the record could be that of the next visit of ring r, on a recorder whose counter showed this number at clock 0
pub record CouldVisit (counter : ℕ) (r : Ring) (v : VisitEntry) : Type 0 where
  pub station : StationRule r v
  -- the counter runs with the clock, past its top to 0
  pub start : v.start ≡ (counter + r.clock) % 2 ^ 32
  pub offered : LimitRule r v
  pub synchronous : SynchronousRule r v
  pub asynchronous : AsynchronousRule r v

-- ---- what a mark can say: one of the ring's stations, and 1 or 0
abbrev pub MarkRule : Ring → MarkEntry → Type 0
MarkRule r m = (m.station < count r) × (m.mark < 2)

-- ---- a record of either kind

-- it could be the next one of ring r
abbrev pub Could : ℕ → Ring → Entry → Type 0
Could counter r (Visit v) = CouldVisit counter r v
Could counter r (Mark m) = MarkRule r m

-- the ring in which a station is in again (0) or switched through
unfoldable pub switched : Ring → ℕ → ℕ → Ring
switched r i zero = switched_in r i
switched r i (suc k) = marked_ring r i

-- the ring that it leads to: a visit has sent what it says; a mark changes its station's mark
abbrev pub ring_with : Ring → Entry → Ring
ring_with r (Visit v) = moved r v.synchronous v.asynchronous
ring_with r (Mark m) = switched r m.station m.mark

-- ---- one record after another

-- the ring that these lead to
unfoldable pub ring_after : Ring → List Entry → Ring
ring_after r [] = r
ring_after r (e ∷ es) = ring_after (ring_with r e) es

-- the records could be the next ones of ring r
abbrev pub GivesFrom : ℕ → Ring → List Entry → Type 0
GivesFrom counter r [] = Unit {0}
GivesFrom counter r (e ∷ es) = Could counter r e × GivesFrom counter (ring_with r e) es

-- a run from the opened ring could give these records, on a recorder whose counter began anywhere
abbrev pub Gives : Set → Alloc → List Entry → Type 0
Gives t a es = (counter : ℕ) × GivesFrom counter (opened_ring t a) es
