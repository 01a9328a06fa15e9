-- What a visit looks at of a ring, by its numbers alone: a ring of one station that has them takes part in every definition as the ring itself does.
use Rattle.std.specs.Prelude.{ℕ, ◌≤◌, ◌<◌, ◌^◌, ◌≡◌, cond, List, [], ◌∷◌, pos, set}
use Rattle.units.specs.Numbers.{fddi}
use Rattle.units.specs.Places.{at}
use Rattle.arrays.specs.Held.{raised_held}
use Rattle.arrays.specs.Laps.{ran_on, laps_counted}
use Rattle.sets.specs.declared.Head.{Head}
use Rattle.rings.specs.Lent.{ring_of}
use Rattle.rings.specs.Timers.{Fddi, limit, rise, rise_since, unused_after, token_came}
use Rattle.rings.specs.Steps.{Ask, async_sent, sync_start, sync_sent, completes, finish, margin}
use Rattle.rings.specs.Bounds.{Sendable}
use Rattle.rings.specs.declared.Ring.{Ring}
use Rattle.rings.specs.declared.VisitRecord.{VisitRecord}
use Rattle.rings.specs.declared.Timers.{Timers}
use Rattle.rings.specs.declared.view.View.{View}
use Rattle.rings.specs.declared.steps.Moves.{Moves}

-- the numbers of the station that has the token
abbrev pub view_of : Ring → View
view_of r =
    record {
      head = r.set.head;
      walk = at r.set.w r.token;
      share = at r.alloc.s r.token;
      deadline = at r.set.d r.token;
      trt = at r.trt r.token;
      late = at r.late r.token;
      sent = at r.sent r.token;
      rest = at r.rest r.token;
      arrival = at r.arrival r.token;
      mark = at r.mark r.token;
      clock = r.clock;
      unused = r.unused;
    }

-- the ring of one station that has these numbers
abbrev pub point_of : View → Ring
point_of v =
    ring_of
    (v.walk ∷ []) [] (v.deadline ∷ []) [] (v.share ∷ []) (v.trt ∷ []) (v.late ∷ []) (v.sent ∷ []) (v.rest ∷ [])
    (v.arrival ∷ []) [] (v.mark ∷ []) []
    v.head 1 0 v.clock 0 v.unused

-- the record of a visit at this station that sent these two amounts
abbrev pub record_at : View → ℕ → ℕ → ℕ → VisitRecord
record_at v station sync async =
    record {
      station = record { 0 = station };
      start = record { 0 = v.clock };
      trt = record { 0 = v.trt };
      limit = record { 0 = limit (point_of v) };
      synchronous = record { 0 = sync };
      asynchronous = record { 0 = async };
      finish = record { 0 = cond (completes (point_of v) sync) (finish (point_of v) sync async) 0 };
      margin = cond (completes (point_of v) sync) (margin (point_of v) sync async) (pos 0);
      completed = cond (completes (point_of v) sync) 1 0;
    }

-- what a visit at this station does to the ring's numbers
pub record MovesOf (v : View) (station : ℕ) (ask : Ask) (m : Moves) : Type 0 where
  pub sync : m.sync ≡ sync_sent (point_of v) (async_sent (point_of v) ask)
  pub rise : m.rise ≡ rise (point_of v) m.sync (async_sent (point_of v) ask)
  pub since : m.since ≡ rise_since (point_of v) m.sync (async_sent (point_of v) ask)
  pub start : m.start ≡ sync_start (point_of v) (async_sent (point_of v) ask)
  pub unused_fddi : Fddi (point_of v).set → m.unused ≡ v.unused
  pub unused_timely : ¬ Fddi (point_of v).set → m.unused ≡ unused_after (point_of v) m.sync
  pub told : m.told ≡ record_at v station m.sync (async_sent (point_of v) ask)
  pub sendable : Sendable (point_of v) m.sync (async_sent (point_of v) ask)

-- ---- the timers where they stand

-- the station is one of the 128, and the two rises are 32-bit numbers
pub record Movable (n token rise since : ℕ) : Type 0 where
  pub few : n ≤ 128
  pub inside : token < 128
  pub rises : rise < 2 ^ 32
  pub own : since < 2 ^ 32

-- FDDI: the token has come to its station
abbrev pub came_in : List ℕ → List ℕ → ℕ → Timers
came_in trt late token = token_came token (record { trt = trt; late = late; unused = 0 })

-- the arrays after the visit, by the mode
pub record TimersMoved (head : Head) (n token rise since : ℕ) (trt late trt' late' : List ℕ) : Type 0 where
  pub trt_fddi : head.mode ≡ fddi → trt' ≡ ran_on n rise head.ttrt (came_in trt late token).trt
  pub late_fddi : head.mode ≡ fddi
      → late' ≡ laps_counted n rise head.ttrt (came_in trt late token).trt (came_in trt late token).late
  pub trt_timely : ¬ (head.mode ≡ fddi) → trt' ≡ set (raised_held n rise trt) token since
  pub late_timely : ¬ (head.mode ≡ fddi) → late' ≡ late
