-- A visit, at the station that has the token: the five steps of 01, one definition for each number, the moved ring, the record, and the answer.
use Rattle.std.specs.Prelude.{ℕ, zero, suc, ◌+◌, ◌-◌, ◌≤◌, min, Bool, cond, ◌&&◌, leb, eqb, ℤ, pos, set}
use Rattle.std.proofs.Math.IntN.{sub_ℕ}
use Rattle.units.specs.Numbers.{accepted, unsound, bad_length, clock_too_high, most_clock}
use Rattle.units.specs.Places.{at}
use Rattle.units.specs.Judging.{or_else, between}
use Rattle.rings.specs.State.{count, following, share, holds, is_marked, with_timers, with_rest, with_course}
use Rattle.rings.specs.Timers.{limit, lead, rise, timers_after}
use Rattle.rings.specs.Sound.{is_sound}
use Rattle.rings.specs.Frames.{frames_time}
use Rattle.rings.specs.declared.Ask as declared
use Rattle.rings.specs.declared.Ring.{Ring}
use Rattle.rings.specs.declared.VisitRecord.{VisitRecord}
use Rattle.rings.specs.declared.Visited.{Visited}

-- what is asked for at a visit: so many frames of one length
abbrev pub Ask : Type 0
Ask = declared.Ask

-- the length is 1 to F
abbrev pub LengthNamed : Ring → Ask → Type 0
LengthNamed r ask = (1 ≤ ask.length) × (ask.length ≤ r.set.head.frame)

abbrev pub length_named : Ring → Ask → Bool
length_named r ask = between 1 r.set.head.frame ask.length

-- ---- the numbers of the five steps; the limit and what becomes of the timers stand in `Timers`

-- 4: it sends frames while the time used is below A, each to its end
abbrev pub async_sent : Ring → Ask → ℕ
async_sent r ask = frames_time (limit r) ask

-- when the synchronous part starts: at the visit's start, since it comes first; in the 2002 edition after the asynchronous part
abbrev pub sync_start : Ring → ℕ → ℕ
sync_start r async = r.clock + lead r.set async

-- 3: the station holds a message whose arrival is at or before that moment
abbrev pub serves : Ring → ℕ → Bool
serves r async = holds r r.token && leb (at r.arrival r.token) (sync_start r async)

-- the most that it may send: S, and 0 where it is marked
unfoldable pub most_sent : Ring → ℕ
most_sent r = cond (is_marked r r.token) 0 (share r r.token)

-- 3: then it sends the smaller of that and what remains, else nothing
unfoldable pub sync_sent : Ring → ℕ → ℕ
sync_sent r async = cond (serves r async) (min (most_sent r) (at r.rest r.token)) 0

-- 5: the token moves on, after N − 1 to 0
abbrev pub next_token : Ring → ℕ
next_token r = following (count r) r.token

-- ---- the moved ring: the timers have moved; what was sent comes off the remainder
unfoldable pub moved : Ring → ℕ → ℕ → Ring
moved r sync async =
    let p = r.token in
    with_timers
    (timers_after r sync async)
    (with_rest
    (set r.rest p (at r.rest p - sync))
    (with_course
    (record {
      sent = set r.sent p sync;
      last = set r.last p (sync_start r async);
      token = next_token r;
      clock = r.clock + rise r sync async;
      visits = r.visits + 1;
    })
    r))

-- ---- the record

-- a message was held, and nothing of it remains
abbrev pub completes : Ring → ℕ → Bool
completes r sync = holds r r.token && eqb (at r.rest r.token - sync) 0

-- the finish of a completed message: the start of the synchronous part + s
abbrev pub finish : Ring → ℕ → ℕ → ℕ
finish r sync async = sync_start r async + sync

-- the deadline of the held message: its arrival + D
abbrev pub deadline : Ring → ℕ
deadline r = at r.arrival r.token + at r.set.d r.token

-- the deadline less the finish, negative when late
abbrev pub margin : Ring → ℕ → ℕ → ℤ
margin r sync async = sub_ℕ (deadline r) (finish r sync async)

-- the record of a visit that sent these two amounts
unfoldable pub record_of : Ring → ℕ → ℕ → VisitRecord
record_of r sync async =
    record {
      station = record { 0 = r.token };
      start = record { 0 = r.clock };
      trt = record { 0 = at r.trt r.token };
      limit = record { 0 = limit r };
      synchronous = record { 0 = sync };
      asynchronous = record { 0 = async };
      finish = record { 0 = cond (completes r sync) (finish r sync async) 0 };
      margin = cond (completes r sync) (margin r sync async) (pos 0);
      completed = cond (completes r sync) 1 0;
    }

-- a blank record: every number 0, and none was completed
abbrev pub blank_record : VisitRecord
blank_record =
    record {
      station = record { 0 = 0 };
      start = record { 0 = 0 };
      trt = record { 0 = 0 };
      limit = record { 0 = 0 };
      synchronous = record { 0 = 0 };
      asynchronous = record { 0 = 0 };
      finish = record { 0 = 0 };
      margin = pos 0;
      completed = 0;
    }

-- ---- the answer

-- 8 for an unsound ring, 10 for a length that is not 1 to F, 13 for a clock above 1,000,000,000,000
abbrev pub first_refusal : Bool → Bool → ℕ → ℕ
first_refusal sound named clock =
    or_else sound unsound (or_else named bad_length (or_else (leb clock most_clock) clock_too_high accepted))

abbrev pub visit_number : Ring → Ask → ℕ
visit_number r ask = first_refusal (is_sound r) (length_named r ask) r.clock

-- a refused visit gives the ring back unchanged, and the record blank
abbrev pub refused_visit : Ring → ℕ → Visited
refused_visit r number = record { ring = r; answer = record { «record» = blank_record; number = number } }

-- the visit itself
abbrev pub accepted_visit : Ring → Ask → Visited
accepted_visit r ask =
    record {
      ring = moved r (sync_sent r (async_sent r ask)) (async_sent r ask);
      answer = record { «record» = record_of r (sync_sent r (async_sent r ask)) (async_sent r ask); number = 0 };
    }

-- 0 is the visit, any other number a refusal
unfoldable pub visited_with : ℕ → Ring → Ask → Visited
visited_with zero r ask = accepted_visit r ask
visited_with (suc k) r ask = refused_visit r (suc k)

-- a visit's answer, with what is asked for
abbrev pub visited : Ring → Ask → Visited
visited r ask = visited_with (visit_number r ask) r ask
