-- What the clock has passed, whatever the timers are: an accepted message has arrived when it is handed in, and so every visit that follows starts at its arrival or later; a visit that was before began its synchronous part before the arrival (12).
use Prim.Native.Nat.{ℕ, ◌≤◌, ◌<◌}
use mathlib.Core.Path.{◌≡◌, ap}
use mathlib.Core.List.{List, ◌∷◌}
use mathlib.Core.Logic.{◌⊎◌, inl, inr, ◌≢◌, ⊎_elim}
use native.Mathlib.Omega.{arith}
use Rattle.units.specs.Places.{at}
use Rattle.sets.specs.declared.Set.{Set}
use Rattle.plans.specs.declared.Alloc.{Alloc}
use Rattle.rings.specs.Timers.{Earlier}
use Rattle.rings.proofs.TimerLaws.{lead_within, lead_all}
use Rattle.rings.specs.declared.Ring.{Ring}
use Rattle.rings.specs.declared.Message.{Message}
use Rattle.rings.specs.declared.VisitRecord.{VisitRecord}
use Rattle.promises.specs.History.{sync_start_of, Each, EachMessage}
use Rattle.promises.specs.Facts.{Timing, timing, VisitCourse, VisitMessages, Accepting}
use Rattle.promises.specs.Valid.{OutsideAll}
use Rattle.promises.proofs.Lists.{each_of, each_message_of}
use Rattle.promises.proofs.Course.{same_or_not}

-- a visit that was: it is counted, and its synchronous part began by its station's last start
pub record Begun (t : Set) (r : Ring) (v : VisitRecord) : Type 0 where
  pub counted : v.station.0 < r.visits
  pub started : sync_start_of t v ≤ at r.last v.station.0

-- the message arrived by the start of a visit of its own station, or behind the start of that visit's synchronous part
abbrev pub Beside : Set → Message → VisitRecord → Type 0
Beside t m v = v.station.0 ≡ m.station.0 → (m.arrival.0 ≤ v.start.0) ⊎ (sync_start_of t v < m.arrival.0)

-- an accepted message: it has arrived
pub record Come (t : Set) (r : Ring) (h : List VisitRecord) (m : Message) : Type 0 where
  pub arrived : m.arrival.0 ≤ r.clock
  pub beside : Each (λ v before. Beside t m v) h

pub record Passed (t : Set) (r : Ring) (h : List VisitRecord) (ms : List Message) : Type 0 where
  pub arrived : (i : ℕ) → at r.arrival i ≤ r.clock
  pub messages : EachMessage (Come t r h) ms
  pub lasts : (i : ℕ) → at r.last i ≤ r.clock
  pub visits : Each (λ v before. Begun t r v) h

-- ---- a visit more

module _ (t : Set) (a : Alloc) (r q : Ring) (v : VisitRecord) (h : List VisitRecord) (ms : List Message) (token : r.token ≤ r.visits)
    (C : VisitCourse t a (timing r) (timing q) v) (G : VisitMessages t a r q v) (K : Passed t r h ms) where
  lasts_kept : (i : ℕ) → at q.last i ≤ q.clock
  lasts_kept i =
      ⊎_elim (λ (b : i ≡ r.token). rw (b, C.last_here) (omega (arith, C.start, C.clock, lead_within t v.asynchronous.0)))
      (λ (b : i ≢ r.token). rw (C.last_there i b) (omega (arith, K.lasts i, C.clock)))
      (same_or_not i r.token)

  begun_still : (u : VisitRecord) → Begun t r u → Begun t q u
  begun_still u k =
      record {
        counted = omega (arith, k.counted, C.visits);
        started =
            ⊎_elim (λ (b : u.station.0 ≡ r.token).
            omega (arith, k.started, K.lasts u.station.0, C.start, C.last_here, ap (at q.last) b))
            (λ (b : u.station.0 ≢ r.token). omega (arith, k.started, C.last_there u.station.0 b))
            (same_or_not u.station.0 r.token);
      }

  begun_now : Begun t q v
  begun_now = record { counted = omega (arith, C.station, C.visits); started = omega (arith, C.last_here, ap (at q.last) C.station) }

  -- the visit starts at the arrival or later
  come_still : (m : Message) → Come t r h m → Come t q (v ∷ h) m
  come_still m k = record { arrived = omega (arith, k.arrived, C.clock); beside = (λ e. inl (omega (arith, k.arrived, C.start)), k.beside) }

  pub passed_moved : Passed t q (v ∷ h) ms
  passed_moved =
      record {
        arrived = λ i. rw G.arrival (omega (arith, K.arrived i, C.clock));
        messages = each_message_of come_still ms K.messages;
        lasts = lasts_kept;
        visits = (begun_now, each_of (λ u before k. begun_still u k) h K.visits);
      }

-- ---- a call that leaves the timing alone

module _ (t : Set) (r q : Ring) (h : List VisitRecord) (ms : List Message) (same : timing q ≡ timing r) (K : Passed t r h ms) where
  clock_same : q.clock ≡ r.clock
  clock_same = ap (λ (x : Timing). x.clock) same

  last_same : q.last ≡ r.last
  last_same = ap (λ (x : Timing). x.last) same

  visits_same : q.visits ≡ r.visits
  visits_same = ap (λ (x : Timing). x.visits) same

  pub passed_same : ((i : ℕ) → at q.arrival i ≤ r.clock) → Passed t q h ms
  passed_same arrived =
      record {
        arrived = rw clock_same arrived;
        messages = each_message_of (λ m k. record { arrived = rw clock_same k.arrived; beside = k.beside }) ms K.messages;
        lasts = rw (last_same, clock_same) K.lasts;
        visits = each_of (λ v before k. record { counted = rw visits_same k.counted; started = rw last_same k.started }) h K.visits;
      }

-- ---- a handing in more

module _ (t : Set) (r q : Ring) (m : Message) (h : List VisitRecord) (ms : List Message) (A : Accepting t r q m) (K : Passed t r h ms) where
  arrived_taken : (i : ℕ) → at q.arrival i ≤ r.clock
  arrived_taken i =
      ⊎_elim (λ (b : i ≡ m.station.0). rw (b, A.arrival_here) A.arrived)
      (λ (b : i ≢ m.station.0). rw (A.arrival_there i b) (K.arrived i))
      (same_or_not i m.station.0)

  -- a visit of its station that was began its synchronous part before the arrival
  begun_before : (v : VisitRecord) → Begun t r v → Beside t m v
  begun_before v k e = inr (omega (arith, k.started, ap (at r.last) e, A.later (omega (arith, k.counted))))

  pub passed_taken : Passed t q h (m ∷ ms)
  passed_taken =
      let P = passed_same t r q h ms A.timing_same K arrived_taken in
      record {
        arrived = P.arrived;
        messages = (
          record {
            arrived = omega (arith, A.arrived, ap (λ (x : Timing). x.clock) A.timing_same);
            beside = each_of (λ v before k. begun_before v k) h K.visits;
          },
          P.messages,
        );
        lasts = P.lasts;
        visits = P.visits;
      }

-- ---- in the 2002 edition

-- the synchronous part begins where the asynchronous part ends
pub outside_all : (t : Set) → Earlier t → (r : Ring) (h : List VisitRecord) (ms : List Message) → EachMessage (Come t r h) ms → EachMessage (OutsideAll h) ms
outside_all t mode r h ms =
    each_message_of
    (λ m come.
    each_of
    (λ v before k e inside.
    ⊎_elim (λ (l : m.arrival.0 ≤ v.start.0). absurd (omega (arith, inside.0)))
    (λ (l : sync_start_of t v < m.arrival.0). absurd (omega (arith, inside.1, lead_all t mode v.asynchronous.0)))
    (k e))
    h come.beside)
    ms
