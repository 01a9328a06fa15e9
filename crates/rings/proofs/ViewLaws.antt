-- A visit by the numbers of the token's station is the ring's own visit: each definition looks at these numbers alone, and the arrays are changed at this station's place or by the same rise.
use Prim.Native.Nat.{ℕ, zero, suc, ◌+◌, ◌-◌, ◌≤◌, ◌<◌}
use mathlib.Core.Path.{◌≡◌, refl, sym, ap, ◌∙◌}
use mathlib.Core.List.{List}
use mathlib.Core.Logic.{⊎_elim}
use native.Mathlib.Omega.{arith}
use lib.ListN.{set}
use Rattle.units.specs.Places.{at, raise}
use Rattle.arrays.specs.Held.{raised_held}
use Rattle.arrays.proofs.Promised.{promised}
use Rattle.rings.specs.State.{count, ttrt, timers_of}
use Rattle.rings.specs.Lent.{ring_of}
use Rattle.rings.specs.Timers.{Fddi, limit, timers_offer, lead, rise, rise_since, unused_after, token_came, timely_after, timers_after}
use Rattle.rings.proofs.TimerLaws.{fddi_or_not, after_fddi, after_timely}
use Rattle.rings.specs.Steps.{Ask, async_sent, sync_start, most_sent, sync_sent, next_token, moved, record_of, visit_number, visited}
use Rattle.rings.proofs.RingLaws.{visit_accepted}
use Rattle.rings.specs.Bounds.{Safe, SafeTimely, SafeTimers, Sendable}
use Rattle.rings.specs.Views.{view_of, point_of, MovesOf, TimersMoved}
use Rattle.rings.specs.declared.Ring.{Ring}
use Rattle.rings.specs.declared.VisitRecord.{VisitRecord}
use Rattle.rings.specs.declared.steps.Moves.{Moves}
use Rattle.rings.proofs.FddiLaws.{ran}

-- ---- the one station of the numbers' own ring is the ring's

only : (P : ℕ → Type 0) → P 0 → (i : ℕ) → i < 1 → P i
only P p zero l = p
only P p (suc i) l = absurd (omega arith)

pub safe_seen : (r : Ring) → Safe r → Safe (point_of (view_of r))
safe_seen r s =
    record {
      few = omega arith;
      token = omega arith;
      rotation = s.rotation;
      allotted = s.allotted;
      sent = s.sent;
      deadline = s.deadline;
      arrival = s.arrival;
      clock = s.clock;
      visits = omega arith;
    }

pub safe_timers_seen : (r : Ring) → Safe r → SafeTimers r → SafeTimers (point_of (view_of r))
safe_timers_seen r s t =
    let p = point_of (view_of r) in
    record {
      timely = λ n.
          let m = t.timely n in
          record { trts = only (λ i. at p.trt i ≤ ttrt p) (m.trts r.token s.token); old = m.old; unused = m.unused };
      fddi = λ e.
          let m = t.fddi e in
          record { timers = only (λ i. at p.trt i < ttrt p) (m.timers r.token s.token); lates = only (λ i. at p.late i ≤ 3) (m.lates r.token s.token) };
    }

-- ---- the numbers of the visit, of the ring itself

pub record Moving (r : Ring) (ask : Ask) (m : Moves) : Type 0 where
  pub sync : m.sync ≡ sync_sent r (async_sent r ask)
  pub rise : m.rise ≡ rise r m.sync (async_sent r ask)
  pub since : m.since ≡ rise_since r m.sync (async_sent r ask)
  pub start : m.start ≡ sync_start r (async_sent r ask)
  pub unused_fddi : Fddi r.set → m.unused ≡ r.unused
  pub unused_timely : ¬ Fddi r.set → m.unused ≡ unused_after r m.sync
  pub told : m.told ≡ record_of r m.sync (async_sent r ask)
  pub sendable : Sendable r m.sync (async_sent r ask)

pub moving : (r : Ring) (ask : Ask) (m : Moves) → MovesOf (view_of r) r.token ask m → Moving r ask m
unfolding limit timers_offer lead most_sent sync_sent record_of
moving r ask m e =
    record {
      sync = e.sync;
      rise = e.rise;
      since = e.since;
      start = e.start;
      unused_fddi = e.unused_fddi;
      unused_timely = e.unused_timely;
      told = e.told;
      sendable = record { allotted = e.sendable.allotted; rest = e.sendable.rest; short = e.sendable.short };
    }

-- ---- the timers

-- no TRT of a safe ring is held: a visit's rise leaves each far below 2^32
unheld : (r : Ring) (sync async : ℕ) → Safe r → SafeTimely r → Sendable r sync async
    → raised_held (count r) (rise r sync async) r.trt ≡ raise (count r) (rise r sync async) r.trt
unheld r sync async s m t =
    promised.rise_fits (count r) _ r.trt (λ i l. let most = m.trts i l in omega (arith, t.short, s.rotation))

module _ (r : Ring) (sync async by since unused : ℕ) (trt late : List ℕ) (rises : by ≡ rise r sync async) (own : since ≡ rise_since r sync async)
    (m : TimersMoved r.set.head (count r) r.token by since r.trt r.late trt late) (s : Safe r) (t : SafeTimers r) (sent : Sendable r sync async) where
  moved_fddi : (e : Fddi r.set) → unused ≡ r.unused → record { trt = trt; late = late; unused = unused } ≡ timers_after r sync async
  unfolding token_came
  moved_fddi e u =
      (λ i. record { trt = trt; late = late; unused = u i })
      ∙ ran r sync async by (token_came r.token (timers_of r)) trt late refl rises (m.trt_fddi e) (m.late_fddi e) s (t.fddi e) sent
      ∙ sym (after_fddi r e sync async)

  moved_timely : (n : ¬ Fddi r.set) → unused ≡ unused_after r sync → record { trt = trt; late = late; unused = unused } ≡ timers_after r sync async
  unfolding timely_after
  moved_timely n u =
      let stored : trt ≡ set (raise (count r) (rise r sync async) r.trt) r.token (rise_since r sync async) =
      m.trt_timely n ∙ (λ i. set (raised_held (count r) (rises i) r.trt) r.token (own i))
      ∙ ap (λ (xs : List ℕ). set xs r.token (rise_since r sync async)) (unheld r sync async s (t.timely n) sent) in
      (λ i. record { trt = stored i; late = m.late_timely n i; unused = u i }) ∙ sym (after_timely r n sync async)

  pub timers_moved : (Fddi r.set → unused ≡ r.unused) → (¬ Fddi r.set → unused ≡ unused_after r sync) → record { trt = trt; late = late; unused = unused } ≡ timers_after r sync async
  timers_moved f n = ⊎_elim (λ e. moved_fddi e (f e)) (λ e. moved_timely e (n e)) (fddi_or_not r.set)

-- ---- the whole ring, and the answer

pub ring_moved : (r : Ring) (sync async : ℕ) (trt late sent rest last : List ℕ) (token clock visits unused : ℕ) → record { trt = trt; late = late; unused = unused } ≡ timers_after r sync async
    → sent ≡ set r.sent r.token sync → rest ≡ set r.rest r.token (at r.rest r.token - sync) → last ≡ set r.last r.token (sync_start r async)
    → token ≡ next_token r → clock ≡ r.clock + rise r sync async → visits ≡ r.visits + 1
    → ring_of r.set.w r.set.c r.set.d r.set.p r.alloc.s trt late sent rest r.arrival r.had r.mark last r.set.head r.set.n token clock visits unused ≡ moved r sync async
unfolding moved
ring_moved r sync async trt late sent rest last token clock visits unused timers sends rests lasts tokens clocks counts =
    λ i. ring_of r.set.w r.set.c r.set.d r.set.p r.alloc.s (timers i).trt (timers i).late (sends i) (rests i) r.arrival r.had r.mark (lasts i) r.set.head r.set.n (tokens i) (clocks i) (counts i) (timers i).unused

-- the moved ring with the record of the same two amounts and the number 0 is the visit
pub visit_done : (r : Ring) (ask : Ask) (sync k : ℕ) (x : Ring) (v : VisitRecord) → visit_number r ask ≡ 0 → sync ≡ sync_sent r (async_sent r ask) → x ≡ moved r sync (async_sent r ask)
    → v ≡ record_of r sync (async_sent r ask) → k ≡ 0 → record { ring = x; answer = record { «record» = v; number = k } } ≡ visited r ask
visit_done r ask sync k x v passed s moves records none =
    (λ i. record { ring = moves i; answer = record { «record» = records i; number = none i } })
    ∙ ap (λ (y : ℕ). record { ring = moved r y (async_sent r ask); answer = record { «record» = record_of r y (async_sent r ask); number = 0 } }) s
    ∙ sym (visit_accepted _ r ask passed)
