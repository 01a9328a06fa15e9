-- A ring's arrays keep their 128 places: a law for each part that is changed, and so for the blank ring with a plan, for an accepted message and for a visit.
use Prim.Native.Nat.{ℕ}
use mathlib.Core.Path.{◌≡◌, refl, ◌∙◌}
use lib.ListN.{length, length-set}
use Rattle.sets.specs.declared.Set.{Set}
use Rattle.plans.specs.declared.Alloc.{Alloc}
use Rattle.rings.specs.State.{Shaped, Messages, Course, with_plan, with_timers, with_messages, with_course, blank_ring}
use Rattle.rings.specs.Steps.{moved}
use Rattle.rings.specs.HandingIn.{holding}
use Rattle.rings.specs.declared.Ring.{Ring}
use Rattle.rings.specs.declared.Timers.{Timers}
use Rattle.rings.specs.declared.Message.{Message}

pub blank_shaped : (t : Set) (a : Alloc) → Shaped (with_plan t a blank_ring)
blank_shaped t a =
    record {
      trt = refl;
      late = refl;
      sent = refl;
      rest = refl;
      arrival = refl;
      had = refl;
      mark = refl;
      last = refl;
    }

module _ (r : Ring) (L : Shaped r) where
  pub timers_shaped : (t : Timers) → length t.trt ≡ 128 → length t.late ≡ 128 → Shaped (with_timers t r)
  timers_shaped t trt late =
      record {
        trt = trt;
        late = late;
        sent = L.sent;
        rest = L.rest;
        arrival = L.arrival;
        had = L.had;
        mark = L.mark;
        last = L.last;
      }

  pub messages_shaped : (m : Messages) → length m.rest ≡ 128 → length m.arrival ≡ 128 → length m.had ≡ 128 → length m.mark ≡ 128 → Shaped (with_messages m r)
  messages_shaped m rest arrival had mark =
      record {
        trt = L.trt;
        late = L.late;
        sent = L.sent;
        rest = rest;
        arrival = arrival;
        had = had;
        mark = mark;
        last = L.last;
      }

  pub course_shaped : (c : Course) → length c.sent ≡ 128 → length c.last ≡ 128 → Shaped (with_course c r)
  course_shaped c sent last =
      record {
        trt = L.trt;
        late = L.late;
        sent = sent;
        rest = L.rest;
        arrival = L.arrival;
        had = L.had;
        mark = L.mark;
        last = last;
      }

module _ (r : Ring) (L : Shaped r) where
  pub holding_shaped : (m : Message) → Shaped (holding r m)
  unfolding holding
  holding_shaped m =
      let i = m.station.0 in
      messages_shaped r L _ (length-set r.rest i _ ∙ L.rest) (length-set r.arrival i _ ∙ L.arrival) (length-set r.had i _ ∙ L.had) L.mark

  -- the timers are another matter: what became of them goes by the mode
  pub moved_shaped : (sync async : ℕ) → length (moved r sync async).trt ≡ 128 → length (moved r sync async).late ≡ 128 → Shaped (moved r sync async)
  unfolding moved
  moved_shaped sync async trt late =
      let p = r.token in
      let course = course_shaped r L _ (length-set r.sent p _ ∙ L.sent) (length-set r.last p _ ∙ L.last) in
      let rest = messages_shaped _ course _ (length-set r.rest p _ ∙ L.rest) L.arrival L.had L.mark in
      timers_shaped _ rest _ trt late
