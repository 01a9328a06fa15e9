-- A call that is no visit gives the ring other messages and marks: its timing is as it was, and it is sound where what remains and the arrivals are in range.
use Prim.Native.Nat.{ℕ, ◌≤◌, ◌<◌}
use mathlib.Core.Path.{refl}
use Rattle.units.specs.Numbers.{most_clock}
use Rattle.units.specs.Places.{at}
use Rattle.rings.specs.State.{count, Messages, with_messages}
use Rattle.rings.specs.Sound.{Sound}
use Rattle.rings.specs.declared.Ring.{Ring}
use Rattle.ring_rules.specs.Promised.{SameTiming}

module _ (r : Ring) (messages : Messages) where
  pub messages_timing : SameTiming r (with_messages messages r)
  messages_timing =
      record {
        set = refl;
        alloc = refl;
        trt = refl;
        late = refl;
        sent = refl;
        last = refl;
        clock = refl;
        visits = refl;
        token = refl;
        unused = refl;
      }

  pub messages_sound : Sound r → ((i : ℕ) → i < count r → at messages.rest i ≤ at r.set.c i) → ((i : ℕ) → i < count r → at messages.arrival i ≤ most_clock) → Sound (with_messages messages r)
  messages_sound s rests arrivals =
      record {
        plan = s.plan;
        token = s.token;
        timers =
            record {
              timely = λ n. record { trts = (s.timers.timely n).trts; unused = (s.timers.timely n).unused };
              fddi = λ e. record { timers = (s.timers.fddi e).timers; lates = (s.timers.fddi e).lates };
            };
        sents = s.sents;
        rests = rests;
        arrivals = arrivals;
        clock = s.clock;
        visits = s.visits;
      }
