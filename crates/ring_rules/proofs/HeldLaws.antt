-- An accepted message is held because three places of the ring are set and nothing else; what was asked of it keeps the ring sound.
use Prim.Native.Nat.{ℕ, ◌≤◌, ◌<◌}
use mathlib.Core.Path.{refl}
use native.Mathlib.Omega.{arith}
use lib.ListN.{length, set}
use lib.Seq.{get_or-set_same, get_or-set_other}
use Rattle.units.specs.Places.{at}
use Rattle.units.proofs.PlaceLaws.{set_each}
use Rattle.rings.specs.State.{Shaped}
use Rattle.rings.specs.Sound.{Sound}
use Rattle.rings.specs.HandingIn.{Takes, holding}
use Rattle.ring_rules.specs.Promised.{Held}
use Rattle.ring_rules.proofs.MessageLaws.{messages_timing, messages_sound}
use Rattle.rings.proofs.RingLaws.{sound_plan}
use Rattle.rings.proofs.ShapeLaws.{holding_shaped}
use Rattle.rings.specs.declared.Ring.{Ring}
use Rattle.rings.specs.declared.Message.{Message}

module _ (r : Ring) (m : Message) (L : Shaped r) (s : Sound r) (t : Takes r m) where
  inside : m.station.0 < 128
  inside = omega (arith, t.known, (sound_plan r s).0.1)

  pub held : Held r m (holding r m)
  unfolding holding
  held =
      let i = m.station.0 in
      record {
        rest = get_or-set_same r.rest i m.length.0 0 (omega (arith, inside, L.rest));
        arrival = get_or-set_same r.arrival i m.arrival.0 0 (omega (arith, inside, L.arrival));
        had = get_or-set_same r.had i 1 0 (omega (arith, inside, L.had));
        rests = λ j n. get_or-set_other r.rest i j m.length.0 0 (omega arith);
        arrivals = λ j n. get_or-set_other r.arrival i j m.arrival.0 0 (omega arith);
        hads = λ j n. get_or-set_other r.had i j 1 0 (omega arith);
        mark = refl;
        timing = messages_timing r _;
        shaped = holding_shaped r L m;
      }

  pub held_sound : Sound (holding r m)
  unfolding holding
  held_sound =
      messages_sound r _ s
      (λ j l. set_each r.rest m.station.0 j m.length.0 (λ (x : ℕ). x ≤ at r.set.c j) (s.rests j l) (λ e. rw e t.length.1))
      (λ j l. set_each r.arrival m.station.0 j m.arrival.0 (λ (x : ℕ). x ≤ 1_000_000_000_000) (s.arrivals j l) (λ e. t.arrival.range))
