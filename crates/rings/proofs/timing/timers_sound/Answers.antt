-- `timers_sound` is right because it asks for the mode as the definition does, and no place past the 128th is a station's.
use Prim.Native.Nat.{min}
use mathlib.Core.Path.{◌≡◌, refl, ◌∙◌}
use native.Mathlib.Omega.{arith}
use Rattle.rings.specs.Timers.{timely_sound, fddi_sound, timers_sound}
use Rattle.rings.proofs.TimerLaws.{fddi_true, fddi_false}
use Rattle.rings.proofs.timing.timers_sound.Goals as goal

pub returns-then-ring-eq-FDDI : goal.returns-then-ring-eq-FDDI
unfolding timers_sound fddi_sound
returns-then-ring-eq-FDDI c =
    let t = c.args.ring.now.set in
    let few : min t.n 128 ≡ t.n = omega (arith, c.requires) in
    c.fddi_sound.ensures ∙ rw (few, fddi_true t c.if-ring-eq-FDDI.true) refl

pub returns : goal.returns
unfolding timers_sound timely_sound
returns c =
    let t = c.args.ring.now.set in
    let few : min t.n 128 ≡ t.n = omega (arith, c.requires) in
    c.timely_sound.ensures ∙ rw (few, fddi_false t c.if-ring-eq-FDDI.false) refl
