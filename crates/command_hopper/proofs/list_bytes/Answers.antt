-- `list_bytes` is right because after i turns the first i bytes were read.
use Prim.Native.Nat.{◌<◌}
use mathlib.Core.Path.{refl, sym, ap, ◌∙◌}
use native.Mathlib.Omega.{arith}
use lib.ListN.{length}
use lib.Seq.{take_all}
use Rattle.units.specs.Places.{at}
use Rattle.command_hopper.specs.Lists.{list_on, list_over}
use Rattle.command_hopper.specs.declared.Listing.{Listing}
use Rattle.command_hopper.proofs.TextLaws.{list_more}
use Rattle.command_hopper.proofs.list_bytes.Goals as goal

pub loop-byte-init : goal.loop-byte-init
unfolding list_over
loop-byte-init c =
    refl

pub loop-byte-preserved : goal.loop-byte-preserved
loop-byte-preserved c =
    let text = c.args.text.now in
    let i = c.loop-byte.byte-index in
    let inside : c.loop-byte.byte-index < length text = omega arith in
    c.list_byte-stands.ensures ∙ ap (λ (u : Listing). list_on u (at text i)) c.loop-byte.invariant ∙ sym (list_more _ text i inside)

pub returns : goal.returns
returns c =
    let text = c.args.text.now in
    c.loop-byte.invariant ∙ ap (list_over c.args.listing) (take_all c.loop-byte.byte-index text (omega arith))
