-- `rooms_of` is right because it asks for the rooms exactly where the set has a plan; what is available less the sum of S is then spare.
use mathlib.Core.Path.{◌≡◌, refl, sym, ◌∙◌}
use mathlib.Core.Bool.{true, ◌&&◌}
use lib.Dec.{eqb}
use Rattle.reasons.specs.Rooms.{fits}
use Rattle.reasons.proofs.RoomLaws.{rooms_none, spare_left}
use Rattle.reasons.proofs.rooms_of.Goals as goal

pub returns-then-not-fits : goal.returns-then-not-fits
returns-then-not-fits c =
    let said : (c.plannable.result && eqb c.shortage_of-short.result.missing 0) ≡ fits c.args.t = rw (c.plannable.ensures, c.shortage_of-short.ensures) refl in
    sym (rooms_none _ (sym said ∙ c.if-not-fits.true))

pub overflow_sub-short : goal.overflow_sub-short
overflow_sub-short c =
    let said : (c.plannable.result && eqb c.shortage_of-short.result.missing 0) ≡ fits c.args.t = rw (c.plannable.ensures, c.shortage_of-short.ensures) refl in
    let left : fits c.args.t ≡ true = sym (said) ∙ c.if-not-fits.false in
    rw c.shortage_of-short.ensures (spare_left c.args.t left).0

pub largest_each-requires : goal.largest_each-requires
largest_each-requires c =
    let said : (c.plannable.result && eqb c.shortage_of-short.result.missing 0) ≡ fits c.args.t = rw (c.plannable.ensures, c.shortage_of-short.ensures) refl in
    let left : fits c.args.t ≡ true = sym (said) ∙ c.if-not-fits.false in
    rw c.shortage_of-short.ensures (spare_left c.args.t left).1
