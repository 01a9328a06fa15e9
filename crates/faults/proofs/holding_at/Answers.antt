-- `holding_at` is right because in FDDI what is not the station's own is what is lost and the sum of the other stations' S, and every other number is the station's own.
use mathlib.Core.Path.{◌≡◌, refl, sym, ◌∙◌}
use Prim.Native.Nat.{◌-◌}
use native.Mathlib.Omega.{arith}
use Rattle.units.specs.Places.{at, sum_below}
use Rattle.plans.specs.Rules.{time_at}
use Rattle.faults.proofs.HoldingLaws.{decides_station, time_is, holding_says, holding_none}
use Rattle.faults.proofs.holding_at.Goals as goal

pub returns-then-not-is_station : goal.returns-then-not-is_station
returns-then-not-is_station c =
    sym (holding_none _ _ _ (sym c.is_station.ensures ∙ c.if-not-is_station.true))

pub bounds-a-i : goal.bounds-a-i
bounds-a-i c =
    omega (arith, (decides_station c.args.t c.args.station).0 (sym c.is_station.ensures ∙ c.if-not-is_station.false))

pub bounds-t-i : goal.bounds-t-i
bounds-t-i c =
    omega (arith, (decides_station c.args.t c.args.station).0 (sym c.is_station.ensures ∙ c.if-not-is_station.false))

pub bounds-t-i-2 : goal.bounds-t-i-2
bounds-t-i-2 c =
    omega (arith, (decides_station c.args.t c.args.station).0 (sym c.is_station.ensures ∙ c.if-not-is_station.false))

pub returns : goal.returns
returns c =
    let args = c.args in
    let there = (decides_station args.t args.station).0 (sym c.is_station.ensures ∙ c.if-not-is_station.false) in
    let s = at args.a.s in
    let others : c.saturating_sub-others.result ≡ sum_below args.t.n s - s args.station = c.saturating_sub-others.ensures ∙ rw (c.sum_first.ensures.sum, c.from.ensures) refl in
    let time : c.time_by-time.result ≡ time_at args.t s args.station =
    c.time_by-time.ensures ∙ rw (c.lost_time.ensures.is, others) (time_is args.t s args.station there.0 there.1) in
    c.holding_with.ensures ∙ rw time (sym (holding_says args.t args.a args.station ((decides_station args.t args.station).1 there)))
