-- `put_stations` is right because each turn lays one more row behind the rows laid.
use Prim.Native.Nat.{ℕ}
use mathlib.Core.Path.{◌≡◌, ap, ◌∙◌}
use native.Mathlib.Omega.{arith}
use Rattle.fields.specs.Rows.{laid, rows}
use Rattle.sheets.specs.Layout.{station_bytes}
use Rattle.sheets.proofs.WritingLaws.{station_length, rows_begin, rows_turn}
use Rattle.sheets.proofs.writing.put_stations.Goals as goal

pub loop-i-init : goal.loop-i-init
loop-i-init c =
    rows_begin

pub loop-i-preserved : goal.loop-i-preserved
loop-i-preserved c =
    rows_turn (λ i. station_length _ _ _ _) c.loop-i.invariant c.loop-i-test.true c.requires.1 c.put_station.ensures c.put_station.auto.out

pub returns : goal.returns
returns c =
    let args = c.args in
    let all : c.loop-i.i ≡ c.args.n = omega arith in
    c.loop-i.invariant.so_far ∙ ap (λ (k : ℕ). laid args.out.now args.from (rows k (station_bytes args.t.now))) all
