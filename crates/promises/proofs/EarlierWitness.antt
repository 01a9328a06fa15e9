-- The runs are computed.
use mathlib.Core.Path.{◌≡◌, refl}
use mathlib.Core.List.{List, [], ◌∷◌}
use mathlib.Core.Logic.{⊎_elim}
use native.Mathlib.Omega.{arith}
use lib.ListN.{length}
use Rattle.units.specs.Places.{at}
use Rattle.plans.specs.Rules.{spare_time}
use Rattle.rings.specs.declared.VisitRecord.{VisitRecord}
use Rattle.promises.specs.Run.{run_of, records_of}
use Rattle.promises.specs.History.{async_of, Each, Somewhere}
use Rattle.promises.specs.Bulk.{NotMarkedAt, Offered, Served}
use Rattle.promises.specs.Witness.{shares}
use Rattle.promises.specs.EarlierWitness.{first, nine, EarlierHappens}
use Rattle.promises.proofs.Computed.{running}

-- a visit of station 0 offers station 1 nothing, nor does a limit of 0
other : (v : VisitRecord) → v.station.0 ≡ 0 → ¬ Offered 1 v
other v e o = omega (arith, o.station)

shut : (v : VisitRecord) → v.limit.0 ≡ 0 → ¬ Offered 1 v
shut v e o = omega (arith, o.limit)

nowhere : (h : List VisitRecord) → Each (λ v before. ¬ Offered 1 v) h → ¬ Somewhere (λ v before. Offered 1 v) h
nowhere [] none s = s
nowhere (v ∷ h) none s = ⊎_elim none.0 (nowhere h none.1) s

-- nine visits are asked for at least A* each, and none of them serves station 1
unserved : ¬ Served first shares
unfolding running
unserved served =
    let nine_visits : length (records_of first shares nine) ≡ 9 = refl in
    let spare : spare_time first (at shares.s) ≡ 83 = refl in
    let off : NotMarkedAt 1 (run_of first shares []) nine =
    (λ _. refl, (λ _. refl, (λ _. refl, (λ _. refl, (λ _. refl, (λ _. refl, (λ _. refl, (λ _. refl, (λ _. refl, tt))))))))) in
    nowhere (records_of first shares nine)
    (other _ refl, (shut _ refl, (other _ refl, (shut _ refl, (other _ refl, (shut _ refl, (other _ refl, (shut _ refl, (other _ refl, tt)))))))))
    (served [] nine 1 (omega arith) (omega (arith, nine_visits)) off (
      λ _ _. omega (arith, spare),
      (
        λ _ _. omega (arith, spare),
        (
          λ _ _. omega (arith, spare),
          (
            λ _ _. omega (arith, spare),
            (
              λ _ _. omega (arith, spare),
              (λ _ _. omega (arith, spare), (λ _ _. omega (arith, spare), (λ _ _. omega (arith, spare), (λ _ _. omega (arith, spare), tt)))),
            ),
          ),
        ),
      ),
    ))

pub earlier_happens : EarlierHappens
unfolding running async_of
earlier_happens =
    record {
      plan = refl;
      spare = refl;
      judged = refl;
      records = refl;
      behind = refl;
      after = refl;
      before = refl;
      never = refl;
      then = refl;
      missed = refl;
      starves = refl;
      no_bulk = unserved;
      framed_judged = refl;
      framed_spare = refl;
      framed_records = refl;
      window = refl;
    }
