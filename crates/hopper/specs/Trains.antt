-- A train: the list of its wagons and the plan in force. A change gives the new train, or the refusal with the train as it was.
use Rattle.std.specs.Prelude.{ℕ, zero, suc, ltb, eqb}
use Rattle.units.specs.Numbers.{accepted, out_of_range, no_such_station}
use Rattle.units.specs.Judging.{or_else}
use Rattle.units.specs.declared.Station.{Station}
use Rattle.plans.specs.Planned.{blank_alloc}
use Rattle.hopper.specs.Wagons.{wagon_fits, judged_list, blank_list, with_wagon}
use Rattle.hopper.specs.Requests.{list_planned}
use Rattle.hopper.specs.declared.Wagon.{Wagon}
use Rattle.hopper.specs.declared.WagonList.{WagonList}
use Rattle.hopper.specs.declared.Train.{Train}
use Rattle.hopper.specs.declared.Coupled.{Coupled}

-- no wagon, and the blank plan
abbrev pub blank_train : Train
blank_train = record { list = blank_list; plan = blank_alloc }

-- a refused change leaves the train as it was; an accepted one gives the list with its plan
unfoldable pub changed_by : ℕ → Train → WagonList → Coupled
changed_by zero t l = record { train = record { list = l; plan = (list_planned l).alloc }; number = 0 }
changed_by (suc k) t l = record { train = t; number = suc k }

-- another list: the number is that of its plan
abbrev pub changed_train : Train → WagonList → Coupled
changed_train t l = changed_by (list_planned l).number t l

-- coupling: the change of a train that has no wagon yet
abbrev pub coupled : WagonList → Coupled
coupled l = changed_train blank_train l

-- ---- one wagon

-- of a list with that wagon put in: 2 and 4 of the list, 4 of the wagon, then 9 for a place that is not below the count
unfoldable pub place_number : WagonList → ℕ → Wagon → ℕ
place_number l i v =
    or_else (eqb (judged_list l) 0) (judged_list l)
    (or_else (wagon_fits v.boxes v.brake v.door) out_of_range (or_else (ltb i l.n) no_such_station accepted))

-- these, then the number of the list's plan
abbrev pub wagon_number : WagonList → ℕ → Wagon → ℕ
wagon_number l i v = or_else (eqb (place_number l i v) 0) (place_number l i v) (list_planned l).number

-- another wagon at a place
abbrev pub changed_wagon : Train → Station → Wagon → Coupled
changed_wagon t place v =
    let l = with_wagon t.list place.0 v in
    changed_by (wagon_number l place.0 v) t l
