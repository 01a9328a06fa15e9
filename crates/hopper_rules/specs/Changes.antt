-- What may be asked of a train, what each change answers, and the train after any list of changes, accepted or refused.
use Rattle.std.specs.Prelude.{◌≡◌, List, [], ◌∷◌}
use Rattle.units.specs.declared.Station.{Station}
use Rattle.hopper.specs.Wagons.{with_wagon, with_more, without_last}
use Rattle.hopper.specs.Requests.{list_planned}
use Rattle.hopper.specs.Trains.{changed_train, changed_wagon}
use Rattle.hopper.specs.declared.Wagon.{Wagon}
use Rattle.hopper.specs.declared.WagonList.{WagonList}
use Rattle.hopper.specs.declared.Train.{Train}
use Rattle.hopper.specs.declared.Coupled.{Coupled}

pub data Change : Type 0 where
  -- another list
  new_list : WagonList → Change
  -- another wagon at a place
  new_wagon : Station → Wagon → Change
  -- one wagon more at the end
  one_more : Wagon → Change
  -- the last one off
  last_off : Change

-- what the code answers to it
unfoldable pub answer_to : Train → Change → Coupled
answer_to t (new_list l) = changed_train t l
answer_to t (new_wagon p v) = changed_wagon t p v
answer_to t (one_more v) = changed_train t (with_more t.list v)
answer_to t last_off = changed_train t (without_last t.list)

-- the list that is asked for
unfoldable pub list_asked : WagonList → Change → WagonList
list_asked old (new_list l) = l
list_asked old (new_wagon p v) = with_wagon old p.0 v
list_asked old (one_more v) = with_more old v
list_asked old last_off = without_last old

-- the train after a list of changes, the first one first
unfoldable pub after : Train → List Change → Train
after t [] = t
after t (c ∷ cs) = after (answer_to t c).train cs

-- the plan in force is the one that the planner gives for the train's list
abbrev pub PlanInForce : Train → Type 0
PlanInForce t = list_planned t.list ≡ record { alloc = t.plan; number = 0 }
