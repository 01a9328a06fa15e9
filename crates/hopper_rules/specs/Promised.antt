-- What is promised of the hopper set beside the contracts; `proofs/Promised.antt` proves it.
use Rattle.std.specs.Prelude.{ℕ, zero, suc, ◌+◌, ◌*◌, ◌≤◌, ◌<◌, ◌≡◌, List, ◌++◌, ◌↔◌, ◌≢◌, ◌⊎◌, length, take, drop, replicate}
use Rattle.units.specs.Places.{at, fill, zeros, sum_below}
use Rattle.units.specs.Small.{rounded_up}
use Rattle.units.specs.declared.Station.{Station}
use Rattle.sets.specs.declared.Set.{Set}
use Rattle.plans.specs.Planned.{planned, blank_alloc}
use Rattle.plans.specs.Answer.{AllocationExists}
use Rattle.plans.specs.declared.Planned.{Planned}
use Rattle.fields.specs.Rows.{rows}
use Rattle.fields.specs.Bytes.{bytes_of}
use Rattle.sheets.specs.Layout.{mark}
use Rattle.sheets.specs.Reading.{read_request}
use Rattle.hopper.specs.Wagons.{Shaped, WagonFits, CountFits, WagonsFit, ListFits, judged_list, with_wagon, with_more, without_last}
use Rattle.hopper.specs.Requests.{longest_of, longest_at, set_of, list_sheet, list_request, list_planned, sheet_answer, sheet_buffer}
use Rattle.hopper.specs.Trains.{blank_train, coupled, changed_wagon}
use Rattle.hopper.specs.declared.Wagon.{Wagon}
use Rattle.hopper.specs.declared.WagonList.{WagonList}
use Rattle.hopper.specs.declared.Train.{Train}
use Rattle.hopper_rules.specs.Changes.{Change, answer_to, list_asked, after, PlanInForce}

-- ---- the planner on the bytes of a sheet

-- what was read is planned; what was refused in reading is refused, blank
unfoldable pub planned_read : ℕ → Set → Planned
planned_read zero t = planned t
planned_read (suc k) t = record { alloc = blank_alloc; number = suc k }

-- read, then planned
abbrev pub planner_on : List ℕ → Planned
planner_on sheet = planned_read (read_request sheet).number (read_request sheet).set

-- ---- 02's numbers

-- the request of a list: TTRT 250, no mode, F or g, and of the station of each wagon w 1, C, D and P 500
pub record HopperNumbers (l : WagonList) (t : Set) : Type 0 where
  pub header : t.head ≡ record { ttrt = 250; mode = 1; frame = 1; grid = 1 }
  pub count : t.n ≡ l.n
  pub walk : (i : ℕ) → i < l.n → at t.w i ≡ 1
  pub longest : (i : ℕ) → i < l.n → at t.c i ≡ longest_at l i
  pub deadline : (i : ℕ) → i < l.n → at t.d i ≡ 500
  pub gap : (i : ℕ) → i < l.n → at t.p i ≡ 500

-- C by what is fitted
pub record Fitted : Type 0 where
  pub bare : (boxes : ℕ) → longest_of boxes 0 0 ≡ 4 * boxes
  pub brake : (boxes : ℕ) → longest_of boxes 1 0 ≡ 4 * boxes + 6
  pub door : (boxes : ℕ) → longest_of boxes 0 1 ≡ 4 * boxes + 2
  pub both : (boxes : ℕ) → longest_of boxes 1 1 ≡ 4 * boxes + 6 + 2

-- the field of a station, byte by byte: tag 2, length 16, w 1, C, D 500, P 500
abbrev pub wagon_bytes : WagonList → ℕ → List ℕ
wagon_bytes l i = mark 2 16 ++ bytes_of 1 ++ bytes_of (longest_at l i) ++ bytes_of 500 ++ bytes_of 500

-- the length of a list's sheet
abbrev pub list_length : WagonList → ℕ
list_length l = 10 + 19 * l.n

-- ---- wagons of two lists

-- wagon i of a list
abbrev pub wagon_at : WagonList → ℕ → Wagon
wagon_at l i = record { boxes = at l.boxes i; brake = at l.brake i; door = at l.door i }

-- of the first n wagons none has changed but the one at the place p, which is v now
pub record ChangedAt (n p : ℕ) (v : Wagon) (old new : WagonList) : Type 0 where
  pub this : wagon_at new p ≡ v
  pub others : (i : ℕ) → i < n → i ≢ p → wagon_at new i ≡ wagon_at old i

-- ---- examples

-- twelve wagons of eight axle boxes with a brake unit, and with a door unit or not
abbrev pub twelve : ℕ → WagonList
twelve door = record { n = 12; boxes = replicate 12 8; brake = replicate 12 1; door = replicate 12 door }

-- ---- the promises

pub record Promised : Type 0 where
  -- the answer for a list is 2 exactly if it does not have 1 to 12 wagons
  pub two : (l : WagonList) → ((list_planned l).number ≡ 2) ↔ ¬ CountFits l
  -- 4 exactly if it has, and a box count is above 8, or a brake or door number neither 0 nor 1
  pub four : (l : WagonList) → ((list_planned l).number ≡ 4) ↔ (CountFits l × ¬ WagonsFit l)
  -- 6 exactly if all that is right and no allocation exists
  pub six : (l : WagonList) → ((list_planned l).number ≡ 6) ↔ (ListFits l × ¬ AllocationExists (set_of l))
  -- no other number is ever given
  pub only : (l : WagonList)
      → ((list_planned l).number ≡ 0)
      ⊎ ((list_planned l).number ≡ 2)
      ⊎ ((list_planned l).number ≡ 4)
      ⊎ ((list_planned l).number ≡ 6)
  -- the request of a list has just 02's numbers
  pub numbers : (l : WagonList) → ListFits l → HopperNumbers l (set_of l)
  pub fitted : Fitted
  -- the sheet of a list, byte by byte: TTRT 250, a station for each wagon in the list's order, the end
  pub bytes : (l : WagonList)
      → ListFits l → list_sheet l ≡ mark 1 4 ++ bytes_of 250 ++ rows l.n (wagon_bytes l) ++ mark 255 0
  -- reading it gives the list's request
  pub read : (l : WagonList) → ListFits l → read_request (list_sheet l) ≡ record { set = set_of l; number = 0 }
  -- that is what `request_of` gives
  pub request : (l : WagonList) → ListFits l → list_request l ≡ record { set = set_of l; number = 0 }
  -- writing the sheet puts these bytes in front and changes none behind them
  pub written : (l : WagonList) (out : List ℕ) → ListFits l → list_length l ≤ length out
      → (sheet_answer (judged_list l) l out ≡ record { length = list_length l; number = 0 })
      × (sheet_buffer (judged_list l) l out ≡ list_sheet l ++ drop (list_length l) out)
  -- 14 exactly if the list is right and the buffer is shorter than its sheet
  pub short : (l : WagonList) (out : List ℕ)
      → ((sheet_answer (judged_list l) l out).number ≡ 14) ↔ (ListFits l × (length out < list_length l))
  -- a list without a sheet gives no byte, and the number of its answer
  pub no_sheet : (l : WagonList) (out : List ℕ) → ¬ ListFits l
      → (sheet_answer (judged_list l) l out ≡ record { length = 0; number = (list_planned l).number })
      × (sheet_buffer (judged_list l) l out ≡ out)
  -- its answer is blank
  pub no_plan : (l : WagonList) → (list_planned l).number ≢ 0 → (list_planned l).alloc ≡ blank_alloc
  -- the answer for a list is the planner's on its sheet, number and plan: the sheet is read, then planned
  pub planners : (l : WagonList) → ListFits l → list_planned l ≡ planner_on (list_sheet l)
  -- so it is on the bytes that writing put into a buffer
  pub planners_written : (l : WagonList) (out : List ℕ) → ListFits l → list_length l ≤ length out
      → list_planned l ≡ planner_on (take (sheet_answer (judged_list l) l out).length (sheet_buffer (judged_list l) l out))
  -- each wagon gets half of its C, rounded up
  pub shares : (l : WagonList)
      → (list_planned l).number ≡ 0 → (i : ℕ) → i < l.n → at (list_planned l).alloc.s i ≡ rounded_up (longest_at l i) 2
  -- and a list has a plan exactly if these and a tick for each wagon are at most 250
  pub room : (l : WagonList)
      → ((list_planned l).number ≡ 0) ↔ (ListFits l × (sum_below l.n (λ i. rounded_up (longest_at l i) 2) + l.n ≤ 250))
  -- a coupled train has the list, and the planner's plan for it
  pub coupled_train : (l : WagonList)
      → (coupled l).number ≡ 0 → ((coupled l).train.list ≡ l) × PlanInForce (coupled l).train
  -- the number is that of the list, and a refused one is blank
  pub coupled_number : (l : WagonList) → (coupled l).number ≡ (list_planned l).number
  pub coupled_blank : (l : WagonList) → (coupled l).number ≢ 0 → (coupled l).train ≡ blank_train
  -- after any list of changes, accepted or refused, a train that was coupled has the planner's plan for its list
  pub in_force : (l : WagonList) (cs : List Change) → (coupled l).number ≡ 0 → PlanInForce (after (coupled l).train cs)
  -- a refused change leaves list and plan
  pub refused_change : (t : Train) (c : Change) → (answer_to t c).number ≢ 0 → (answer_to t c).train ≡ t
  -- an accepted one gives the list that was asked for with the planner's plan for it, whatever train it was asked of
  pub accepted_change : (t : Train) (c : Change)
      → (answer_to t c).number ≡ 0
      → ((answer_to t c).train.list ≡ list_asked t.list c) × PlanInForce (answer_to t c).train
  -- one wagon changed: as many wagons as before, that one is the new one, and every other is as it was
  pub wagon_changed : (t : Train) (p : Station) (v : Wagon) → Shaped t.list → (changed_wagon t p v).number ≡ 0
      → ((changed_wagon t p v).train.list.n ≡ t.list.n)
      × ChangedAt t.list.n p.0 v t.list (changed_wagon t p v).train.list
  -- its numbers: 2 for a bad count
  pub wagon_two : (t : Train) (p : Station) (v : Wagon) → ((changed_wagon t p v).number ≡ 2) ↔ ¬ CountFits t.list
  -- 4 for a bad wagon: the new one, or one of the list with it
  pub wagon_four : (t : Train) (p : Station) (v : Wagon)
      → ((changed_wagon t p v).number ≡ 4)
      ↔ (CountFits t.list × ¬ (WagonsFit (with_wagon t.list p.0 v) × WagonFits v.boxes v.brake v.door))
  -- 9 for a place that is not below the count
  pub wagon_nine : (t : Train) (p : Station) (v : Wagon)
      → ((changed_wagon t p v).number ≡ 9)
      ↔ (ListFits (with_wagon t.list p.0 v) × (WagonFits v.boxes v.brake v.door × ¬ (p.0 < t.list.n)))
  -- then the planner's
  pub wagon_planned : (t : Train) (p : Station) (v : Wagon)
      → p.0 < t.list.n → WagonFits v.boxes v.brake v.door
      → (changed_wagon t p v).number ≡ (list_planned (with_wagon t.list p.0 v)).number
  -- one wagon more: it stands behind the others, which are as they were
  pub one_more_lem : (l : WagonList) (v : Wagon)
      → Shaped l → l.n < 12 → ((with_more l v).n ≡ l.n + 1) × ChangedAt l.n l.n v l (with_more l v)
  -- a thirteenth is 2
  pub thirteenth : (l : WagonList) (v : Wagon) → 12 ≤ l.n → (list_planned (with_more l v)).number ≡ 2
  -- the last one off: one wagon fewer, and the others are as they were
  pub last_off_lem : (l : WagonList) (i : ℕ)
      → 1 ≤ l.n → ((without_last l).n + 1 ≡ l.n) × (wagon_at (without_last l) i ≡ wagon_at l i)
  -- the only one off is 2
  pub only_one_off : (l : WagonList) → l.n ≤ 1 → (list_planned (without_last l)).number ≡ 2
  -- twelve full wagons need 252 of 250: 6
  pub twelve_full : (list_planned (twelve 1)).number ≡ 6
  -- without their door units they fit, with 19 ticks each
  pub twelve_fit : list_planned (twelve 0) ≡ record { alloc = record { s = fill 12 (λ i. 19) zeros }; number = 0 }
