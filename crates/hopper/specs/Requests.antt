-- The request of a list of wagons with 02's numbers, its sheet, and its plan. What the planner and the sheets do is said by their own definitions.
use Rattle.std.specs.Prelude.{ℕ, zero, suc, ◌+◌, ◌*◌, ◌≡◌, false, List}
use Rattle.units.specs.Places.{at, fill, zeros}
use Rattle.sets.specs.Header.{head_of}
use Rattle.sets.specs.Judged.{blank_set}
use Rattle.sets.specs.declared.Set.{Set}
use Rattle.plans.specs.Planned.{planned, blank_alloc}
use Rattle.plans.specs.declared.Planned.{Planned}
use Rattle.sheets.specs.Layout.{request_sheet}
use Rattle.sheets.specs.Writing.{refused_writing, written_answer, written_buffer}
use Rattle.sheets.specs.declared.ReadRequest.{ReadRequest}
use Rattle.sheets.specs.declared.Written.{Written}
use Rattle.hopper.specs.Wagons.{judged_list}
use Rattle.hopper.specs.declared.WagonList.{WagonList}

-- C, the longest message of a wagon: 4 ticks for each axle box, 6 for a brake unit, 2 for a door unit
abbrev pub longest_of : ℕ → ℕ → ℕ → ℕ
longest_of boxes brake door = 4 * boxes + 6 * brake + 2 * door

-- that of wagon i
abbrev pub longest_at : WagonList → ℕ → ℕ
longest_at l i = longest_of (at l.boxes i) (at l.brake i) (at l.door i)

-- TTRT of the set; w and, for both D and P, one number of every wagon
abbrev pub hopper_ttrt : ℕ
hopper_ttrt = 250

abbrev pub hopper_walk : ℕ
hopper_walk = 1

abbrev pub hopper_deadline : ℕ
hopper_deadline = 500

-- the set of a list: one station for each wagon in the list's order, no mode, F or g
abbrev pub set_of : WagonList → Set
set_of l =
    record {
      head = head_of hopper_ttrt;
      n = l.n;
      w = fill l.n (λ i. hopper_walk) zeros;
      c = fill l.n (longest_at l) zeros;
      d = fill l.n (λ i. hopper_deadline) zeros;
      p = fill l.n (λ i. hopper_deadline) zeros;
    }

-- the request sheet of a list
abbrev pub list_sheet : WagonList → List ℕ
list_sheet l = request_sheet (set_of l)

-- ---- the request: the set, or the list's own refusal with the blank one

unfoldable pub request_with : ℕ → WagonList → ReadRequest
request_with zero l = record { set = set_of l; number = 0 }
request_with (suc k) l = record { set = blank_set; number = suc k }

abbrev pub list_request : WagonList → ReadRequest
list_request l = request_with (judged_list l) l

-- ---- the plan: the list's own refusal, or what the planner answers

unfoldable pub planned_with : ℕ → WagonList → Planned
planned_with zero l = planned (set_of l)
planned_with (suc k) l = record { alloc = blank_alloc; number = suc k }

abbrev pub list_planned : WagonList → Planned
list_planned l = planned_with (judged_list l) l

-- ---- the sheet: refused by the list, nothing is written; else what writing the request does

unfoldable pub sheet_answer : ℕ → WagonList → List ℕ → Written
sheet_answer zero l out = written_answer false (set_of l) blank_alloc out
sheet_answer (suc k) l out = refused_writing (suc k)

unfoldable pub sheet_buffer : ℕ → WagonList → List ℕ → List ℕ
sheet_buffer zero l out = written_buffer false (set_of l) blank_alloc out
sheet_buffer (suc k) l out = out

-- writing the sheet of a list: the buffer before and after, and the answer
pub record WroteSheet (l : WagonList) (before after : List ℕ) (r : Written) : Type 0 where
  pub answer : r ≡ sheet_answer (judged_list l) l before
  pub buffer : after ≡ sheet_buffer (judged_list l) l before
