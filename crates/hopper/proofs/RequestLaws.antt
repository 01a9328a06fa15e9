-- The request of a list, its plan and its sheet go by the list's own judgement: refused, blank; else the set's.
use Prim.Native.Nat.{ℕ, zero, suc}
use mathlib.Core.Path.{◌≡◌, refl}
use mathlib.Core.Bool.{false}
use mathlib.Core.List.{List}
use mathlib.Core.Logic.{◌≢◌}
use Rattle.sets.specs.Judged.{blank_set}
use Rattle.plans.specs.Planned.{planned, blank_alloc}
use Rattle.sheets.specs.Writing.{refused_writing, written_answer, written_buffer, Wrote}
use Rattle.sheets.specs.declared.Written.{Written}
use Rattle.hopper.specs.Wagons.{judged_list}
use Rattle.hopper.specs.Requests.{set_of, request_with, planned_with, sheet_answer, sheet_buffer, list_request, list_planned, WroteSheet}
use Rattle.hopper.specs.declared.WagonList.{WagonList}

-- ---- refused by the list

refused_request : (k : ℕ) (l : WagonList) → k ≢ 0 → request_with k l ≡ record { set = blank_set; number = k }
unfolding request_with
refused_request zero l h = absurd (h refl)
refused_request (suc k) l h = refl

refused_plan : (k : ℕ) (l : WagonList) → k ≢ 0 → planned_with k l ≡ record { alloc = blank_alloc; number = k }
unfolding planned_with
refused_plan zero l h = absurd (h refl)
refused_plan (suc k) l h = refl

refused_answer : (k : ℕ) (l : WagonList) (out : List ℕ) → k ≢ 0 → sheet_answer k l out ≡ refused_writing k
unfolding sheet_answer
refused_answer zero l out h = absurd (h refl)
refused_answer (suc k) l out h = refl

refused_buffer : (k : ℕ) (l : WagonList) (out : List ℕ) → k ≢ 0 → sheet_buffer k l out ≡ out
unfolding sheet_buffer
refused_buffer zero l out h = absurd (h refl)
refused_buffer (suc k) l out h = refl

pub request_refused : (l : WagonList) → judged_list l ≢ 0 → list_request l ≡ record { set = blank_set; number = judged_list l }
request_refused l h = refused_request (judged_list l) l h

pub plan_refused_lem : (l : WagonList) → judged_list l ≢ 0 → list_planned l ≡ record { alloc = blank_alloc; number = judged_list l }
plan_refused_lem l h = refused_plan (judged_list l) l h

pub sheet_refused : (l : WagonList) (out : List ℕ) → judged_list l ≢ 0 → WroteSheet l out out (refused_writing (judged_list l))
sheet_refused l out h =
    record { answer = rw (refused_answer (judged_list l) l out h) refl; buffer = rw (refused_buffer (judged_list l) l out h) refl }

-- ---- a list of the product's

pub request_given : (l : WagonList) → judged_list l ≡ 0 → list_request l ≡ record { set = set_of l; number = 0 }
unfolding request_with
request_given l h = rw h refl

pub plan_given : (l : WagonList) → judged_list l ≡ 0 → list_planned l ≡ planned (set_of l)
unfolding planned_with
plan_given l h = rw h refl

pub answer_given : (l : WagonList) (out : List ℕ) → judged_list l ≡ 0 → sheet_answer (judged_list l) l out ≡ written_answer false (set_of l) blank_alloc out
unfolding sheet_answer
answer_given l out h = rw h refl

pub buffer_given : (l : WagonList) (out : List ℕ) → judged_list l ≡ 0 → sheet_buffer (judged_list l) l out ≡ written_buffer false (set_of l) blank_alloc out
unfolding sheet_buffer
buffer_given l out h = rw h refl

pub sheet_given : (l : WagonList) (before after : List ℕ) (r : Written) → judged_list l ≡ 0 → Wrote false (set_of l) blank_alloc before after r → WroteSheet l before after r
sheet_given l before after r h w = record { answer = rw (answer_given l before h) w.answer; buffer = rw (buffer_given l before h) w.buffer }

-- ---- the number of the request, and its set

number_of : (k : ℕ) (l : WagonList) → (request_with k l).number ≡ k
unfolding request_with
number_of zero l = refl
number_of (suc k) l = refl

pub request_number : (l : WagonList) → (list_request l).number ≡ judged_list l
request_number l = number_of (judged_list l) l

pub request_set : (l : WagonList) → judged_list l ≡ 0 → (list_request l).set ≡ set_of l
unfolding request_with
request_set l h = rw h refl
