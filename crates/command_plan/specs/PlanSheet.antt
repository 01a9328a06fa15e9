-- What `plan-sheet` writes: the plan sheet of a request sheet, or a refusal and no byte.
use Rattle.std.specs.Prelude.{ℕ, zero, suc, ◌≤◌, ◌≡◌, true, List, length, take}
use Rattle.plans.specs.Planned.{planned}
use Rattle.sheets.specs.Reading.{then_number}
use Rattle.sheets.specs.Writing.{refused_writing, written_answer, written_buffer}
use Rattle.sheets.specs.declared.ReadRequest.{ReadRequest}
use Rattle.sheets.specs.declared.ReadPlan.{ReadPlan}
use Rattle.sheets.specs.declared.Written.{Written}

-- the number of reading, or else that of planning
abbrev pub planning_number : ReadRequest → ℕ
planning_number r = then_number r.number (planned r.set).number

-- the plan of a request that was read: its set, the least allocation, and that number
abbrev pub plan_of : ReadRequest → ReadPlan
plan_of r = record { set = r.set; alloc = (planned r.set).alloc; number = planning_number r }

-- what writing answers, if nothing was refused before
unfoldable pub answer_or : ℕ → Written → Written
answer_or zero written = written
answer_or (suc k) written = refused_writing (suc k)

-- what the buffer then holds, if nothing was refused before
unfoldable pub buffer_or : ℕ → List ℕ → List ℕ → List ℕ
buffer_or zero after before = after
buffer_or (suc k) after before = before

-- the answer: the first refusal of reading, planning and writing, or the sheet's length
abbrev pub plan_sheet_answer : ReadRequest → List ℕ → Written
plan_sheet_answer r out = answer_or (planning_number r) (written_answer true r.set (planned r.set).alloc out)

-- the buffer: the plan's sheet in front, all behind it as it was; refused, no byte has changed
abbrev pub plan_sheet_buffer : ReadRequest → List ℕ → List ℕ
plan_sheet_buffer r out = buffer_or (planning_number r) (written_buffer true r.set (planned r.set).alloc out) out

-- the plan of the request that was read was written
pub record WrotePlan (r : ReadRequest) (before after : List ℕ) (w : Written) : Type 0 where
  pub answer : w ≡ plan_sheet_answer r before
  pub buffer : after ≡ plan_sheet_buffer r before
  -- the sheet lies inside the buffer; both lines say so, for whoever lends its bytes
  pub fits : w.length ≤ length after
  pub counts : w.length ≡ length (take w.length after)
