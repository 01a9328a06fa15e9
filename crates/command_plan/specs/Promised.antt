-- What is promised of what `plan` and `plan-sheet` put out; `proofs/Promised.antt` proves it.
use Rattle.std.specs.Prelude.{ℕ, ◌≡◌, List, [], ◌∷◌, ◌++◌, ◌≢◌, length, drop}
use Rattle.plans.specs.Planned.{planned}
use Rattle.sheets.specs.Layout.{plan_sheet}
use Rattle.sheets.specs.Reading.{read_request}
use Rattle.text.specs.Text.{refused_line, Tells}
use Rattle.command_plan.specs.PlanText.{plan_lines, plan_printed}
use Rattle.command_plan.specs.PlanSheet.{planning_number, plan_sheet_answer, plan_sheet_buffer}

-- ★ the request sheet of the worked ring, and what 01 prints for it
abbrev pub worked_sheet : List ℕ
worked_sheet =
    1 ∷ 0 ∷ 4 ∷ 0 ∷ 0 ∷ 0 ∷ 100 ∷ 2 ∷ 0 ∷ 16 ∷ 0 ∷ 0 ∷ 0 ∷ 2 ∷ 0 ∷ 0 ∷ 0 ∷ 20 ∷ 0 ∷ 0 ∷ 0 ∷ 100 ∷ 0 ∷ 0 ∷
    0 ∷ 100 ∷ 2 ∷ 0 ∷ 16 ∷ 0 ∷ 0 ∷ 0 ∷ 0 ∷ 0 ∷ 0 ∷ 0 ∷ 20 ∷ 0 ∷ 0 ∷ 0 ∷ 100 ∷ 0 ∷ 0 ∷ 0 ∷ 100 ∷ 2 ∷ 0 ∷ 16 ∷
    0 ∷ 0 ∷ 0 ∷ 0 ∷ 0 ∷ 0 ∷ 0 ∷ 20 ∷ 0 ∷ 0 ∷ 0 ∷ 100 ∷ 0 ∷ 0 ∷ 0 ∷ 100 ∷ 2 ∷ 0 ∷ 16 ∷ 0 ∷ 0 ∷ 0 ∷ 0 ∷ 0 ∷
    0 ∷ 0 ∷ 20 ∷ 0 ∷ 0 ∷ 0 ∷ 100 ∷ 0 ∷ 0 ∷ 0 ∷ 100 ∷ 255 ∷ 0 ∷ 0 ∷ []

abbrev pub worked_text : List ℕ
worked_text =
    112 ∷ 108 ∷ 97 ∷ 110 ∷ 32 ∷ 52 ∷ 32 ∷ 49 ∷ 48 ∷ 48 ∷ 32 ∷ 50 ∷ 32 ∷ 49 ∷ 56 ∷ 10 ∷ 48 ∷ 32 ∷ 50 ∷ 48 ∷ 10 ∷ 49 ∷
    32 ∷ 50 ∷
    48 ∷ 10 ∷ 50 ∷ 32 ∷ 50 ∷ 48 ∷ 10 ∷ 51 ∷ 32 ∷ 50 ∷ 48 ∷ 10 ∷ []

pub record Promised : Type 0 where
  -- an empty input prints `refused 1`
  pub empty : plan_printed [] ≡ refused_line 1
  -- ★ the worked ring prints what 01 says, to the byte
  pub worked : plan_printed worked_sheet ≡ worked_text
  -- the plan's text and the plan sheet speak of the same plan
  pub same_plan : (sheet out : List ℕ) → (plan_sheet_answer (read_request sheet) out).number ≡ 0
      → (plan_printed sheet ≡ plan_lines (read_request sheet).set (planned (read_request sheet).set).alloc)
      × (plan_sheet_buffer (read_request sheet) out
      ≡ plan_sheet (read_request sheet).set (planned (read_request sheet).set).alloc
      ++ drop (length (plan_sheet (read_request sheet).set (planned (read_request sheet).set).alloc)) out)
  -- and what is refused is refused alike: the same number, and no byte of a sheet
  pub same_refusal : (sheet out : List ℕ) → planning_number (read_request sheet) ≢ 0
      → (plan_printed sheet ≡ refused_line (planning_number (read_request sheet)))
      × (((plan_sheet_answer (read_request sheet) out).number ≡ planning_number (read_request sheet))
      × (plan_sheet_buffer (read_request sheet) out ≡ out))
  -- the status of `plan` goes by that number: what is printed ends with `refused N` if the number N is not 0, and with no refusal if it is
  pub plan_refused_lem : (sheet : List ℕ) → Tells (plan_printed sheet) (planning_number (read_request sheet))
