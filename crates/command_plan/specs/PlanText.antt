-- 01, "What the program prints": the plan, or `refused` and the number.
use Rattle.std.specs.Prelude.{ℕ, List, [], ◌∷◌, ◌++◌}
use Rattle.units.specs.Places.{at}
use Rattle.sets.specs.Rules.{tau}
use Rattle.sets.specs.declared.Set.{Set}
use Rattle.plans.specs.Rules.{spare_time}
use Rattle.plans.specs.Planned.{planned}
use Rattle.plans.specs.declared.Alloc.{Alloc}
use Rattle.plans.specs.declared.Planned.{Planned}
use Rattle.sheets.specs.declared.ReadRequest.{ReadRequest}
use Rattle.fields.specs.Rows.{rows}
use Rattle.sheets.specs.Reading.{read_request}
use Rattle.text.specs.Text.{decimal_of, line, text_or}

-- "plan"
abbrev pub plan_word : List ℕ
plan_word = 112 ∷ 108 ∷ 97 ∷ 110 ∷ []

-- the first line: `plan`, N, TTRT, τ, A*
abbrev pub plan_line : ℕ → ℕ → ℕ → ℕ → List ℕ
plan_line n ttrt τ spare = line (plan_word ∷ decimal_of n ∷ decimal_of ttrt ∷ decimal_of τ ∷ decimal_of spare ∷ [])

-- a station's line: its number and S
abbrev pub share_line : ℕ → ℕ → List ℕ
share_line i s = line (decimal_of i ∷ decimal_of s ∷ [])

-- the plan: the first line, then a line for each station in ring order
unfoldable pub plan_lines : Set → Alloc → List ℕ
plan_lines t a =
    plan_line t.n t.head.ttrt (tau t) (spare_time t (at a.s))
    ++ rows t.n (λ i. share_line i (at a.s i))

-- the plan of a set, or why there is none
abbrev pub planned_text : Set → Planned → List ℕ
planned_text t p = text_or p.number (plan_lines t p.alloc)

-- the plan of a request that was read, or why there is none
abbrev pub request_text : ReadRequest → List ℕ
request_text r = text_or r.number (planned_text r.set (planned r.set))

-- what `plan` prints of the bytes of a request sheet, whatever they are
abbrev pub plan_printed : List ℕ → List ℕ
plan_printed sheet = request_text (read_request sheet)
