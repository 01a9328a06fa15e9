-- What `inspect PLAN` prints of the plan sheet in PLAN and of a log (the yard's question): which of the two is refused, what differs from the log's plan, or what was found in the log.
use Rattle.std.specs.Prelude.{ℕ, ◌≡◌, Bool, cond, not, ◌&&◌, List, [], ◌∷◌, ◌++◌, eqb, leb, length}
use Rattle.units.specs.Numbers.{most_stations}
use Rattle.sets.specs.declared.Set.{Set}
use Rattle.plans.specs.declared.Alloc.{Alloc}
use Rattle.sheets.specs.declared.ReadPlan.{ReadPlan}
use Rattle.text.specs.Text.{line, page_size, Printed}
use Rattle.differences.specs.Differences.{differences, is_same_plan}
use Rattle.command_diff.specs.DiffText.{lines_of, side_or}
use Rattle.inspection_stream.specs.Inspecting.{inspect_number}
use Rattle.inspection_stream.specs.declared.Inspecting.{Inspecting}
use Rattle.command_inspect.specs.FindingText.{finding_text, is_accepted}
use Rattle.command_inspect.specs.declared.Found.{Found}

-- ---- words

-- "plan"
abbrev pub plan_word : List ℕ
plan_word = 112 ∷ 108 ∷ 97 ∷ 110 ∷ []

-- "another"
abbrev pub another_word : List ℕ
another_word = 97 ∷ 110 ∷ 111 ∷ 116 ∷ 104 ∷ 101 ∷ 114 ∷ []

-- `another plan`
abbrev pub another_line : List ℕ
another_line = line (another_word ∷ plan_word ∷ [])

-- ---- another plan

-- the log was read, and its plan differs from this one
abbrev pub is_another : Set → Alloc → Inspecting → Bool
is_another t a k = eqb (inspect_number k) 0 && not (is_same_plan t a k.start.set k.start.alloc)

-- the lines of `diff`; none where the new plan has more stations than there are, which no log's has
unfoldable pub lines_to : Set → Alloc → Set → Alloc → List ℕ
lines_to t a u b = cond (leb u.n most_stations) (lines_of (differences t a u b)) []

-- `another plan`, and what differs
abbrev pub another_text : Set → Alloc → Set → Alloc → List ℕ
another_text t a u b = another_line ++ lines_to t a u b

-- ---- all of it

-- a log, against a plan that was read: what differs where its plan is another one, else what `inspect` prints of it
unfoldable pub log_text : Set → Alloc → Inspecting → List ℕ
log_text t a k = cond (is_another t a k) (another_text t a k.start.set k.start.alloc) (finding_text k)

-- a plan sheet and a log: `plan refused N` before all else
abbrev pub answer_text : ReadPlan → Inspecting → List ℕ
answer_text p k = side_or plan_word p.number (log_text p.set p.alloc k)

-- the log's plan is no other one, and the log is accepted
abbrev pub is_kept : Set → Alloc → Inspecting → Bool
is_kept t a k = not (is_another t a k) && is_accepted k

-- the plan sheet is read too
abbrev pub is_answered : ReadPlan → Inspecting → Bool
is_answered p k = eqb p.number 0 && is_kept p.set p.alloc k

-- the answer on a log stands on a page
pub record LogAnswered (t : Set) (a : Alloc) (k : Inspecting) (before after : List ℕ) (r : Found) : Type 0 where
  pub printed : Printed (log_text t a k) before after r.length
  pub accepted : r.accepted ≡ is_kept t a k

-- what is handed back: the text stands at the start of the page, and whether the log is accepted; a page that is too small gets nothing
pub record AnsweredOn (p : ReadPlan) (k : Inspecting) (before after : List ℕ) (r : Found) : Type 0 where
  pub printed : Printed (answer_text p k) before after r.length
  pub accepted : r.accepted ≡ (leb page_size (length before) && is_answered p k)
