-- 02, No. 12: `versions` prints a line for each kept version, oldest first: its number, and the first line of its plan.
use Rattle.std.specs.Prelude.{ℕ, ◌+◌, ◌-◌, cond, List, ◌∷◌, ◌++◌, eqb, take, drop}
use Rattle.units.specs.Places.{at}
use Rattle.sets.specs.Rules.{tau}
use Rattle.sets.specs.declared.Set.{Set}
use Rattle.plans.specs.Rules.{spare_time}
use Rattle.plans.specs.declared.Alloc.{Alloc}
use Rattle.fields.specs.Rows.{rows}
use Rattle.sheets.specs.Reading.{read_plan}
use Rattle.sheets.specs.declared.ReadPlan.{ReadPlan}
use Rattle.text.specs.Text.{decimal_of, space, text_or}
use Rattle.command_plan.specs.PlanText.{plan_line}
use Rattle.versions.specs.Answers.{found_version, versions_in}
use Rattle.versions.specs.declared.VersionsIn.{VersionsIn}

-- the bytes of a version's plan sheet, where they stand
abbrev pub sheet_in : List ℕ → ℕ → List ℕ
sheet_in bs version = take (found_version bs version).length (drop (found_version bs version).place bs)

-- its plan, read
abbrev pub plan_in : List ℕ → ℕ → ReadPlan
plan_in bs version = read_plan (sheet_in bs version)

-- a version's line: its number, and the first line that `plan` prints of such a plan, of an FDDI plan as it printed it
abbrev pub line_words : ℕ → ℕ → ℕ → ℕ → ℕ → List ℕ
line_words version n ttrt τ spare = decimal_of version ++ (space ∷ plan_line n ttrt τ spare)

abbrev pub version_line : ℕ → Set → Alloc → List ℕ
version_line version t a = line_words version t.n t.head.ttrt (tau t) (spare_time t (at a.s))

abbrev pub line_in : List ℕ → ℕ → List ℕ
line_in bs version = version_line version (plan_in bs version).set (plan_in bs version).alloc

-- how many versions there are from the oldest to the newest; none where both are 0
unfoldable pub count_from : ℕ → ℕ → ℕ
count_from oldest newest = cond (eqb oldest 0) 0 (newest - oldest + 1)

abbrev pub count_of : VersionsIn → ℕ
count_of kept = count_from kept.oldest kept.newest

-- the lines, oldest first
abbrev pub version_lines : List ℕ → List ℕ
version_lines bs = rows (count_of (versions_in bs)) (λ i. line_in bs ((versions_in bs).oldest + i))

-- what `versions` prints of a store's bytes, whatever they are
abbrev pub versions_printed : List ℕ → List ℕ
versions_printed bs = text_or (versions_in bs).number (version_lines bs)
