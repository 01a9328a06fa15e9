-- What reading answers, for any bytes whatever.
-- The fields are handed out one after another from the left (`field_reader/specs/Scanned.antt`). Where the walk ends with 0, the numbers that the fields hold are read and judged.
use Rattle.std.specs.Prelude.{ℕ, zero, suc, ◌+◌, ◌*◌, Bool, cond, true, false, ◌||◌, List, leb, eqb}
use Rattle.units.specs.Numbers.{accepted}
use Rattle.units.specs.Places.{fill}
use Rattle.sets.specs.Judged.{judged, blank_set, zeros}
use Rattle.sets.specs.declared.Head.{Head}
use Rattle.sets.specs.declared.Set.{Set}
use Rattle.plans.specs.Planned.{judged_plan, blank_alloc}
use Rattle.plans.specs.declared.Alloc.{Alloc}
use Rattle.fields.specs.Bytes.{number_at}
use Rattle.fields.specs.Fields.{mode_tag, frame_tag, grid_tag, end_tag, end_size, is_allowed, left}
use Rattle.fields.specs.Header.{place_of, given_at}
use Rattle.fields.specs.declared.Passed.{Passed}
use Rattle.field_reader.specs.Scanned.{scanned}
use Rattle.sheets.specs.declared.ReadRequest.{ReadRequest}
use Rattle.sheets.specs.declared.ReadPlan.{ReadPlan}
use Rattle.sheets.specs.declared.PlanStart.{PlanStart}

-- ---- the numbers that are read

-- the number in the four bytes from the place a on; 0 where there are fewer
unfoldable pub number_or_zero : List ℕ → ℕ → ℕ
number_or_zero bs a = cond (leb 4 (left bs a)) (number_at bs a) 0

-- one number from each of n like fields, 0 in the places from n on
abbrev pub column : List ℕ → ℕ → ℕ → ℕ → List ℕ
column bs from step n = fill n (λ i. number_at bs (from + step * i)) zeros

-- the number that the header gives for a tag: that of its field, looked for at its place
abbrev pub number_in : List ℕ → ℕ → ℕ
number_in bs tag = given_at bs (place_of bs tag) tag

abbrev pub head_in : List ℕ → Head
head_in bs =
    record {
      ttrt = number_at bs 3;
      mode = number_in bs mode_tag;
      frame = number_in bs frame_tag;
      grid = number_in bs grid_tag;
    }

-- w, C, D and P of the stations that have passed, 19 bytes each
abbrev pub set_of : List ℕ → Passed → Set
set_of bs p =
    record {
      head = head_in bs;
      n = p.stations;
      w = column bs (p.from + 3) 19 p.stations;
      c = column bs (p.from + 7) 19 p.stations;
      d = column bs (p.from + 11) 19 p.stations;
      p = column bs (p.from + 15) 19 p.stations;
    }

-- S of the allocations that have passed, behind the stations, 7 bytes each
abbrev pub alloc_of : List ℕ → Passed → Alloc
alloc_of bs p = record { s = column bs (p.from + 19 * p.stations + 3) 7 p.allocations }

-- the set and the allocation that the bytes hold: those of the fields that the walk handed out
abbrev pub set_in : Bool → List ℕ → Set
set_in plan bs = set_of bs (scanned plan bs).passed

abbrev pub alloc_in : Bool → List ℕ → Alloc
alloc_in plan bs = alloc_of bs (scanned plan bs).passed

-- ---- the answer

-- the first number if it is a refusal, else what the rest says
unfoldable pub then_number : ℕ → ℕ → ℕ
then_number zero rest = rest
then_number (suc k) rest = suc k

-- a plan is judged with its allocation, a request without
unfoldable pub judged_sheet : Bool → Set → Alloc → ℕ
judged_sheet plan t a = cond plan (judged_plan t a) (judged t)

-- 1, 2, 3 by the first fault from the left; then 4, 5, and 7 for plans
abbrev pub read_number : Bool → List ℕ → ℕ
read_number plan bs = then_number (scanned plan bs).number (judged_sheet plan (set_in plan bs) (alloc_in plan bs))

-- a refused answer is blank
unfoldable pub read_answer : ℕ → Set → Alloc → ReadPlan
read_answer zero t a = record { set = t; alloc = a; number = 0 }
read_answer (suc k) t a = record { set = blank_set; alloc = blank_alloc; number = suc k }

unfoldable pub read_sheet : Bool → List ℕ → ReadPlan
read_sheet plan bs = read_answer (read_number plan bs) (set_in plan bs) (alloc_in plan bs)

-- ---- what a sheet holds, whatever its numbers are

-- with 1, 2 and 3 nothing; else the set and the allocation that the bytes hold, with their judgement: 4, 5 and 7 leave them as they are
unfoldable pub given_answer : ℕ → Bool → Set → Alloc → ReadPlan
given_answer zero plan t a = record { set = t; alloc = a; number = judged_sheet plan t a }
given_answer (suc k) plan t a = record { set = blank_set; alloc = blank_alloc; number = suc k }

-- what fields that have passed answer: what they hold, with its judgement; where that refuses, blank, if it is not to be kept
unfoldable pub fields_answer : Bool → Bool → Set → Alloc → ReadPlan
fields_answer kept plan t a =
    cond (kept || eqb (judged_sheet plan t a) accepted)
    (record { set = t; alloc = a; number = judged_sheet plan t a })
    (record { set = blank_set; alloc = blank_alloc; number = judged_sheet plan t a })

unfoldable pub given_sheet : Bool → List ℕ → ReadPlan
given_sheet plan bs = given_answer (scanned plan bs).number plan (set_in plan bs) (alloc_in plan bs)

-- ---- a plan at the start of any bytes, whatever stands behind it

-- all fields of a sheet but its end have passed: the end may stand there
abbrev pub plan_passed : Passed → Bool
plan_passed p = is_allowed p end_tag end_size

-- where all fields of a plan have passed, the plan, its judgement, and the place behind its fields; else all blank, with the number of the walk and the place where it stopped
unfoldable pub plan_start : List ℕ → PlanStart
plan_start bs =
    cond (plan_passed (scanned true bs).passed)
    (record {
      set = set_in true bs;
      alloc = alloc_in true bs;
      passed = true;
      number = judged_plan (set_in true bs) (alloc_in true bs);
      at = (scanned true bs).at;
    })
    (record {
      set = blank_set;
      alloc = blank_alloc;
      passed = false;
      number = (scanned true bs).number;
      at = (scanned true bs).at;
    })

-- reading a plan sheet
abbrev pub read_plan : List ℕ → ReadPlan
read_plan bs = read_sheet true bs

-- reading a request sheet
abbrev pub read_request : List ℕ → ReadRequest
read_request bs = record { set = (read_sheet false bs).set; number = (read_sheet false bs).number }
