-- The inspection of a log that is read in pieces: its plan stands in the first of them, and a piece may end anywhere.
use Rattle.std.specs.Prelude.{ℕ, Bool, cond, List, [], ◌∷◌, eqb, drop}
use Rattle.sets.specs.declared.Set.{Set}
use Rattle.plans.specs.declared.Alloc.{Alloc}
use Rattle.sheets.specs.Reading.{then_number, plan_start}
use Rattle.sheets.specs.declared.PlanStart.{PlanStart}
use Rattle.log_records.specs.Entry.{blank_entry}
use Rattle.log_records.specs.declared.Entry.{Entry}
use Rattle.log_stream.specs.Pieces.{nothing_read, faulty, number_of, read_over, handed_over}
use Rattle.log_stream.specs.declared.Gathered.{Gathered}
use Rattle.inspection.specs.Opening.{begun}
use Rattle.inspection.specs.Records.{inspected}
use Rattle.inspection_stream.specs.declared.Looked.{Looked}
use Rattle.inspection_stream.specs.declared.Inspecting.{Inspecting}

-- ---- the records

-- none was looked at yet
abbrev pub none_looked : Set → Alloc → Looked
none_looked t a = record { inspection = begun t a; before = blank_entry; last = blank_entry }

-- one record more; behind a broken rule nothing is looked at
unfoldable pub looked_at : Set → Alloc → Looked → Entry → Looked
looked_at t a l e =
    cond (eqb l.inspection.rule 0)
    (record { inspection = inspected l.inspection t a e; before = l.last; last = e }) l

-- one after another
unfoldable pub looked_all : Set → Alloc → Looked → List Entry → Looked
looked_all t a l [] = l
looked_all t a l (e ∷ es) = looked_all t a (looked_at t a l e) es

-- ---- the bytes

-- before the first byte of the records: a plan whose fields have not all passed is a fault, and no record is read
unfoldable pub gathered_from : Bool → ℕ → Gathered
gathered_from passed number = cond passed nothing_read (faulty nothing_read number)

-- the plan was read, and no byte of the records
abbrev pub inspect_from : PlanStart → Inspecting
inspect_from s =
    record { start = s; gathered = gathered_from s.passed s.number; looked = none_looked s.set s.alloc }

-- what is kept behind more bytes of the records
abbrev pub inspect_over : Inspecting → List ℕ → Inspecting
inspect_over k bs =
    record {
      start = k.start;
      gathered = read_over k.gathered bs;
      looked = looked_all k.start.set k.start.alloc k.looked (handed_over k.gathered bs);
    }

-- the first bytes: the plan, and the records among them
abbrev pub inspect_start : List ℕ → Inspecting
inspect_start bs = inspect_over (inspect_from (plan_start bs)) (drop (plan_start bs).at bs)

-- the number when all was read: 1, 2, 3 of the whole log, then its plan's
abbrev pub inspect_number : Inspecting → ℕ
inspect_number k = then_number (number_of k.gathered) k.start.number
