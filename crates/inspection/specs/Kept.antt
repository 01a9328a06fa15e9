-- An inspection that a host keeps: how it begins with a plan, what a record makes of it, and what it is answered.
use Rattle.std.specs.Prelude.{◌≡◌, ℕ, zero, suc, ◌+◌, ◌%◌, ◌^◌, Bool, cond, ◌&&◌, ◌||◌, List, ◌==◌, nat_lt}
use Rattle.units.specs.Numbers.{accepted, wrong_shape, out_of_range, unsound, most_stations}
use Rattle.units.specs.Judging.{or_else, between}
use Rattle.sets.specs.Judged.{zeros, blank_set}
use Rattle.sets.specs.Lent.{set_of}
use Rattle.sets.specs.declared.Head.{Head}
use Rattle.sets.specs.declared.Set.{Set}
use Rattle.plans.specs.Lent.{alloc_of}
use Rattle.plans.specs.Planned.{judged_plan}
use Rattle.plans.specs.declared.Alloc.{Alloc}
use Rattle.log_records.specs.Visit.{visit_tag, blank_visit}
use Rattle.log_records.specs.Mark.{mark_tag, blank_mark}
use Rattle.log_records.specs.declared.MarkEntry.{MarkEntry}
use Rattle.log_records.specs.declared.Entry.{Entry}
use Rattle.log_records.specs.declared.Entry.TheVariants.{Visit, Mark}
use Rattle.inspection.specs.Opening.{begun}
use Rattle.inspection.specs.Records.{inspected}
use Rattle.inspection.specs.Findings.{compared}
use Rattle.inspection.specs.declared.Course.{Course}
use Rattle.inspection.specs.declared.Inspection.{Inspection}
use Rattle.inspection.specs.declared.Compared.{Compared}
use Rattle.inspection.specs.declared.Step.{Step}
use Rattle.inspection.specs.declared.LogEntry.{LogEntry}
use Rattle.inspection.specs.declared.Progress.{Progress}
use Rattle.inspection.specs.declared.KeptInspection.{KeptInspection}
use Rattle.inspection.specs.declared.KeptNext.{KeptNext}
use Rattle.inspection.specs.declared.BegunInspection.{BegunInspection}
use Rattle.inspection.specs.declared.RecordFinding.{RecordFinding}

-- the inspection of its parts
abbrev pub standing : List ℕ → List ℕ → List ℕ → Course → ℕ → ℕ → Inspection
standing base sent mark course records rule =
    record { base = base; sent = sent; mark = mark; course = course; records = records; rule = rule }

-- ---- the numbers that a record is answered

abbrev pub none_compared : Compared
none_compared = record { expected = 0; found = 0 }

-- by the rule that is broken; by none, none
unfoldable pub compared_where : ℕ → Compared → Compared
compared_where zero x = none_compared
compared_where (suc k) x = x

-- ---- one record on lent arrays, where no rule is broken yet: the inspection is s before it and s' behind it, with what was compared. C, D and P have no part in it
pub record SteppedOn (s : Inspection) (head : Head) (n : ℕ) (w shares : List ℕ) (e : Entry) (s' : Inspection) (x : Compared) : Type 0 where
  pub moved : (c d p : List ℕ) → s' ≡ inspected s (set_of head n w c d p) (alloc_of shares) e
  pub compared : (c d p : List ℕ) → x ≡ compared_where s'.rule (compared s' (set_of head n w c d p) (alloc_of shares) e)

-- a mark: of the plan N alone has a part in it, and of the arrays the marks, mark before it and mark' behind it
pub record MarkedOn (mark : List ℕ) (n : ℕ) (course : Course) (records : ℕ) (m : MarkEntry) (mark' : List ℕ) (r : Step) : Type 0 where
  pub stepped : (base sent w shares : List ℕ) (head : Head)
      → SteppedOn (standing base sent mark course records 0) head n w shares (Mark m) (standing base sent mark' r.course r.records r.rule) r.compared

-- ---- what is kept

-- the ring as a whole, of its numbers
abbrev pub course_in : Progress → Course
course_in k =
    record {
      token = k.token;
      clock = k.clock;
      unused = k.unused;
      first = (k.visited == 0);
      start = k.start;
      span = k.span;
    }

-- and in numbers
abbrev pub progress_of : Course → ℕ → ℕ → Progress
progress_of c records rule =
    record {
      records = records;
      token = c.token;
      clock = c.clock;
      unused = c.unused;
      start = c.start;
      span = c.span;
      visited = cond c.first 0 1;
      rule = rule;
    }

-- what was lent: w and S; then the arrays that a record changes; the header and the numbers
abbrev pub kept_of : List ℕ → List ℕ → List ℕ → List ℕ → List ℕ → Head → ℕ → Progress → KeptInspection
kept_of w s base sent mark head n progress =
    record { head = head; n = n; w = w; s = s; base = base; sent = sent; mark = mark; progress = progress }

-- the plan that it goes by: C, D and P were judged when it began, and no record is held to them
abbrev pub set_in : KeptInspection → Set
set_in k = set_of k.head k.n k.w zeros zeros zeros

abbrev pub alloc_in : KeptInspection → Alloc
alloc_in k = alloc_of k.s

-- the inspection that is kept
abbrev pub inspection_in : KeptInspection → Inspection
inspection_in k =
    standing k.base k.sent k.mark (course_in k.progress) k.progress.records k.progress.rule

-- an inspection as it is kept, with its plan
abbrev pub keeping : Set → Alloc → Inspection → KeptInspection
keeping t a s =
    kept_of t.w a.s s.base s.sent s.mark t.head t.n (progress_of s.course s.records s.rule)

-- ---- beginning

-- the blank one: every number 0
abbrev pub blank_kept : KeptInspection
blank_kept =
    kept_of zeros zeros zeros zeros zeros blank_set.head 0
    (record { records = 0; token = 0; clock = 0; unused = 0; start = 0; span = 0; visited = 0; rule = 0 })

unfoldable pub begun_with : ℕ → KeptInspection → BegunInspection
begun_with zero k = record { inspection = k; number = 0 }
begun_with (suc number) k = record { inspection = blank_kept; number = suc number }

-- a plan that a log could have, by 2, 4, 5 and 7 of reading one: its inspection before the first record
abbrev pub inspection_begun : Set → Alloc → BegunInspection
inspection_begun t a = begun_with (judged_plan t a) (keeping t a (begun t a))

-- ---- a record that is handed in

abbrev pub is_record : LogEntry → Bool
is_record x = x.kind == visit_tag || x.kind == mark_tag

-- the entry, by its kind
unfoldable pub entry_of : LogEntry → Entry
entry_of x = cond (x.kind == visit_tag) (Visit x.visit) (Mark x.mark)

-- and back: an entry, and the place behind it: the kind is its field's tag, and the numbers of the other kind are 0
unfoldable pub told_of : Entry → ℕ → LogEntry
told_of (Visit v) next = record { kind = visit_tag; visit = v; mark = blank_mark; next = next }
told_of (Mark m) next = record { kind = mark_tag; visit = blank_visit; mark = m; next = next }

-- what a log's field has one byte for is below 256
unfoldable pub in_field : Entry → Bool
in_field (Visit v) = nat_lt v.station 256
in_field (Mark m) = nat_lt m.station 256 && nat_lt m.mark 256

-- 8: no inspection was begun there; 2: neither a visit nor a mark; 4: no field of a log holds its numbers
unfoldable pub record_number : ℕ → LogEntry → ℕ
record_number n x =
    or_else (between 1 most_stations n) unsound
    (or_else (is_record x) wrong_shape (or_else (in_field (entry_of x)) out_of_range accepted))

-- ---- what a record makes of it

-- a refused one changes nothing
unfoldable pub recorded_with : ℕ → KeptInspection → Entry → KeptInspection
recorded_with zero k e = keeping (set_in k) (alloc_in k) (inspected (inspection_in k) (set_in k) (alloc_in k) e)
recorded_with (suc number) k e = k

abbrev pub recorded : KeptInspection → LogEntry → KeptInspection
recorded k x = recorded_with (record_number k.n x) k (entry_of x)

-- ---- and what it is answered

-- the record that was looked at last: the one that breaks a rule stands behind those that keep every rule
unfoldable pub last_record : ℕ → ℕ → ℕ
last_record records rule = cond (rule == 0) records ((records + 1) % 2 ^ 64)

-- with the inspection before and behind it; behind a broken rule nothing is compared
unfoldable pub compared_at : Inspection → Inspection → Set → Alloc → Entry → Compared
compared_at s s' t a e = cond (s.rule == 0) (compared_where s'.rule (compared s' t a e)) none_compared

abbrev pub answer_of : ℕ → ℕ → Compared → RecordFinding
answer_of records rule x =
    record { «record» = last_record records rule; expected = x.expected; found = x.found; rule = rule; number = 0 }

-- the numbers and the answer of an accepted record
abbrev pub next_of : Course → ℕ → ℕ → Compared → KeptNext
next_of c records rule x = record { progress = progress_of c records rule; number = 0; answer = answer_of records rule x }

abbrev pub record_finding : Inspection → Set → Alloc → Entry → RecordFinding
record_finding s t a e =
    answer_of (inspected s t a e).records (inspected s t a e).rule (compared_at s (inspected s t a e) t a e)

abbrev pub refused_record : ℕ → RecordFinding
refused_record number = record { «record» = 0; expected = 0; found = 0; rule = 0; number = number }

unfoldable pub answered_with : ℕ → KeptInspection → Entry → RecordFinding
answered_with zero k e = record_finding (inspection_in k) (set_in k) (alloc_in k) e
answered_with (suc number) k e = refused_record (suc number)

abbrev pub answered : KeptInspection → LogEntry → RecordFinding
answered k x = answered_with (record_number k.n x) k (entry_of x)

-- ---- a record on a kept inspection whose arrays are lent: k before it and k' behind it, with the numbers that come back
pub record InspectedOn (k : KeptInspection) (x : LogEntry) (k' : KeptInspection) (a : KeptNext) : Type 0 where
  pub kept : k' ≡ recorded k x
  pub answered : a.answer ≡ answered k x
  pub number : a.number ≡ a.answer.number
