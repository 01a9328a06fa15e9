-- What an inspection compared at the rule that is broken; and what the inspection of a whole log answers, for any bytes whatever.
use Rattle.std.specs.Prelude.{ℕ, zero, suc, ◌+◌, ◌%◌, ◌^◌, cond, List, ◌==◌}
use Rattle.sets.specs.declared.Set.{Set}
use Rattle.plans.specs.declared.Alloc.{Alloc}
use Rattle.log_records.specs.declared.VisitEntry.{VisitEntry}
use Rattle.log_records.specs.declared.Entry.{Entry}
use Rattle.log_records.specs.declared.Entry.TheVariants.{Visit, Mark}
use Rattle.logs.specs.Reading.{read_log, entries_in}
use Rattle.inspection.specs.Counter.{ticks_between}
use Rattle.inspection.specs.Rules.{expected}
use Rattle.inspection.specs.Records.{inspection_of}
use Rattle.inspection.specs.declared.Inspection.{Inspection}
use Rattle.inspection.specs.declared.Expected.{Expected}
use Rattle.inspection.specs.declared.Compared.{Compared}
use Rattle.inspection.specs.declared.Finding.{Finding}

-- ---- the numbers that were compared

-- by rule k: what a visit must say, and what it says; the start as ticks after the visit before; of the asynchronous amount the limit, below which each frame began
unfoldable pub visit_compared : ℕ → Expected → VisitEntry → Compared
visit_compared k x v =
    cond (k == 1) (record { expected = x.station; found = v.station })
    (cond (k == 2) (record { expected = x.span; found = ticks_between x.last v.start })
    (cond (k == 3) (record { expected = x.limit; found = v.limit })
    (cond (k == 4) (record { expected = x.share; found = v.synchronous })
    (record { expected = x.limit; found = v.asynchronous }))))

-- of a mark: N, below which its station must be, and its station
abbrev pub compared_by : ℕ → Expected → Entry → Compared
compared_by k x (Visit v) = visit_compared k x v
compared_by k x (Mark m) = record { expected = x.count; found = m.station }

abbrev pub compared : Inspection → Set → Alloc → Entry → Compared
compared s t a e = compared_by s.rule (expected s t a) e

-- ---- the finding

-- the number of the record that breaks a rule: it stands behind those that keep every rule; 0 where none breaks one
unfoldable pub broken_record : Inspection → ℕ
broken_record s = cond (s.rule == 0) 0 ((s.records + 1) % 2 ^ 64)

-- what an inspection has found of a log with so many records
abbrev pub finding_of : Inspection → ℕ → Finding
finding_of s records = record { records = records; «record» = broken_record s; rule = s.rule; number = 0 }

-- a log that is refused has no finding, but for the number
abbrev pub refused_finding : ℕ → Finding
refused_finding k = record { records = 0; «record» = 0; rule = 0; number = k }

unfoldable pub finding_with : ℕ → Finding → Finding
finding_with zero f = f
finding_with (suc k) f = refused_finding (suc k)

-- the finding of a log: its records inspected with its plan
abbrev pub found_in : List ℕ → Finding
found_in bs = finding_of (inspection_of (read_log bs).set (read_log bs).alloc (entries_in bs)) (read_log bs).records

abbrev pub finding_in : List ℕ → Finding
finding_in bs = finding_with (read_log bs).number (found_in bs)
