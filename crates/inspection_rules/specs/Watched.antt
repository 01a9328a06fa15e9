-- A ring that is watched while it runs: an inspection that a host keeps is begun with the ring's plan, and each record is handed in as it comes.
use Rattle.std.specs.Prelude.{◌≡◌, List, [], ◌∷◌, ◌++◌, ℕ}
use Rattle.log_records.specs.declared.Entry.{Entry}
use Rattle.logs.specs.Reading.{read_log, entries_in}
use Rattle.inspection.specs.Records.{inspection_of}
use Rattle.inspection.specs.Findings.{finding_of, finding_in}
use Rattle.inspection.specs.Kept.{inspection_in, inspection_begun, told_of, recorded, record_finding, answered}
use Rattle.inspection.specs.declared.Inspection.{Inspection}
use Rattle.inspection.specs.declared.KeptInspection.{KeptInspection}

-- what is kept when these entries have been handed in, one after another; the place behind an entry is not looked at
unfoldable pub handed_all : KeptInspection → List Entry → KeptInspection
handed_all k [] = k
handed_all k (e ∷ es) = handed_all (recorded k (told_of e 0)) es

-- what is kept behind these entries of a log, begun with the log's plan; and the inspection of just these
abbrev pub kept_behind : List ℕ → List Entry → KeptInspection
kept_behind bs es = handed_all (inspection_begun (read_log bs).set (read_log bs).alloc).inspection es

abbrev pub inspected_behind : List ℕ → List Entry → Inspection
inspected_behind bs es = inspection_of (read_log bs).set (read_log bs).alloc es

-- of a log that is read; `AllBytes` holds of any slice that is lent
pub record Watched (bs : List ℕ) : Type 0 where
  -- an inspection begins with its plan
  pub begins : (inspection_begun (read_log bs).set (read_log bs).alloc).number ≡ 0
  -- whatever records have come, and whatever are to come: what is kept is the inspection of those that have
  pub keeps : (come rest : List Entry)
      → entries_in bs ≡ come ++ rest → inspection_in (kept_behind bs come) ≡ inspected_behind bs come
  -- and the record that comes next is answered by it: its number, the rule that it breaks, and what was expected and found by that rule
  pub answers : (come rest : List Entry) (e : Entry) (next : ℕ) → entries_in bs ≡ come ++ e ∷ rest
      → answered (kept_behind bs come) (told_of e next)
      ≡ record_finding (inspected_behind bs come) (read_log bs).set (read_log bs).alloc e
  -- behind all of them the finding is that of the whole log
  pub finding : finding_of (inspection_in (kept_behind bs (entries_in bs))) (read_log bs).records ≡ finding_in bs
