-- What is promised of an inspection in pieces; `proofs/Promised.antt` proves it.
use Rattle.std.specs.Prelude.{ℕ, ◌+◌, ◌^◌, ◌≤◌, ◌<◌, ◌≡◌, List, [], ◌∷◌, ◌++◌, ◌⊎◌, ◌≢◌, length}
use Rattle.sets.specs.declared.Set.{Set}
use Rattle.plans.specs.declared.Alloc.{Alloc}
use Rattle.sheets.specs.Reading.{plan_start}
use Rattle.log_records.specs.Entry.{blank_entry}
use Rattle.log_records.specs.declared.Entry.{Entry}
use Rattle.logs.specs.Reading.{read_log, entries_in}
use Rattle.log_stream.specs.Pieces.{first_size}
use Rattle.inspection.specs.Records.{inspection_of}
use Rattle.inspection.specs.Findings.{finding_in, broken_record}
use Rattle.inspection_stream.specs.Inspecting.{inspect_over, inspect_start, inspect_number}
use Rattle.inspection_stream.specs.declared.Inspecting.{Inspecting}

-- the first bytes are enough: they are the whole log, or as many as a plan's fields and one field more can have
abbrev pub Enough : List ℕ → List ℕ → Type 0
Enough head rest = (rest ≡ []) ⊎ (first_size ≤ length head)

-- the last of these records; this one where there is none
unfoldable pub last_or : Entry → List Entry → Entry
last_or e [] = e
last_or e (f ∷ es) = last_or f es

-- the record with this number, counted from 1, is e, the one before it is b, the blank one where it is the first; and it is the first that breaks a rule
pub record Breaks (t : Set) (a : Alloc) (es : List Entry) (number : ℕ) (b e : Entry) : Type 0 where
  pub before : List Entry
  pub behind : List Entry
  pub place : es ≡ before ++ e ∷ behind
  pub counted : number ≡ length before + 1
  pub follows : b ≡ last_or blank_entry before
  pub kept : (inspection_of t a before).rule ≡ 0
  pub broken : (inspection_of t a (before ++ (e ∷ []))).rule ≢ 0

-- whatever bytes come, the number is the same, and it is a refusal
abbrev pub Refused : Inspecting → List ℕ → Type 0
Refused k bs = (inspect_number (inspect_over k bs) ≡ inspect_number k) × (inspect_number k ≢ 0)

pub record Promised : Type 0 where
  -- a piece may end anywhere: what is kept between two pieces is all that the second needs
  pub pieces : (k : Inspecting) (first rest : List ℕ)
      → inspect_over k (first ++ rest) ≡ inspect_over (inspect_over k first) rest
  -- the first piece may be any that is enough, and what comes behind it goes on as if all had been the first piece
  pub first_piece : (head rest : List ℕ)
      → Enough head rest → inspect_over (inspect_start head) rest ≡ inspect_start (head ++ rest)
  -- so the plan is that of the first piece
  pub same_plan : (head rest : List ℕ) → Enough head rest → plan_start (head ++ rest) ≡ plan_start head
  -- and the number is that of reading the whole log
  pub same_number : (bs : List ℕ) → inspect_number (inspect_start bs) ≡ (read_log bs).number
  -- behind a fault of the log nothing is looked at
  pub fault_ends : (k : Inspecting) (bs : List ℕ) → k.gathered.number ≢ 0 → Refused k bs
  -- a log that is read is inspected with its plan, all of its records
  pub same_plan_read : (bs : List ℕ)
      → (read_log bs).number ≡ 0
      → ((inspect_start bs).start.set ≡ (read_log bs).set) × ((inspect_start bs).start.alloc ≡ (read_log bs).alloc)
  pub same_inspection : (bs : List ℕ)
      → (read_log bs).number ≡ 0
      → (inspect_start bs).looked.inspection ≡ inspection_of (read_log bs).set (read_log bs).alloc (entries_in bs)
  -- so rule and record are those of the finding of the whole log
  pub same_rule : (bs : List ℕ)
      → (read_log bs).number ≡ 0 → (inspect_start bs).looked.inspection.rule ≡ (finding_in bs).rule
  pub same_record : (bs : List ℕ)
      → (read_log bs).number ≡ 0 → broken_record (inspect_start bs).looked.inspection ≡ (finding_in bs).«record»
  -- where no rule is broken, its records, fewer than 2 ^ 64, are all counted
  pub same_records : (bs : List ℕ)
      → (read_log bs).number ≡ 0 → (finding_in bs).records < 2 ^ 64 → (finding_in bs).rule ≡ 0
      → (inspect_start bs).looked.inspection.records ≡ (finding_in bs).records
  -- where one is, the record that was looked at last is the one that is named, and the one that is kept beside it stands before it
  pub same_broken : (bs : List ℕ) → (read_log bs).number ≡ 0 → (finding_in bs).records < 2 ^ 64 → (finding_in bs).rule ≢ 0
      → Breaks (read_log bs).set (read_log bs).alloc (entries_in bs) (finding_in bs).«record»
      (inspect_start bs).looked.before (inspect_start bs).looked.last
