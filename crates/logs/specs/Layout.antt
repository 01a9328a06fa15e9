-- How a log is laid out (02, No. 5 and 10): a plan's fields without the end, then a field for each record, then the end.
use Rattle.std.specs.Prelude.{ℕ, ◌+◌, true, List, [], ◌∷◌, ◌++◌, length}
use Rattle.sets.specs.declared.Set.{Set}
use Rattle.plans.specs.declared.Alloc.{Alloc}
use Rattle.log_records.specs.Entry.{entry_bytes, EntryFits}
use Rattle.log_records.specs.declared.Entry.{Entry}
use Rattle.sheets.specs.Layout.{fields_of, end_bytes, sheet_length}

-- the fields of the records, the first one first
unfoldable pub entries_bytes : List Entry → List ℕ
entries_bytes [] = []
entries_bytes (e ∷ es) = entry_bytes e ++ entries_bytes es

-- the log of a plan and its records
unfoldable pub log_of : Set → Alloc → List Entry → List ℕ
log_of t a es = fields_of true t a ++ entries_bytes es ++ end_bytes

-- how many bytes it has: those of the plan sheet, and those of the records: 20 of a visit, 5 of a mark
abbrev pub log_length : Set → List Entry → ℕ
log_length t es = sheet_length true t + length (entries_bytes es)

-- the numbers of all entries fit their fields
abbrev pub AllFit : List Entry → Type 0
AllFit [] = Unit {0}
AllFit (e ∷ es) = EntryFits e × AllFit es
