-- An entry of a log: a visit or a mark. `Visit` and `Mark` have the two kinds and their fields; here is what holds of any entry.
use Rattle.std.specs.Prelude.{ℕ, ◌+◌, cond, List}
use Rattle.log_records.specs.Visit.{visit_length, visit_bytes, visit_at, blank_visit, VisitFits, visit_stands}
use Rattle.log_records.specs.Mark.{mark_length, mark_bytes, mark_at, MarkFits, mark_stands}
use Rattle.log_records.specs.declared.Entry.{Entry}
use Rattle.log_records.specs.declared.Entry.TheVariants.{Visit, Mark}
use Rattle.log_records.specs.declared.NextEntry.{NextEntry}

-- its field
abbrev pub entry_bytes : Entry → List ℕ
entry_bytes (Visit v) = visit_bytes v
entry_bytes (Mark m) = mark_bytes m

-- how many bytes that has
abbrev pub entry_length : Entry → ℕ
entry_length (Visit v) = visit_length
entry_length (Mark m) = mark_length

-- its numbers fit its field, as those of every entry that is read do
abbrev pub EntryFits : Entry → Type 0
EntryFits (Visit v) = VisitFits v
EntryFits (Mark m) = MarkFits m

-- where no entry stands
abbrev pub blank_entry : Entry
blank_entry = Visit blank_visit

-- the entry whose field stands at the place a, and the place behind it; the blank entry and 0 where none does
unfoldable pub next_entry : List ℕ → ℕ → NextEntry
next_entry bs a =
    cond (visit_stands bs a) (record { entry = Visit (visit_at bs a); next = a + visit_length })
    (cond (mark_stands bs a) (record { entry = Mark (mark_at bs a); next = a + mark_length })
    (record { entry = blank_entry; next = 0 }))
