-- A log as text, which `compose` takes: the lines of its plan, then a line for each record.
use Rattle.std.specs.Prelude.{ℕ, true, List, [], ◌∷◌, ◌++◌}
use Rattle.sets.specs.declared.Set.{Set}
use Rattle.plans.specs.declared.Alloc.{Alloc}
use Rattle.log_records.specs.declared.VisitEntry.{VisitEntry}
use Rattle.log_records.specs.declared.MarkEntry.{MarkEntry}
use Rattle.log_records.specs.declared.Entry.{Entry}
use Rattle.log_records.specs.declared.Entry.TheVariants.{Visit, Mark}
use Rattle.text.specs.Text.{decimal_of, line}
use Rattle.command_compose.specs.Compose.{visit_word, mark_word}
use Rattle.sheet_text_rules.specs.ShowText.{sheet_text}

-- `visit STATION START LIMIT SYNC ASYNC`
unfoldable pub visit_line : VisitEntry → List ℕ
visit_line v =
    line
    (visit_word ∷ decimal_of v.station ∷ decimal_of v.start ∷ decimal_of v.limit ∷ decimal_of v.synchronous
    ∷ decimal_of v.asynchronous ∷ [])

-- `mark STATION MARK`
unfoldable pub mark_line : MarkEntry → List ℕ
mark_line m = line (mark_word ∷ decimal_of m.station ∷ decimal_of m.mark ∷ [])

-- the line of an entry
abbrev pub entry_line : Entry → List ℕ
entry_line (Visit v) = visit_line v
entry_line (Mark m) = mark_line m

-- the lines of the entries, the first one first
unfoldable pub entry_lines : List Entry → List ℕ
entry_lines [] = []
entry_lines (e ∷ es) = entry_line e ++ entry_lines es

-- the text of a log
unfoldable pub log_text : Set → Alloc → List Entry → List ℕ
log_text t a es = sheet_text true t a ++ entry_lines es
