-- What is promised of what `inspect` prints; `proofs/Promised.antt` proves it. The log may come in pieces: `inspection_stream` promises that what is kept is then `inspect_start` of the whole log.
use Rattle.std.specs.Prelude.{ℕ, ◌^◌, ◌<◌, ◌≡◌, true, List, [], ◌∷◌, ◌++◌, ◌≢◌, ◌↔◌}
use Rattle.log_records.specs.declared.VisitEntry.{VisitEntry}
use Rattle.log_records.specs.declared.MarkEntry.{MarkEntry}
use Rattle.log_records.specs.declared.Entry.{Entry}
use Rattle.log_records.specs.declared.Entry.TheVariants.{Visit, Mark}
use Rattle.logs.specs.Reading.{read_log, entries_in}
use Rattle.inspection.specs.Records.{inspection_of}
use Rattle.inspection.specs.Findings.{compared, finding_in}
use Rattle.text.specs.Text.{refused_line}
use Rattle.inspection_stream.specs.Inspecting.{inspect_over, inspect_start}
use Rattle.inspection_stream.specs.Promised.{Breaks}
use Rattle.inspection_stream.specs.declared.Inspecting.{Inspecting}
use Rattle.command_inspect.specs.FindingText.{accepted_line, record_line, people_line, finding_text, is_accepted}

-- the numbers of the line for people are those of the record that is named, and a start is counted from the visit before it; the record before it chooses the words
pub record Names (bs text : List ℕ) : Type 0 where
  pub before : Entry
  pub entry : Entry
  pub breaks : Breaks (read_log bs).set (read_log bs).alloc (entries_in bs) (finding_in bs).«record» before entry
  pub lines : text
      ≡ record_line (finding_in bs).«record» (finding_in bs).rule
      ++ people_line (finding_in bs).rule (read_log bs).set.head.frame before entry
      (compared (inspection_of (read_log bs).set (read_log bs).alloc (entries_in bs)) (read_log bs).set
      (read_log bs).alloc entry)

-- whatever bytes come, it prints the same and ends the same
abbrev pub SaidAlready : Inspecting → List ℕ → Type 0
SaidAlready k bs = (finding_text (inspect_over k bs) ≡ finding_text k) × (is_accepted (inspect_over k bs) ≡ is_accepted k)

-- ---- lines that are promised to the byte, each with its end

-- "accepted 26"
abbrev pub accepted_said : List ℕ
accepted_said = 97 ∷ 99 ∷ 99 ∷ 101 ∷ 112 ∷ 116 ∷ 101 ∷ 100 ∷ 32 ∷ 50 ∷ 54 ∷ 10 ∷ []

-- "record 9 station"
abbrev pub station_broken : List ℕ
station_broken = 114 ∷ 101 ∷ 99 ∷ 111 ∷ 114 ∷ 100 ∷ 32 ∷ 57 ∷ 32 ∷ 115 ∷ 116 ∷ 97 ∷ 116 ∷ 105 ∷ 111 ∷ 110 ∷ 10 ∷ []

-- "record 9 start"
abbrev pub start_broken : List ℕ
start_broken = 114 ∷ 101 ∷ 99 ∷ 111 ∷ 114 ∷ 100 ∷ 32 ∷ 57 ∷ 32 ∷ 115 ∷ 116 ∷ 97 ∷ 114 ∷ 116 ∷ 10 ∷ []

-- "record 9 limit"
abbrev pub limit_broken : List ℕ
limit_broken = 114 ∷ 101 ∷ 99 ∷ 111 ∷ 114 ∷ 100 ∷ 32 ∷ 57 ∷ 32 ∷ 108 ∷ 105 ∷ 109 ∷ 105 ∷ 116 ∷ 10 ∷ []

-- "record 9 synchronous"
abbrev pub synchronous_broken : List ℕ
synchronous_broken =
    114 ∷ 101 ∷ 99 ∷ 111 ∷ 114 ∷ 100 ∷ 32 ∷ 57 ∷ 32 ∷ 115 ∷ 121 ∷ 110 ∷ 99 ∷ 104 ∷ 114 ∷ 111 ∷ 110 ∷ 111 ∷ 117 ∷ 115 ∷
    10 ∷ []

-- "record 9 asynchronous"
abbrev pub asynchronous_broken : List ℕ
asynchronous_broken =
    114 ∷ 101 ∷ 99 ∷ 111 ∷ 114 ∷ 100 ∷ 32 ∷ 57 ∷ 32 ∷ 97 ∷ 115 ∷ 121 ∷ 110 ∷ 99 ∷ 104 ∷ 114 ∷ 111 ∷ 110 ∷ 111 ∷ 117 ∷
    115 ∷ 10 ∷ []

-- "expected a station below 4 and mark 0 or 1, found 5 2"
abbrev pub mark_compared : List ℕ
mark_compared =
    101 ∷ 120 ∷ 112 ∷ 101 ∷ 99 ∷ 116 ∷ 101 ∷ 100 ∷ 32 ∷ 97 ∷ 32 ∷ 115 ∷ 116 ∷ 97 ∷ 116 ∷ 105 ∷ 111 ∷ 110 ∷ 32 ∷ 98 ∷
    101 ∷ 108 ∷ 111 ∷ 119 ∷ 32 ∷ 52 ∷ 32 ∷ 97 ∷ 110 ∷ 100 ∷ 32 ∷ 109 ∷ 97 ∷ 114 ∷ 107 ∷ 32 ∷ 48 ∷ 32 ∷ 111 ∷ 114 ∷ 32 ∷
    49 ∷ 44 ∷ 32 ∷ 102 ∷ 111 ∷ 117 ∷ 110 ∷ 100 ∷ 32 ∷ 53 ∷ 32 ∷ 50 ∷ 10 ∷ []

-- "expected 19 ticks after the record before, found 20"
abbrev pub start_after_visit : List ℕ
start_after_visit =
    101 ∷ 120 ∷ 112 ∷ 101 ∷ 99 ∷ 116 ∷ 101 ∷ 100 ∷ 32 ∷ 49 ∷ 57 ∷ 32 ∷ 116 ∷ 105 ∷ 99 ∷ 107 ∷ 115 ∷ 32 ∷ 97 ∷ 102 ∷
    116 ∷ 101 ∷ 114 ∷ 32 ∷ 116 ∷ 104 ∷ 101 ∷ 32 ∷ 114 ∷ 101 ∷ 99 ∷ 111 ∷ 114 ∷ 100 ∷ 32 ∷ 98 ∷ 101 ∷ 102 ∷ 111 ∷ 114 ∷
    101 ∷ 44 ∷ 32 ∷ 102 ∷ 111 ∷ 117 ∷ 110 ∷ 100 ∷ 32 ∷ 50 ∷ 48 ∷ 10 ∷ []

-- "expected 19 ticks after the visit before, found 20"
abbrev pub start_after_mark : List ℕ
start_after_mark =
    101 ∷ 120 ∷ 112 ∷ 101 ∷ 99 ∷ 116 ∷ 101 ∷ 100 ∷ 32 ∷ 49 ∷ 57 ∷ 32 ∷ 116 ∷ 105 ∷ 99 ∷ 107 ∷ 115 ∷ 32 ∷ 97 ∷ 102 ∷
    116 ∷ 101 ∷ 114 ∷ 32 ∷ 116 ∷ 104 ∷ 101 ∷ 32 ∷ 118 ∷ 105 ∷ 115 ∷ 105 ∷ 116 ∷ 32 ∷ 98 ∷ 101 ∷ 102 ∷ 111 ∷ 114 ∷ 101 ∷
    44 ∷ 32 ∷ 102 ∷ 111 ∷ 117 ∷ 110 ∷ 100 ∷ 32 ∷ 50 ∷ 48 ∷ 10 ∷ []

pub record Promised : Type 0 where
  -- a log that is refused: `refused`, and the number of the whole log's finding
  pub refused : (bs : List ℕ)
      → (finding_in bs).number ≢ 0 → finding_text (inspect_start bs) ≡ refused_line (finding_in bs).number
  -- one that is accepted: `accepted`, and its records
  pub accepted : (bs : List ℕ)
      → (finding_in bs).number ≡ 0 → (finding_in bs).records < 2 ^ 64 → (finding_in bs).rule ≡ 0
      → finding_text (inspect_start bs) ≡ accepted_line (finding_in bs).records
  -- one with a record that breaks a rule: that record, the rule, and the numbers that were compared
  pub broken : (bs : List ℕ)
      → (finding_in bs).number ≡ 0 → (finding_in bs).records < 2 ^ 64 → (finding_in bs).rule ≢ 0
      → Names bs (finding_text (inspect_start bs))
  -- the program stops reading at a fault of the log: no byte behind it changes the answer
  pub fault_ends : (k : Inspecting) (bs : List ℕ) → k.gathered.number ≢ 0 → SaidAlready k bs
  -- the program ends with 0 exactly for an accepted log
  pub status : (bs : List ℕ)
      → (is_accepted (inspect_start bs) ≡ true) ↔ (((finding_in bs).number ≡ 0) × ((finding_in bs).rule ≡ 0))
  -- to the byte: a log of 26 records is `accepted 26`, and the ninth record breaks rule 1 to 5 as `record 9 station` to `record 9 asynchronous`
  pub accepted_worded : accepted_line 26 ≡ accepted_said
  pub rules_worded : record_line 9 1 ∷ record_line 9 2 ∷ record_line 9 3 ∷ record_line 9 4 ∷ record_line 9 5 ∷ []
      ≡ station_broken ∷ start_broken ∷ limit_broken ∷ synchronous_broken ∷ asynchronous_broken ∷ []
  -- of a mark N comes first, then the record's station, then its mark
  pub mark_worded : (rule longest : ℕ) (before : Entry)
      → people_line rule longest before (Mark (record { station = 5; mark = 2 })) (record { expected = 4; found = 5 })
      ≡ mark_compared
  -- a start is told after the record before where that is a visit, and after the visit before where it is a mark
  pub start_worded : (longest : ℕ) (v : VisitEntry)
      → ((b : VisitEntry)
      → people_line 2 longest (Visit b) (Visit v) (record { expected = 19; found = 20 }) ≡ start_after_visit)
      × ((m : MarkEntry)
      → people_line 2 longest (Mark m) (Visit v) (record { expected = 19; found = 20 }) ≡ start_after_mark)
