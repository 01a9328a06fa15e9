-- A log that is read for its picture: its inspection, what was seen of its records, and the records that are drawn.
use Rattle.std.specs.Prelude.{ℕ, ◌+◌, ◌-◌, min, max, Bool, false, cond, ◌&&◌, List, [], ◌∷◌, ◌++◌, drop, Option, Some, None, ◌==◌, nat_le, nat_lt}
use Rattle.sheets.specs.Reading.{plan_start}
use Rattle.sheets.specs.declared.PlanStart.{PlanStart}
use Rattle.log_records.specs.declared.Entry.{Entry}
use Rattle.log_records.specs.declared.Entry.TheVariants.{Visit, Mark}
use Rattle.log_records.specs.declared.NextEntry.{NextEntry}
use Rattle.log_stream.specs.Pieces.{stepped, entry_in}
use Rattle.log_stream.specs.declared.Gathered.{Gathered}
use Rattle.inspection.specs.Findings.{broken_record}
use Rattle.inspection_stream.specs.Inspecting.{looked_at, inspect_from}
use Rattle.inspection_stream.specs.declared.Looked.{Looked}
use Rattle.inspection_stream.specs.declared.Inspecting.{Inspecting}
use Rattle.tallies.specs.Laps.{wrapped}
use Rattle.tallies.specs.Tallies.{seen, nothing_seen, is_through}
use Rattle.tallies.specs.declared.Lap.{Lap}
use Rattle.tallies.specs.declared.Seen.{Seen}
use Rattle.picture_stream.specs.declared.Window.{Window}
use Rattle.picture_stream.specs.declared.Watching.{Watching}
use Rattle.tallies.specs.declared.Drawn.{Drawn}
use Rattle.picture_stream.specs.declared.Watched.{Watched}

-- ---- which records are drawn

-- none
abbrev pub no_window : Window
no_window = record { first = 0; end = 0; named = 0 }

-- behind records that have come so far: a visit of a rotation of the window; of the marks the named one alone
abbrev pub is_drawn : Window → Lap → Entry → Bool
is_drawn x l (Visit v) = nat_le x.first l.rotation && nat_lt l.rotation x.end
is_drawn x l (Mark m) = wrapped (l.records + 1) == x.named

-- what is handed out of a record that is drawn
abbrev pub handed_out : List ℕ → Lap → Entry → Drawn
handed_out mark l e = record { lap = l; entry = e; through = is_through mark e }

abbrev pub drawn_of : Seen → Entry → Drawn
drawn_of s e = handed_out s.mark s.course.all e

-- ---- one record more, and one byte more

-- the log that is being read, of its parts
abbrev pub watching_of : PlanStart → Gathered → Looked → Seen → Watching
watching_of start gathered looked seen =
    record { inspecting = record { start = start; gathered = gathered; looked = looked }; seen = seen }

-- the inspection looks at it, and then it is seen
abbrev pub record_watched : Watching → Gathered → Entry → Watching
record_watched k v e =
    let looked = looked_at k.inspecting.start.set k.inspecting.start.alloc k.inspecting.looked e in
    record {
      inspecting = record { start = k.inspecting.start; gathered = v; looked = looked };
      seen =
          seen k.inspecting.start.set.n k.inspecting.start.set.w looked.inspection.rule k.seen e;
    }

-- behind a byte that leaves this of the bytes: it may end a record
unfoldable pub byte_watched : Watching → Gathered → NextEntry → Watching
byte_watched k v got =
    cond (got.next == 0)
    (record {
      inspecting = record { start = k.inspecting.start; gathered = v; looked = k.inspecting.looked };
      seen = k.seen;
    })
    (record_watched k v got.entry)

abbrev pub step_watched : Watching → ℕ → Watching
step_watched k b =
    byte_watched k (stepped k.inspecting.gathered b) (entry_in (stepped k.inspecting.gathered b))

-- the byte ends a record that is drawn
unfoldable pub stops : Window → Seen → NextEntry → Bool
stops x s got = cond (got.next == 0) false (is_drawn x s.course.all got.entry)

abbrev pub stops_at : Window → Watching → ℕ → Bool
stops_at x k b = stops x k.seen (entry_in (stepped k.inspecting.gathered b))

abbrev pub drawn_at : Watching → ℕ → Drawn
drawn_at k b = drawn_of k.seen (entry_in (stepped k.inspecting.gathered b)).entry

-- ---- the bytes

-- before the first byte of the records
abbrev pub watch_from : Inspecting → Watching
watch_from k = record { inspecting = k; seen = nothing_seen }

abbrev pub watch_start : List ℕ → Watching
watch_start head = watch_from (inspect_from (plan_start head))

-- what is handed out
abbrev pub handed : Option Drawn → List Drawn
handed None = []
handed (Some d) = d ∷ []

-- these bytes, which begin at a place, up to the first record that is drawn
unfoldable pub watched_from : Window → Watching → ℕ → List ℕ → Watched
watched_from x k at [] = record { watching = k; at = at; drawn = None }
watched_from x k at (b ∷ bs) =
    cond (stops_at x k b) (record { watching = step_watched k b; at = at + 1; drawn = Some (drawn_at k b) })
    (watched_from x (step_watched k b) (at + 1) bs)

-- all of these bytes, whatever is drawn
unfoldable pub watch_over : Watching → List ℕ → Watching
watch_over k [] = k
watch_over k (b ∷ bs) = watch_over (step_watched k b) bs

-- the records that are drawn on the way, in their order
unfoldable pub drawn_over : Window → Watching → List ℕ → List Drawn
drawn_over x k [] = []
drawn_over x k (b ∷ bs) = cond (stops_at x k b) (drawn_at k b ∷ []) [] ++ drawn_over x (step_watched k b) bs

-- a whole log: the plan is read from its first bytes, and the records behind it
abbrev pub watch_all : List ℕ → Watching
watch_all bs = watch_over (watch_start bs) (drop (plan_start bs).at bs)

abbrev pub drawn_all : Window → List ℕ → List Drawn
drawn_all x bs = drawn_over x (watch_start bs) (drop (plan_start bs).at bs)

-- ---- the window of a log that was read whole

-- how many lines so many rotations are, with one that has begun
unfoldable pub lines_in : Lap → ℕ
lines_in l = wrapped (l.rotation + cond (l.turn == 0) 0 1)

-- at least the line of the named record
unfoldable pub lines_of : Watching → ℕ
lines_of k =
    cond (k.inspecting.looked.inspection.rule == 0) (lines_in k.seen.course.all)
    (max (lines_in k.seen.course.all) (wrapped (k.seen.course.kept.rotation + 1)))

-- at most 60 rotations
abbrev pub most_lines : ℕ
most_lines = 60

-- where a record is named, up to its rotation and two behind it; else the first ones
unfoldable pub last_line : Watching → ℕ
last_line k =
    cond (k.inspecting.looked.inspection.rule == 0) (min most_lines (lines_of k))
    (min (wrapped (k.seen.course.kept.rotation + 3)) (lines_of k))

abbrev pub window_of : Watching → Window
window_of k =
    record {
      first = last_line k - most_lines;
      end = last_line k;
      named = broken_record k.inspecting.looked.inspection;
    }
