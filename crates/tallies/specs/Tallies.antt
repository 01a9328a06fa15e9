-- What was seen of a log's records, record by record: the numbers of each station, in seven columns of 128, of the records that keep every rule; and the marks and the laps of all.
use Rattle.std.specs.Prelude.{◌≡◌, ℕ, ◌+◌, ◌-◌, ◌%◌, ◌^◌, max, Bool, cond, not, List, [], ◌∷◌, replicate, ◌==◌, nat_lt, slice_set}
use Rattle.units.specs.Places.{at, zeros}
use Rattle.log_records.specs.declared.VisitEntry.{VisitEntry}
use Rattle.log_records.specs.declared.MarkEntry.{MarkEntry}
use Rattle.log_records.specs.declared.Entry.{Entry}
use Rattle.log_records.specs.declared.Entry.TheVariants.{Visit, Mark}
use Rattle.tallies.specs.Laps.{wrapped, took_by, no_lap, lapped}
use Rattle.tallies.specs.declared.Course.{Course}
use Rattle.tallies.specs.declared.Seen.{Seen}

-- ---- the columns: the place of station 0 in each

abbrev pub visits_column : ℕ
visits_column = 0

abbrev pub through_column : ℕ
through_column = 128

abbrev pub last_column : ℕ
last_column = 256

abbrev pub longest_column : ℕ
longest_column = 384

abbrev pub most_column : ℕ
most_column = 512

abbrev pub synchronous_column : ℕ
synchronous_column = 640

abbrev pub asynchronous_column : ℕ
asynchronous_column = 768

-- the place of a station in a column: one below 128 is its own place
abbrev pub place_of : ℕ → ℕ
place_of station = station % 128

-- ---- the numbers

-- the number at a place, risen by x
abbrev pub added_at : List ℕ → ℕ → ℕ → List ℕ
added_at xs i x = slice_set xs i (wrapped (at xs i + x))

-- the number at a place, at least x
abbrev pub raised_at : List ℕ → ℕ → ℕ → List ℕ
raised_at xs i x = slice_set xs i (max (at xs i) x)

-- the ticks from one moment to a later one, on a clock of 64 bits
abbrev pub ticks_since : ℕ → ℕ → ℕ
ticks_since earlier later = (later + (2 ^ 64 - earlier)) % 2 ^ 64

-- the time since the station's last visit began; none before its first visit
unfoldable pub gap_of : ℕ → ℕ → ℕ → ℕ
gap_of visits last clock = cond (visits == 0) 0 (ticks_since last clock)

-- 0 is in, anything else switched through
unfoldable pub switch_of : ℕ → ℕ
switch_of mark = cond (mark == 0) 0 1

-- the mark of a station behind a record that marks it: 0 switches it in and 1 through, and any other changes nothing
unfoldable pub marked_by : ℕ → ℕ → ℕ
marked_by before mark = cond (nat_lt 1 mark) before (switch_of mark)

-- the numbers behind a visit of the station at place p, at this moment, which is switched through or not
unfoldable pub visit_tallied : List ℕ → ℕ → ℕ → ℕ → VisitEntry → List ℕ
visit_tallied xs p mark clock v =
    let gap = gap_of (at xs (visits_column + p)) (at xs (last_column + p)) clock in
    let timed = slice_set (raised_at xs (longest_column + p) gap) (last_column + p) clock in
    let counted = added_at (added_at timed (visits_column + p) 1) (through_column + p) (switch_of mark) in
    let sent = added_at (raised_at counted (most_column + p) v.synchronous) (synchronous_column + p) v.synchronous in
    added_at sent (asynchronous_column + p) v.asynchronous

abbrev pub tallied : List ℕ → List ℕ → ℕ → Entry → List ℕ
tallied xs mark clock (Visit v) = visit_tallied xs (place_of v.station) (at mark (place_of v.station)) clock v
tallied xs mark clock (Mark m) = xs

-- the moment behind a record
abbrev pub clock_after : List ℕ → ℕ → Entry → ℕ
clock_after w clock (Visit v) = wrapped (clock + took_by w v)
clock_after w clock (Mark m) = clock

-- the marks behind a mark: one of a station behind their last place switches nobody
abbrev pub mark_switched : List ℕ → MarkEntry → List ℕ
mark_switched mark m = slice_set mark m.station (marked_by (at mark m.station) m.mark)

-- the marks behind a record
abbrev pub switched_by : List ℕ → Entry → List ℕ
switched_by mark (Visit v) = mark
switched_by mark (Mark m) = mark_switched mark m

-- the station of a record is switched through before it; one behind their last place never is
abbrev pub is_through : List ℕ → Entry → Bool
is_through mark (Visit v) = not (at mark v.station == 0)
is_through mark (Mark m) = not (at mark m.station == 0)

-- ---- all of it

abbrev pub seen_of : List ℕ → List ℕ → Course → Seen
seen_of numbers mark course = record { numbers = numbers; mark = mark; course = course }

-- before the first record
abbrev pub nothing_seen : Seen
nothing_seen = seen_of (replicate 896 0) zeros (record { clock = 0; kept = no_lap; all = no_lap })

-- one record more, of a ring of n stations with these w; by this rule it, or one before it, is broken, 0: by none. Then the numbers stay
unfoldable pub seen : ℕ → List ℕ → ℕ → Seen → Entry → Seen
seen n w rule s e =
    cond (rule == 0)
    (seen_of (tallied s.numbers s.mark s.course.clock e) (switched_by s.mark e)
    (record {
      clock = clock_after w s.course.clock e;
      kept = lapped n w s.course.all e;
      all = lapped n w s.course.all e;
    }))
    (seen_of s.numbers (switched_by s.mark e)
    (record { clock = s.course.clock; kept = s.course.kept; all = lapped n w s.course.all e }))

-- on lent arrays: what was seen is s before the record and s' behind it
pub record SeenOn (n : ℕ) (w : List ℕ) (rule : ℕ) (s : Seen) (e : Entry) (s' : Seen) : Type 0 where
  pub is : s' ≡ seen n w rule s e

-- records that keep every rule, one after another
unfoldable pub seen_all : ℕ → List ℕ → Seen → List Entry → Seen
seen_all n w s [] = s
seen_all n w s (e ∷ es) = seen_all n w (seen n w 0 s e) es
