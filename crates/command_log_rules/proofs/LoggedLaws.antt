-- What goes out, byte after byte: the run is that of `run`, the counter shows the clock, and the fields are those of the records.
use Prim.Native.Nat.{ℕ, ◌+◌}
use mathlib.Core.Path.{◌≡◌, refl, sym, ap, ◌∙◌}
use mathlib.Core.Bool.{true, false}
use mathlib.Core.List.{List, [], ◌∷◌, ◌++◌, append_assoc}
use mathlib.Core.Logic.{⊎_elim}
use native.Mathlib.Omega.{arith}
use Rattle.units.proofs.JudgingLaws.{true_or_false}
use Rattle.sets.specs.declared.Set.{Set}
use Rattle.plans.specs.declared.Alloc.{Alloc}
use Rattle.sheets.specs.Layout.{fields_of, end_bytes}
use Rattle.rings.specs.Steps.{visited}
use Rattle.rings.specs.Marking.{marked, unmarked}
use Rattle.rings.specs.declared.Ring.{Ring}
use Rattle.rings.specs.declared.VisitRecord.{VisitRecord}
use Rattle.log_records.specs.Entry.{entry_bytes}
use Rattle.log_records.specs.declared.Entry.{Entry}
use Rattle.log_records.specs.declared.Entry.TheVariants.{Visit as a_visit, Mark as a_mark}
use Rattle.logs.specs.Layout.{entries_bytes, log_of}
use Rattle.logs.specs.Writing.{low, rise, counter_at, visit_of}
use Rattle.line_reader.specs.Scan.{is_empty_line}
use Rattle.line_reader.specs.declared.Scan.{Scan}
use Rattle.command_run.specs.Bytes.{moved_over, out_over}
use Rattle.command_run.specs.Calls.{is_visit, ask_in, is_message, is_mark, is_unmark, station_in, switched, called}
use Rattle.command_run.specs.Runs.{run_on, answer_at, run_after}
use Rattle.command_run.specs.declared.Answer.{Answer}
use Rattle.command_run.specs.declared.Answer.TheVariants.{Nothing, Visit, HandIn, Mark, Unmark, Unread}
use Rattle.command_run.specs.declared.Run.{Run}
use Rattle.command_run.proofs.RunLaws.{called_visit, called_mark, called_unmark}
use Rattle.command_log.specs.LogBytes.{record_from, if_accepted, clock_after, counter_after, mark_of, entries_by, visits_at, record_on, logged_at, record_after, logged_over}
use Rattle.command_log.specs.declared.Recording.{Recording}
use Rattle.command_log_rules.specs.Calls.{entries_at, entries_over}

-- ---- the run is that of `run`

pub run_same : (k : Recording) (text : List ℕ) → (record_after k text).run ≡ run_after k.run text
unfolding moved_over record_on
run_same k [] = refl
run_same k (b ∷ text) = run_same (record_on k b) text

-- ---- the counter shows the clock's low 32 bits

-- as at the beginning
abbrev Shows : Recording → Type 0
Shows k = k.counter ≡ low k.clock

line_shows : (counter clock : ℕ) (vs : List VisitRecord) → counter ≡ low clock → counter_after counter clock vs ≡ low (clock_after clock vs)
unfolding counter_after clock_after counter_at rise
line_shows counter clock [] e = e
line_shows counter clock (v ∷ vs) e = omega arith

on_shows : (k : Recording) (b : ℕ) → Shows k → Shows (record_on k b)
unfolding record_on
on_shows k b e = line_shows k.counter k.clock (visits_at k.run b) e

-- ---- the fields are those of the entries

bytes_append : (first rest : List Entry) → entries_bytes (first ++ rest) ≡ entries_bytes first ++ entries_bytes rest
unfolding entries_bytes
bytes_append [] rest = refl
bytes_append (e ∷ first) rest = rw (bytes_append first rest) (sym (append_assoc (entry_bytes e) (entries_bytes first) (entries_bytes rest)))

-- an entry is that of a counter which was 0 at clock 0
counter_same : (counter clock later : ℕ) → counter ≡ low clock → counter_at counter clock later ≡ counter_at 0 0 later
unfolding counter_at rise
counter_same counter clock later e = omega arith

entries_same : (counter clock : ℕ) (x : Answer) → counter ≡ low clock → entries_by counter clock x ≡ entries_by 0 0 x
unfolding entries_by
entries_same counter clock Nothing e = refl
entries_same counter clock (Visit a) e = rw (counter_same counter clock a.«record».start.0 e) refl
entries_same counter clock (HandIn number) e = refl
entries_same counter clock (Mark p a) e = refl
entries_same counter clock (Unmark p number) e = refl
entries_same counter clock Unread e = refl

-- of one byte
byte_fields : (k : Recording) (b : ℕ) → Shows k → logged_at k b ≡ entries_bytes (entries_at k.run b)
unfolding logged_at
byte_fields k b e = ap entries_bytes (entries_same k.counter k.clock (answer_at k.run b) e)

-- of all
all_fields : (k : Recording) (text : List ℕ) → Shows k → logged_over k text ≡ entries_bytes (entries_over k.run text)
unfolding out_over entries_bytes record_on
all_fields k [] e = refl
all_fields k (b ∷ text) e =
    let here = entries_at k.run b in
    ap (λ (x : List ℕ). x ++ logged_over (record_on k b) text) (byte_fields k b e)
    ∙ ap (λ (x : List ℕ). entries_bytes here ++ x) (all_fields (record_on k b) text (on_shows k b e))
    ∙ sym (bytes_append here (entries_over (run_on k.run b) text))

pub whole_log : (t : Set) (a : Alloc) (u : Run) (text : List ℕ) → fields_of true t a ++ logged_over (record_from u) text ++ end_bytes ≡ log_of t a (entries_over u text)
unfolding log_of
whole_log t a u text = ap (λ (x : List ℕ). fields_of true t a ++ x ++ end_bytes) (all_fields (record_from u) text refl)

-- ---- which lines are recorded

module _ (ring : Ring) (s : Scan) (counter clock : ℕ) where
  pub recorded_visit : is_empty_line s ≡ false → is_visit s ≡ true
      → entries_by counter clock (called ring s).answer
      ≡ if_accepted (visited ring (ask_in s)).answer.number (a_visit (visit_of counter clock (visited ring (ask_in s)).answer.«record»))
  unfolding entries_by
  recorded_visit e i = rw (← called_visit ring s (visited ring (ask_in s)) e i refl) refl

  pub recorded_mark : is_mark s ≡ true
      → entries_by counter clock (called ring s).answer ≡ if_accepted (marked ring (station_in s)).answer.number (a_mark (mark_of (station_in s) 1))
  unfolding entries_by
  recorded_mark i = rw (← called_mark ring s (marked ring (station_in s)) i refl) refl

  pub recorded_unmark : is_unmark s ≡ true
      → entries_by counter clock (called ring s).answer ≡ if_accepted (unmarked ring (station_in s)).number (a_mark (mark_of (station_in s) 0))
  unfolding entries_by
  recorded_unmark i = rw (← called_unmark ring s (unmarked ring (station_in s)) i refl) refl

  pub not_recorded : is_visit s ≡ false → is_mark s ≡ false → is_unmark s ≡ false → entries_by counter clock (called ring s).answer ≡ []
  unfolding entries_by called switched
  not_recorded i k l =
      ⊎_elim (λ (e : is_empty_line s ≡ true). rw e refl)
      (λ (e : is_empty_line s ≡ false).
      ⊎_elim (λ (j : is_message s ≡ true). rw (e, i, j) refl) (λ (j : is_message s ≡ false). rw (e, i, j, k, l) refl) (true_or_false (is_message s)))
      (true_or_false (is_empty_line s))
