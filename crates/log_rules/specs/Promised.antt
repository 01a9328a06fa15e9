-- What is promised of reading and writing logs beside the contracts; `proofs/Promised.antt` proves it.
use Rattle.std.specs.Prelude.{ℕ, suc, ◌+◌, ◌-◌, ◌*◌, ◌%◌, ◌^◌, ◌≤◌, ◌<◌, ◌≡◌, true, List, [], ◌∷◌, ◌++◌, map, reverse, ◌↔◌, ◌≢◌, ◌⊎◌, length, take, drop}
use Rattle.units.specs.Numbers.{timely}
use Rattle.units.specs.Places.{at}
use Rattle.units.specs.declared.Station.{Station}
use Rattle.sets.specs.Rules.{CountAllowed}
use Rattle.sets.specs.Judged.{zeros}
use Rattle.sets.specs.declared.Set.{Set}
use Rattle.plans.specs.Planned.{judged_plan}
use Rattle.plans.specs.declared.Alloc.{Alloc}
use Rattle.fields.specs.Rows.{laid}
use Rattle.fields.specs.Bytes.{number_at, AllBytes}
use Rattle.fields.specs.Fields.{tag_at, size_at}
use Rattle.log_records.specs.Visit.{visit_bytes, visit_at, VisitFits}
use Rattle.log_records.specs.Mark.{mark_bytes, mark_at, MarkFits}
use Rattle.log_records.specs.Entry.{entry_bytes, next_entry}
use Rattle.log_records.specs.declared.VisitEntry.{VisitEntry}
use Rattle.log_records.specs.declared.MarkEntry.{MarkEntry}
use Rattle.log_records.specs.declared.Entry.{Entry}
use Rattle.log_records.specs.declared.Entry.TheVariants.{Visit, Mark}
use Rattle.sheets.specs.Layout.{mark, fields_of, plan_sheet}
use Rattle.sheets.specs.Reading.{set_in, alloc_in, read_plan}
use Rattle.sheet_rules.specs.Promised.{first_places, first_allocations, plan_length, Numbers32, small_set}
use Rattle.rings.specs.State.{count}
use Rattle.rings.specs.Steps.{Ask, visited}
use Rattle.rings.specs.Marking.{marked, unmarked}
use Rattle.rings.specs.declared.Ring.{Ring}
use Rattle.rings.specs.declared.Message.{Message}
use Rattle.rings.specs.declared.VisitRecord.{VisitRecord}
use Rattle.logs.specs.Layout.{entries_bytes, log_of, AllFit}
use Rattle.logs.specs.FirstFault.{FirstLogFault, WholeLog}
use Rattle.logs.specs.Reading.{refused_log, read_log, entries_in}
use Rattle.logs.specs.Writing.{counter_at, begun, begun_buffer, visit_of, added, added_buffer, added_mark, marked_buffer, ended, ended_buffer}
use Rattle.logs.specs.declared.Recorder.{Recorder}
use Rattle.promises.specs.Run.{Call, message, mark as marking, unmark as unmarking, Run, after, events_of}
use Rattle.log_rules.specs.Recorded.{Told, a_mark, Recording, beginning, recorded, kept_of, end_answer, end_buffer, entry_for, told_for, told_in, entries_of}

-- ---- the bytes that writing gives

-- these bytes are what a recording of some plan and some visits and marks into some buffer gave
pub record GivenLog (bs : List ℕ) : Type 0 where
  pub set : Set
  pub alloc : Alloc
  pub counter : ℕ
  pub clock : ℕ
  pub told : List Told
  pub out : List ℕ
  pub begins : (begun set alloc counter clock out).number ≡ 0
  pub gives : bs
      ≡ take (end_answer (recorded (beginning set alloc counter clock out) told)).length
      (end_buffer (recorded (beginning set alloc counter clock out) told))

-- ---- the field of a visit, and that of a mark

-- tag 16, length 17, the station in one byte, the others in four, and nothing behind them
pub record FieldOf (v : VisitEntry) (bs : List ℕ) : Type 0 where
  pub tag : tag_at bs 0 ≡ 16
  pub size : size_at bs 0 ≡ 17
  pub station : at bs 3 ≡ v.station
  pub start : number_at bs 4 ≡ v.start
  pub limit : number_at bs 8 ≡ v.limit
  pub synchronous : number_at bs 12 ≡ v.synchronous
  pub asynchronous : number_at bs 16 ≡ v.asynchronous
  pub long : length bs ≡ 20

-- tag 17, length 2, station and mark in one byte each, and nothing behind them
pub record MarkFieldOf (m : MarkEntry) (bs : List ℕ) : Type 0 where
  pub tag : tag_at bs 0 ≡ 17
  pub size : size_at bs 0 ≡ 2
  pub station : at bs 3 ≡ m.station
  pub mark : at bs 4 ≡ m.mark
  pub long : length bs ≡ 5

-- how many of the entries are visits, and how many are marks
abbrev pub visit_count : List Entry → ℕ
visit_count [] = 0
visit_count (Visit v ∷ es) = suc (visit_count es)
visit_count (Mark m ∷ es) = visit_count es

abbrev pub mark_count : List Entry → ℕ
mark_count [] = 0
mark_count (Visit v ∷ es) = mark_count es
mark_count (Mark m ∷ es) = suc (mark_count es)

-- ---- what a recording leaves in its buffer

-- ended: the log of these entries stands in the first bytes, its length is the answer, and all behind it is as it was
pub record Leaves (t : Set) (a : Alloc) (out : List ℕ) (es : List Entry) (s : Recording) : Type 0 where
  pub answer : end_answer s ≡ record { length = plan_length t + length (entries_bytes es); number = 0 }
  pub buffer : end_buffer s ≡ log_of t a es ++ drop (plan_length t + length (entries_bytes es)) out

-- ---- what reading gives back

-- the plan over its first N places, and each entry as it was written
pub record GivesBack (t : Set) (a : Alloc) (es : List Entry) (bs : List ℕ) : Type 0 where
  pub answer : read_log bs
      ≡ record {
        set = first_places t;
        alloc = first_allocations t.n a;
        first = plan_length t - 3;
        records = length es;
        number = 0;
      }
  pub entries : entries_in bs ≡ es

-- ---- the promises

pub record Promised : Type 0 where
  -- a log without a record is the plan sheet itself
  pub no_record_lem : (t : Set) (a : Alloc) → log_of t a [] ≡ plan_sheet t a
  -- a visit or a mark more is its field more, before the end
  pub a_record : (t : Set) (a : Alloc) (es : List Entry) (e : Entry)
      → log_of t a (es ++ (e ∷ [])) ≡ fields_of true t a ++ entries_bytes es ++ entry_bytes e ++ mark 255 0
  pub field : (v : VisitEntry) → VisitFits v → FieldOf v (visit_bytes v)
  pub mark_field : (m : MarkEntry) → MarkFits m → MarkFieldOf m (mark_bytes m)
  -- a log has its plan's bytes and those of its entries
  pub long : (t : Set) (a : Alloc) (es : List Entry) → length (log_of t a es) ≡ plan_length t + length (entries_bytes es)
  -- which are 20 for each visit and 5 for each mark, and an entry is one of the two
  pub entries_long : (es : List Entry) → length (entries_bytes es) ≡ 20 * visit_count es + 5 * mark_count es
  pub two_kinds : (es : List Entry) → visit_count es + mark_count es ≡ length es
  -- one log written out: TTRT 1, one station of w 1, C 0, D 1, P 1, S 0; a visit at counter 4,294,967,295 of limit 1, synchronous 2, asynchronous 259
  pub written_out : log_of (small_set timely 1 1) (record { s = zeros })
      (Visit (record { station = 0; start = 4_294_967_295; limit = 1; synchronous = 2; asynchronous = 259 }) ∷ [])
      ≡ 1 ∷ 0 ∷ 4 ∷ 0 ∷ 0 ∷ 0 ∷ 1
      ∷ 2 ∷ 0 ∷ 16 ∷ 0 ∷ 0 ∷ 0 ∷ 1 ∷ 0 ∷ 0 ∷ 0 ∷ 0 ∷ 0 ∷ 0 ∷ 0 ∷ 1 ∷ 0 ∷ 0 ∷ 0 ∷ 1
      ∷ 3 ∷ 0 ∷ 4 ∷ 0 ∷ 0 ∷ 0 ∷ 0
      ∷ 16 ∷ 0 ∷ 17 ∷ 0 ∷ 255 ∷ 255 ∷ 255 ∷ 255 ∷ 0 ∷ 0 ∷ 0 ∷ 1 ∷ 0 ∷ 0 ∷ 0 ∷ 2 ∷ 0 ∷ 0 ∷ 1 ∷ 3
      ∷ 255 ∷ 0 ∷ 0 ∷ []
  -- one with a mark: station 3 switched through
  pub mark_written_out : entries_bytes (Mark (record { station = 3; mark = 1 }) ∷ []) ≡ 17 ∷ 0 ∷ 2 ∷ 3 ∷ 1 ∷ []
  -- ---- the counter
  -- it moves on by what the clock rose, modulo 2^32: past its top it goes on at 0
  pub counter_rises : (counter clock later : ℕ)
      → clock ≤ later → counter_at counter clock later ≡ (counter + (later - clock)) % 2 ^ 32
  pub counter_wraps : (clock : ℕ) → counter_at 4_294_967_295 clock (clock + 1) ≡ 0
  -- step by step it gets where it gets at once
  pub counter_on : (counter clock between later : ℕ)
      → counter_at (counter_at counter clock between) between later ≡ counter_at counter clock later
  -- ---- writing
  -- a recording of an accepted plan, with any visits and marks, accepted and refused ones, leaves the log of those that were accepted; nothing behind it is changed
  pub recorded_log : (t : Set) (a : Alloc) (counter clock : ℕ) (out : List ℕ) (told : List Told)
      → judged_plan t a ≡ 0 → plan_length t ≤ length out
      → Leaves t a out (map (entry_for counter clock) (kept_of (beginning t a counter clock out) told))
      (recorded (beginning t a counter clock out) told)
  -- all are where the buffer is as long as the log of all
  pub all_kept : (t : Set) (a : Alloc) (counter clock : ℕ) (out : List ℕ) (told : List Told) → judged_plan t a ≡ 0
      → plan_length t + length (entries_bytes (map (entry_for counter clock) told)) ≤ length out
      → kept_of (beginning t a counter clock out) told ≡ told
  -- beginning gives the judgement's number where that is not 0
  pub begin_refused : (t : Set) (a : Alloc) (counter clock : ℕ) (out : List ℕ)
      → judged_plan t a ≢ 0 → (begun t a counter clock out).number ≡ judged_plan t a
  -- and 14 exactly if it is 0 and the buffer is shorter than the plan sheet
  pub begin_fourteen : (t : Set) (a : Alloc) (counter clock : ℕ) (out : List ℕ)
      → ((begun t a counter clock out).number ≡ 14) ↔ ((judged_plan t a ≡ 0) × (length out < plan_length t))
  -- a refused beginning gives a recorder of zeros but for its number, and changes no byte
  pub begin_blank : (t : Set) (a : Alloc) (counter clock : ℕ) (out : List ℕ) → (begun t a counter clock out).number ≢ 0
      → (begun t a counter clock out
      ≡ record { at = 0; clock = 0; counter = 0; number = (begun t a counter clock out).number })
      × (begun_buffer t a out ≡ out)
  -- an accepted one writes the plan's fields, without the end
  pub begin_fields : (t : Set) (a : Alloc) (counter clock : ℕ) (out : List ℕ)
      → judged_plan t a ≡ 0 → plan_length t ≤ length out
      → (begun t a counter clock out ≡ record { at = plan_length t - 3; clock = clock; counter = counter; number = 0 })
      × (begun_buffer t a out ≡ fields_of true t a ++ drop (plan_length t - 3) out)
  -- adding gives 0, or 14 exactly if the field and the end behind it do not fit
  pub add_fourteen : (r : Recorder) (v : VisitRecord) (out : List ℕ)
      → ((added r v out).number ≡ 14) ↔ (length out < r.at + 23)
  pub add_accepted : (r : Recorder) (v : VisitRecord) (out : List ℕ)
      → ((added r v out).number ≡ 0) ↔ (r.at + 23 ≤ length out)
  -- 14 gives the recorder back with that number alone, and changes no byte
  pub add_unchanged : (r : Recorder) (v : VisitRecord) (out : List ℕ) → length out < r.at + 23
      → (added r v out ≡ record { at = r.at; clock = r.clock; counter = r.counter; number = 14 })
      × (added_buffer r v out ≡ out)
  -- what is accepted is written where the recorder stands, and all else is as it was; the number that is handed in is not looked at
  pub add_field : (r : Recorder) (v : VisitRecord) (out : List ℕ) → r.at + 23 ≤ length out
      → (added r v out
      ≡ record {
        at = r.at + 20;
        clock = v.start.0;
        counter = counter_at r.counter r.clock v.start.0;
        number = 0;
      })
      × (added_buffer r v out ≡ laid out r.at (visit_bytes (visit_of r.counter r.clock v)))
  -- and the same of a mark, whose field has 5 bytes: it leaves the counter and the clock alone
  pub mark_fourteen : (r : Recorder) (out : List ℕ) → ((added_mark r out).number ≡ 14) ↔ (length out < r.at + 8)
  pub mark_accepted : (r : Recorder) (out : List ℕ) → ((added_mark r out).number ≡ 0) ↔ (r.at + 8 ≤ length out)
  pub mark_unchanged : (r : Recorder) (m : MarkEntry) (out : List ℕ) → length out < r.at + 8
      → (added_mark r out ≡ record { at = r.at; clock = r.clock; counter = r.counter; number = 14 })
      × (marked_buffer r m out ≡ out)
  pub mark_laid : (r : Recorder) (m : MarkEntry) (out : List ℕ) → r.at + 8 ≤ length out
      → (added_mark r out ≡ record { at = r.at + 5; clock = r.clock; counter = r.counter; number = 0 })
      × (marked_buffer r m out ≡ laid out r.at (mark_bytes m))
  -- ending gives the length, or 14 exactly if the end does not fit; then no byte changes
  pub end_fourteen : (r : Recorder) (out : List ℕ) → ((ended r out).number ≡ 14) ↔ (length out < r.at + 3)
  pub end_unchanged : (r : Recorder) (out : List ℕ)
      → length out < r.at + 3 → (ended r out ≡ record { length = 0; number = 14 }) × (ended_buffer r out ≡ out)
  pub end_field : (r : Recorder) (out : List ℕ) → r.at + 3 ≤ length out
      → (ended r out ≡ record { length = r.at + 3; number = 0 }) × (ended_buffer r out ≡ laid out r.at (mark 255 0))
  -- ---- reading
  -- 1, 2 and 3 go by the first fault from the left of the whole log
  pub fault : (bs : List ℕ) (k : ℕ) → 1 ≤ k → k ≤ 3 → ((read_log bs).number ≡ k) ↔ FirstLogFault bs k
  -- there is one first fault: one number, at one place
  pub one_fault : (bs : List ℕ) (j k : ℕ) (f : FirstLogFault bs j) (g : FirstLogFault bs k)
      → (j ≡ k) × (f.place ≡ g.place)
  -- a log with no fault, and only such a one, gets another number: never 1, 2 or 3
  pub whole : (bs : List ℕ) → ((k : ℕ) → 1 ≤ k → k ≤ 3 → (read_log bs).number ≢ k) ↔ WholeLog bs
  -- its number is the judgement of the plan that its fields hold; no number of a visit or a mark gives any
  pub judged : (bs : List ℕ) → WholeLog bs → (read_log bs).number ≡ judged_plan (set_in true bs) (alloc_in true bs)
  -- so it is 0, 4, 5 or 7
  pub judged_one : (bs : List ℕ) → WholeLog bs → let k = (read_log bs).number in (k ≡ 0) ⊎ ((k ≡ 4) ⊎ ((k ≡ 5) ⊎ (k ≡ 7)))
  -- a refused reading is blank
  pub blank : (bs : List ℕ) → (read_log bs).number ≢ 0 → read_log bs ≡ refused_log (read_log bs).number
  -- a visit is handed out where a whole one stands, a mark where a whole one does, and the blank entry and 0 where neither does
  pub handed : (bs : List ℕ) (a : ℕ)
      → a + 20 ≤ length bs → tag_at bs a ≡ 16 → size_at bs a ≡ 17
      → next_entry bs a ≡ record { entry = Visit (visit_at bs a); next = a + 20 }
  pub mark_handed : (bs : List ℕ) (a : ℕ)
      → a + 5 ≤ length bs → tag_at bs a ≡ 17 → size_at bs a ≡ 2
      → next_entry bs a ≡ record { entry = Mark (mark_at bs a); next = a + 5 }
  pub not_handed : (bs : List ℕ) (a : ℕ)
      → ¬ ((a + 20 ≤ length bs) × ((tag_at bs a ≡ 16) × (size_at bs a ≡ 17)))
      → ¬ ((a + 5 ≤ length bs) × ((tag_at bs a ≡ 17) × (size_at bs a ≡ 2)))
      → next_entry bs a
      ≡ record {
        entry = Visit (record { station = 0; start = 0; limit = 0; synchronous = 0; asynchronous = 0 });
        next = 0;
      }
  -- read back as written: the plan, and one entry after another, whatever their numbers are
  pub back : (t : Set) (a : Alloc) (es : List Entry) → judged_plan t a ≡ 0 → AllFit es → GivesBack t a es (log_of t a es)
  -- reading the bytes of any log that is laid out gives the number of its plan's judgement, whatever that is
  pub laid_out : (t : Set) (a : Alloc) (es : List Entry)
      → CountAllowed t → Numbers32 t → ((i : ℕ) → i < t.n → at a.s i < 2 ^ 32)
      → (read_log (log_of t a es)).number ≡ judged_plan t a
  -- a log without its end is cut short, whatever its plan's judgement is
  pub no_end : (t : Set) (a : Alloc) (es : List Entry)
      → CountAllowed t → (read_log (fields_of true t a ++ entries_bytes es)).number ≡ 1
  -- accepted bytes are the log of what was read. `AllBytes` holds of any slice that is lent: `fields::count_bytes` ensures it
  pub again : (bs : List ℕ) → AllBytes bs → (read_log bs).number ≡ 0
      → (bs ≡ log_of (read_log bs).set (read_log bs).alloc (entries_in bs))
      × ((judged_plan (read_log bs).set (read_log bs).alloc ≡ 0) × AllFit (entries_in bs))
  -- so they are written again the same, as these entries are told
  pub recorded_again : (bs out : List ℕ) → AllBytes bs → (read_log bs).number ≡ 0 → length bs ≤ length out
      → let s = recorded (beginning (read_log bs).set (read_log bs).alloc 0 0 out) (map told_for (entries_in bs)) in
      (end_answer s ≡ record { length = length bs; number = 0 }) × (end_buffer s ≡ bs ++ drop (length bs) out)
  -- reading accepts exactly the bytes that writing gives
  pub exactly : (bs : List ℕ) → AllBytes bs → ((read_log bs).number ≡ 0) ↔ GivenLog bs
  -- a log with a record is no plan sheet; one without is
  pub no_plan : (bs : List ℕ) → (read_log bs).number ≡ 0 → (read_log bs).records ≢ 0 → (read_plan bs).number ≡ 2
  pub a_plan : (bs : List ℕ)
      → (read_log bs).number ≡ 0 → (read_log bs).records ≡ 0
      → read_plan bs ≡ record { set = (read_log bs).set; alloc = (read_log bs).alloc; number = 0 }
  -- ---- from the model
  -- the entry of an accepted visit says what its record says, its start by the counter
  pub visit_entry : (r : Ring) (ask : Ask) (counter clock : ℕ) → (visited r ask).answer.number ≡ 0
      → let v = (visited r ask).answer.«record» in
      (visit_of counter clock v ≡ record {
        station = v.station.0;
        start = counter_at counter clock v.start.0;
        limit = v.limit.0;
        synchronous = v.synchronous.0;
        asynchronous = v.asynchronous.0;
      })
      × (v.station.0 < count r)
  -- an accepted marking tells a 1, an accepted unmarking a 0, each of one of the ring's stations; also where it changed nothing
  pub marking_told : (s : Run) (p : Station) → (marked s.ring p).answer.number ≡ 0
      → (told_in (after s (marking p)).events ≡ a_mark (record { station = p.0; mark = 1 }) ∷ told_in s.events)
      × (p.0 < count s.ring)
  pub unmarking_told : (s : Run) (p : Station) → (unmarked s.ring p).number ≡ 0
      → (told_in (after s (unmarking p)).events ≡ a_mark (record { station = p.0; mark = 0 }) ∷ told_in s.events)
      × (p.0 < count s.ring)
  -- a refused one tells nothing, and no message does
  pub marking_refused : (s : Run) (p : Station)
      → (marked s.ring p).answer.number ≢ 0 → told_in (after s (marking p)).events ≡ told_in s.events
  pub unmarking_refused : (s : Run) (p : Station)
      → (unmarked s.ring p).number ≢ 0 → told_in (after s (unmarking p)).events ≡ told_in s.events
  pub message_untold : (s : Run) (m : Message) → told_in (after s (message m)).events ≡ told_in s.events
  -- a run of calls on an opened ring, in every mode, its accepted visits, markings and unmarkings added one after another, leaves the log of its entries.
  -- The starts are those of the clock, counted on from what the counter begins with, modulo 2^32
  pub run_recorded : (t : Set) (a : Alloc) (counter : ℕ) (calls : List Call) (out : List ℕ) → judged_plan t a ≡ 0
      → plan_length t + length (entries_bytes (entries_of counter t a calls)) ≤ length out
      → Leaves t a out (entries_of counter t a calls)
      (recorded (beginning t a counter 0 out) (reverse (told_in (events_of t a calls))))
  -- and it is read back
  pub run_back : (t : Set) (a : Alloc) (counter : ℕ) (calls : List Call)
      → judged_plan t a ≡ 0 → GivesBack t a (entries_of counter t a calls) (log_of t a (entries_of counter t a calls))
