-- What is promised of an inspection of records (02, No. 6 and 10); `proofs/Promised.antt` proves it. The plan is any that is judged 0, in every mode and with any F; FDDI's too, though opening answers it 16.
use Rattle.std.specs.Prelude.{ℕ, zero, suc, ◌+◌, ◌%◌, ◌^◌, ◌≤◌, ◌<◌, ◌≡◌, true, false, List, [], ◌∷◌, ◌++◌, map, reverse, ◌⊎◌, ◌≢◌, ◌↔◌, length, take}
use Rattle.std.specs.Int.{◌∣◌}
use Rattle.std.proofs.Math.Option.{some}
use Rattle.units.specs.Places.{at}
use Rattle.units.specs.declared.Station.{Station}
use Rattle.sets.specs.Rules.{CountAllowed, SameSet}
use Rattle.sets.specs.declared.Set.{Set}
use Rattle.plans.specs.Planned.{judged_plan}
use Rattle.plans.specs.declared.Alloc.{Alloc}
use Rattle.log_records.specs.declared.VisitEntry.{VisitEntry}
use Rattle.log_records.specs.declared.MarkEntry.{MarkEntry}
use Rattle.log_records.specs.declared.Entry.{Entry}
use Rattle.log_records.specs.declared.Entry.TheVariants.{Visit, Mark}
use Rattle.fields.specs.Bytes.{AllBytes}
use Rattle.rings.specs.State.{count, share}
use Rattle.rings.specs.Timers.{timers_offer, limit}
use Rattle.rings.specs.Opening.{opened_ring}
use Rattle.rings.specs.Steps.{most_sent}
use Rattle.rings.specs.Marking.{marked, unmarked}
use Rattle.rings.specs.declared.Ring.{Ring}
use Rattle.sheet_rules.specs.Promised.{plan_length}
use Rattle.promises.specs.Run.{Call, events_of}
use Rattle.logs.specs.Layout.{log_of}
use Rattle.logs.specs.Reading.{read_log, entries_in}
use Rattle.log_rules.specs.Recorded.{beginning, recorded, kept_of, end_answer, end_buffer, told_in, entries_of}
use Rattle.inspection.specs.Counter.{ticks_between}
use Rattle.inspection.specs.Rules.{expected}
use Rattle.inspection.specs.Records.{inspected, inspected_all, inspection_of}
use Rattle.inspection.specs.Findings.{compared, finding_in}
use Rattle.inspection.specs.declared.Inspection.{Inspection}
use Rattle.inspection.specs.declared.Compared.{Compared}
use Rattle.inspection.specs.declared.Expected.{Expected}
use Rattle.inspection_rules.specs.Gives.{Asked, CouldVisit, ring_with, ring_after, GivesFrom, Gives}
use Rattle.inspection_rules.specs.Broken.{last_of, mark_after, took, StartRule, Rule, FirstBroken}
use Rattle.inspection_rules.specs.Model.{WrittenVisit}
use Rattle.inspection_rules.specs.Watched.{Watched}
use Rattle.inspection_rules.specs.Witness.{LateLog, MarkedLog}
use Rattle.inspection_rules.specs.Editions.{Editions}

-- the start of a visit is one that a 32-bit counter shows; a mark has none
abbrev pub Started : Entry → Type 0
Started (Visit v) = v.start < 2 ^ 32
Started (Mark m) = Unit {0}

abbrev pub Starts : List Entry → Type 0
Starts [] = Unit {0}
Starts (e ∷ es) = Started e × Starts es

-- a record's station
abbrev pub station_of : Entry → ℕ
station_of (Visit v) = v.station
station_of (Mark m) = m.station

-- records as a log has them: their starts are 32-bit numbers, and a 64-bit number counts them
pub record Recorded (es : List Entry) : Type 0 where
  pub starts : Starts es
  pub few : length es < 2 ^ 64

-- an amount is whole frames of one length from 1 to the longest, and the last one began below the limit
pub record WholeFrames (limit longest amount : ℕ) : Type 0 where
  pub length : ℕ
  pub low : 1 ≤ length
  pub high : length ≤ longest
  pub whole : length ∣ amount
  pub begun : amount < limit + length

-- what an inspection expects of the next record is what ring r's own visit says: its token, its limit, the most that it may send and F; the start is what the recorder's counter shows at its clock, but of a first visit anything. And N, for a mark
pub record ExpectedOf (counter : ℕ) (r : Ring) (x : Expected) : Type 0 where
  pub station : x.station ≡ r.token
  pub first : r.visits ≡ 0 → x.first ≡ true
  pub later : r.visits ≢ 0 → x.first ≡ false
  pub start : r.visits ≢ 0 → (x.last + x.span) % 2 ^ 32 ≡ (counter + r.clock) % 2 ^ 32
  pub offered : x.limit ≡ limit r
  pub most : x.share ≡ most_sent r
  pub longest : x.longest ≡ r.set.head.frame
  pub count : x.count ≡ r.set.n

-- the numbers that are compared by rule k at visit v behind these: what ring r's own visit says, and what the record says; a start as ticks after the visit before, which took so many
abbrev pub VisitCompared : Set → List Entry → Ring → VisitEntry → ℕ → Compared → Type 0
VisitCompared t before r v zero c = Unit {0}
VisitCompared t before r v (suc zero) c = (c.expected ≡ r.token) × (c.found ≡ v.station)
VisitCompared t before r v (suc (suc zero)) c =
    (b : VisitEntry)
    → last_of before ≡ some b → (c.expected ≡ took t b) × (c.found ≡ ticks_between b.start v.start)
VisitCompared t before r v (suc (suc (suc zero))) c = (c.expected ≡ limit r) × (c.found ≡ v.limit)
VisitCompared t before r v (suc (suc (suc (suc zero)))) c = (c.expected ≡ most_sent r) × (c.found ≡ v.synchronous)
VisitCompared t before r v (suc (suc (suc (suc (suc zero))))) c = (c.expected ≡ limit r) × (c.found ≡ v.asynchronous)
VisitCompared t before r v (suc (suc (suc (suc (suc (suc k)))))) c = Unit {0}

-- at a mark: N, and its station
abbrev pub ComparedOf : Set → List Entry → Ring → Entry → ℕ → Compared → Type 0
ComparedOf t before r (Visit v) k c = VisitCompared t before r v k c
ComparedOf t before r (Mark m) k c = (c.expected ≡ count r) × (c.found ≡ m.station)

-- what must be said and what is said by rule k. Of a visit station, start and limit are not the same, and the amounts are above what they may be; of a mark the station is not below N, or the mark is neither 1 nor 0
abbrev pub Differ : ℕ → Entry → Compared → Type 0
Differ k (Visit v) c = (k ≤ 3 → c.expected ≢ c.found) × (4 ≤ k → c.expected < c.found)
Differ k (Mark m) c = (c.expected ≤ c.found) ⊎ (2 ≤ m.mark)

pub record Promised : Type 0 where
  -- no rule is broken exactly if a run of the published steps with these marks from the opened ring could give the records: with any synchronous amount up to S at each visit, some request in frames, and any first start
  pub accepted : (t : Set) (a : Alloc) (es : List Entry)
      → judged_plan t a ≡ 0 → Starts es → ((inspection_of t a es).rule ≡ 0) ↔ Gives t a es
  -- and then all records are counted, visits and marks
  pub counted : (t : Set) (a : Alloc) (es : List Entry)
      → judged_plan t a ≡ 0 → Recorded es → (inspection_of t a es).rule ≡ 0 → (inspection_of t a es).records ≡ length es
  -- else it is the first record that breaks one, behind those that are counted, and its first broken rule
  pub found : (t : Set) (a : Alloc) (es : List Entry) → judged_plan t a ≡ 0 → Recorded es → (inspection_of t a es).rule ≢ 0
      → FirstBroken t a es ((inspection_of t a es).records + 1) (inspection_of t a es).rule
  -- the rules are all that there is: behind records that could have been given, one more could be exactly if it keeps them
  pub five_rules : (t : Set) (a : Alloc) (before : List Entry) (e : Entry)
      → judged_plan t a ≡ 0 → Gives t a before → Started e
      → ((k : ℕ) → Rule t a before e k) ↔ Gives t a (before ++ (e ∷ []))
  -- the start rule by the difference on the wrapping counter: as many ticks as the visit before took, with marks between or not
  pub wrapping : (t : Set) (a : Alloc) (before : List Entry) (b v : VisitEntry)
      → judged_plan t a ≡ 0 → Gives t a before → last_of before ≡ some b → v.start < 2 ^ 32
      → StartRule t before v ↔ (ticks_between b.start v.start ≡ took t b)
  -- the first visit may start at any moment, with marks before it or not
  pub free_start : (t : Set) (ms : List MarkEntry) (v : VisitEntry) → StartRule t (map Mark ms) v
  -- the clock's top is no rule: whatever has been given, one more could be
  pub goes_on : (t : Set) (a : Alloc) (es : List Entry)
      → judged_plan t a ≡ 0 → Gives t a es → (e : Entry) × Gives t a (es ++ (e ∷ []))
  -- no second finding fits, and none where the records could be given
  pub one_finding : (t : Set) (a : Alloc) (es : List Entry) (number other rule another : ℕ) → judged_plan t a ≡ 0
      → FirstBroken t a es number rule → FirstBroken t a es other another → (number ≡ other) × (rule ≡ another)
  pub not_both : (t : Set) (a : Alloc) (es : List Entry)
      → judged_plan t a ≡ 0 → Gives t a es → (number rule : ℕ) → ¬ FirstBroken t a es number rule
  -- nothing behind the named record is looked at: with any other records there the answer is the same, whatever the plan is
  pub no_further : (t : Set) (a : Alloc) (before : List Entry) (e : Entry) (other another : List Entry)
      → length (before ++ e ∷ other) < 2 ^ 64
      → (inspection_of t a (before ++ e ∷ other)).rule ≢ 0
      → (inspection_of t a (before ++ e ∷ other)).records ≡ length before
      → inspection_of t a (before ++ e ∷ another) ≡ inspection_of t a (before ++ e ∷ other)
  pub stopped : (s : Inspection) (t : Set) (a : Alloc) (es more : List Entry)
      → (inspected_all s t a es).rule ≢ 0 → inspected_all s t a (es ++ more) ≡ inspected_all s t a es
  -- nor do pieces matter: the records may come some at a time
  pub pieces : (s : Inspection) (t : Set) (a : Alloc) (es more : List Entry)
      → inspected_all s t a (es ++ more) ≡ inspected_all (inspected_all s t a es) t a more
  -- a log with no record is accepted
  pub no_record_lem : (t : Set) (a : Alloc) → ((inspection_of t a []).rule ≡ 0) × ((inspection_of t a []).records ≡ 0)
  -- a station number that is not below N breaks the station rule
  pub beyond : (t : Set) (a : Alloc) (before : List Entry) (e : Entry) (behind : List Entry)
      → judged_plan t a ≡ 0 → Gives t a before → t.n ≤ station_of e
      → FirstBroken t a (before ++ e ∷ behind) (length before + 1) 1
  -- so does a mark that is neither 1 nor 0
  pub no_mark : (t : Set) (a : Alloc) (before : List Entry) (m : MarkEntry) (behind : List Entry)
      → judged_plan t a ≡ 0 → Gives t a before → 2 ≤ m.mark
      → FirstBroken t a (before ++ Mark m ∷ behind) (length before + 1) 1
  -- which asynchronous amounts some request sends: nothing, or whole frames of one length of which the last began below the limit
  pub amounts : (t : Set) (a : Alloc) (before : List Entry) → judged_plan t a ≡ 0 → Gives t a before → (amount : ℕ)
      → Asked (ring_after (opened_ring t a) before) amount
      ↔ ((amount ≡ 0) ⊎ WholeFrames (limit (ring_after (opened_ring t a) before)) t.head.frame amount)
  -- ---- marks
  -- behind records that could be given a station is switched through or in as its last mark among them says, and in where it has none
  pub marks : (t : Set) (a : Alloc) (before : List Entry)
      → judged_plan t a ≡ 0 → Gives t a before → (i : ℕ) → i < t.n
      → at (ring_after (opened_ring t a) before).mark i ≡ mark_after i before
  -- the visit of a station that is in is judged as in a log without marks: by what its timers offer, and it may send S
  pub station_in_lem : (t : Set) (a : Alloc) (before : List Entry) → judged_plan t a ≡ 0 → Gives t a before
      → let r = ring_after (opened_ring t a) before in
      mark_after r.token before ≡ 0 → (limit r ≡ timers_offer r) × (most_sent r ≡ share r r.token)
  -- that of a station that is switched through is offered 0 and sends nothing of either kind
  pub through : (t : Set) (a : Alloc) (before : List Entry) (counter : ℕ) (v : VisitEntry)
      → judged_plan t a ≡ 0 → Gives t a before
      → let r = ring_after (opened_ring t a) before in 0 < mark_after r.token before → CouldVisit counter r v
      → (v.limit ≡ 0) × ((v.synchronous ≡ 0) × (v.asynchronous ≡ 0))
  -- a mark changes nothing for the visits of other stations: neither what they are offered nor what they may send
  pub alone : (r : Ring) (m : MarkEntry)
      → m.station ≢ r.token → (limit (ring_with r (Mark m)) ≡ limit r) × (most_sent (ring_with r (Mark m)) ≡ most_sent r)
  -- it leads to the ring that the call of the ring itself gives, where that is accepted
  pub as_marked : (r : Ring) (p : Station)
      → (marked r p).answer.number ≡ 0 → ring_with r (Mark (record { station = p.0; mark = 1 })) ≡ (marked r p).ring
  pub as_unmarked : (r : Ring) (p : Station)
      → (unmarked r p).number ≡ 0 → ring_with r (Mark (record { station = p.0; mark = 0 })) ≡ (unmarked r p).ring
  -- in a log without marks nothing is new: each visit is offered what the timers give, and may send S
  pub without_marks : (t : Set) (a : Alloc) (vs : List VisitEntry) → let r = ring_after (opened_ring t a) (map Visit vs) in (limit r ≡ timers_offer r) × (most_sent r ≡ share r r.token)
  -- there is a log with a mark before the first visit and one between two visits that is accepted; and it is not where the marked station sends
  pub marked_log : MarkedLog
  -- places from N on are never looked at
  pub first_places_lem : (t u : Set) (a b : Alloc) (es : List Entry)
      → CountAllowed t → SameSet t u → ((i : ℕ) → i < t.n → at a.s i ≡ at b.s i)
      → inspection_of t a es ≡ inspection_of u b es
  -- what could be given is what our recorder writes of a visit, with some synchronous amount and some request
  pub written_visit : (t : Set) (a : Alloc) (before : List Entry)
      → judged_plan t a ≡ 0 → Gives t a before → (counter : ℕ) (v : VisitEntry)
      → CouldVisit counter (ring_after (opened_ring t a) before) v
      ↔ WrittenVisit counter (ring_after (opened_ring t a) before) v
  -- the records of every run of the model from the opening on are accepted, whatever the plan and its mode, whatever calls are made, stations switched through and in again among them, and whatever the recorder's counter shows at clock 0
  pub runs : (t : Set) (a : Alloc) (counter : ℕ) (calls : List Call)
      → (inspection_of t a (entries_of counter t a calls)).rule ≡ 0
  -- an FDDI log is judged by FDDI's steps
  pub late_log_lem : LateLog
  -- behind records that could be given, on a recorder whose counter showed this number at clock 0, an inspection expects just what the ring's own next visit says
  pub expects : (t : Set) (a : Alloc) (before : List Entry) (counter : ℕ)
      → judged_plan t a ≡ 0 → Recorded before → GivesFrom counter (opened_ring t a) before
      → ExpectedOf counter (ring_after (opened_ring t a) before) (expected (inspection_of t a before) t a)
  -- and the numbers of the line for people, at the first record that breaks a rule, are that visit's and the record's
  pub compares : (t : Set) (a : Alloc) (es : List Entry)
      → judged_plan t a ≡ 0 → Recorded es → (number rule : ℕ) (f : FirstBroken t a es number rule)
      → ComparedOf t f.before (ring_after (opened_ring t a) f.before) f.entry rule
      (compared (inspection_of t a es) t a f.entry)
  -- the numbers that are compared at the record that stops an inspection differ, as its rule has it; F is at least 1
  pub differ : (s : Inspection) (t : Set) (a : Alloc) (e : Entry)
      → s.rule ≡ 0 → 1 ≤ t.head.frame → (inspected s t a e).rule ≢ 0
      → Differ (inspected s t a e).rule e (compared (inspected s t a e) t a e)
  -- each edition of timely-token goes by its own steps: there is a run of each that the other's do not allow
  pub editions : Editions
  -- ---- the finding of a log, for any bytes
  -- it is refused with the number of its reading, and then all else is 0
  pub log_refused : (bs : List ℕ)
      → (read_log bs).number ≢ 0
      → finding_in bs ≡ record { records = 0; «record» = 0; rule = 0; number = (read_log bs).number }
  -- else its number is 0, and it has the log's number of records
  pub log_read : (bs : List ℕ)
      → (read_log bs).number ≡ 0 → ((finding_in bs).number ≡ 0) × ((finding_in bs).records ≡ length (entries_in bs))
  -- no rule is named exactly if a run could give its records. `AllBytes` and the length hold of any slice that is lent
  pub log_accepted : (bs : List ℕ)
      → AllBytes bs → length bs < 2 ^ 64 → (read_log bs).number ≡ 0
      → ((finding_in bs).rule ≡ 0) ↔ Gives (read_log bs).set (read_log bs).alloc (entries_in bs)
  -- and no record is named exactly then
  pub log_unnamed : (bs : List ℕ)
      → AllBytes bs → length bs < 2 ^ 64 → (read_log bs).number ≡ 0
      → ((finding_in bs).rule ≡ 0) ↔ ((finding_in bs).«record» ≡ 0)
  -- a rule is named exactly if it is the first that is broken, at the first record that breaks one, which is the record that is named
  pub log_found : (bs : List ℕ) → AllBytes bs → length bs < 2 ^ 64 → (read_log bs).number ≡ 0
      → ((finding_in bs).rule ≢ 0)
      ↔ FirstBroken (read_log bs).set (read_log bs).alloc (entries_in bs) (finding_in bs).«record» (finding_in bs).rule
  -- two logs of one plan whose records are the same up to the one that is named in the first have the same finding
  pub log_no_further : (bs cs : List ℕ) (before : List Entry) (e : Entry) (other another : List Entry)
      → AllBytes bs → length bs < 2 ^ 64 → (read_log bs).number ≡ 0 → (read_log cs).number ≡ 0
      → (read_log cs).set ≡ (read_log bs).set
      → (read_log cs).alloc ≡ (read_log bs).alloc → entries_in bs ≡ before ++ e ∷ other
      → entries_in cs ≡ before ++ e ∷ another
      → (finding_in bs).«record» ≡ length before + 1
      → ((finding_in cs).«record» ≡ (finding_in bs).«record») × ((finding_in cs).rule ≡ (finding_in bs).rule)
  -- the log of a run of the model, in every mode and from the opening on, is accepted, with as many records as visits, markings and unmarkings were accepted
  pub log_of_run : (t : Set) (a : Alloc) (counter : ℕ) (calls : List Call) → judged_plan t a ≡ 0
      → finding_in (log_of t a (entries_of counter t a calls))
      ≡ record { records = length (told_in (events_of t a calls)); «record» = 0; rule = 0; number = 0 }
  -- and so is what our recorder leaves of it in a buffer in which the plan's sheet fits, with as many records as were kept
  pub recorded_run : (t : Set) (a : Alloc) (counter : ℕ) (calls : List Call) (out : List ℕ)
      → judged_plan t a ≡ 0 → plan_length t ≤ length out
      → let begins = beginning t a counter 0 out in
      let told = reverse (told_in (events_of t a calls)) in
      let s = recorded begins told in
      finding_in (take (end_answer s).length (end_buffer s))
      ≡ record { records = length (kept_of begins told); «record» = 0; rule = 0; number = 0 }
  -- an inspection that a host keeps says, record by record, what the inspection of the log's records so far says, and behind all of them what that of the whole log does
  pub watched : (bs : List ℕ) → AllBytes bs → (read_log bs).number ≡ 0 → Watched bs
