-- Where the token station's timer began; one record more, and the three ways that it can go; and the records of a log, handed out one after another.
use Rattle.std.proofs.Common.{◌≡◌, ℕ, zero, suc, ◌+◌, ◌-◌, ◌%◌, ◌^◌, ◌<◌, ◌≤◌, ◌≢◌, List, [], ◌∷◌, set, sym, refl, ap, ◌∙◌, arith, eq-eqb, ne_eqb, le-leb}
use borrow.Author.Tests.{lt-leb}
use Rattle.units.specs.Numbers.{fddi}
use Rattle.units.specs.Places.{at}
use Rattle.sets.specs.declared.Head.{Head}
use Rattle.sets.specs.declared.Set.{Set}
use Rattle.plans.specs.declared.Alloc.{Alloc}
use Rattle.log_records.specs.declared.VisitEntry.{VisitEntry}
use Rattle.log_records.specs.declared.MarkEntry.{MarkEntry}
use Rattle.log_records.specs.declared.Entry.{Entry}
use Rattle.log_records.specs.declared.Entry.TheVariants.{Visit, Mark}
use Rattle.log_records.specs.Entry.{next_entry}
use Rattle.log_records.specs.declared.NextEntry.{NextEntry}
use Rattle.rings.specs.Timers.{lead}
use Rattle.logs.specs.Reading.{handed_from}
use Rattle.inspection.specs.Counter.{ticks_later, ticks_between}
use Rattle.inspection.specs.Rules.{place_of, place, due_with, expected, broken_rule}
use Rattle.inspection.specs.Records.{base_with, course_with, visited_on, mark_of, switched_on, moved_on, stopped_at, judged, inspected, inspected_all}
use Rattle.inspection.specs.Kept.{standing}
use Rattle.inspection.specs.declared.Course.{Course}
use Rattle.inspection.specs.declared.Inspection.{Inspection}
use Rattle.inspection.specs.declared.Expected.{Expected}

-- ---- where the clock stands when the token station's timer is at 0

module _ (h : Head) (clock base lead : ℕ) where
  -- an FDDI timer that has run for TTRT or longer loses TTRT
  pub base_late : h.mode ≡ fddi → h.ttrt ≤ ticks_between base clock → base_with h clock base lead ≡ ticks_later base h.ttrt
  unfolding base_with
  base_late e l = rw (eq-eqb h.mode fddi e, le-leb h.ttrt (ticks_between base clock) l)

  -- any other goes to 0
  pub base_early : h.mode ≡ fddi → ticks_between base clock < h.ttrt → base_with h clock base lead ≡ clock
  unfolding base_with
  base_early e l = rw (eq-eqb h.mode fddi e, lt-leb h.ttrt (ticks_between base clock) l)

  -- TRT goes to 0 when the synchronous part starts
  pub base_timely : h.mode ≢ fddi → base_with h clock base lead ≡ ticks_later clock lead
  unfolding base_with
  base_timely n = rw (ne_eqb h.mode fddi n)

-- ---- one record more

-- the inspection with this count of records
abbrev pub counting : Inspection → ℕ → Inspection
counting s records =
    record {
      base = s.base;
      sent = s.sent;
      mark = s.mark;
      course = s.course;
      records = records;
      rule = s.rule;
    }

module _ (s : Inspection) (t : Set) (a : Alloc) (p : ℕ) (here : p ≡ place s) where
  -- what is asked with the numbers at the place of the token's station is what the record must say
  pub asked_there : (due : Expected) → due ≡ due_with s.course t.head t.n (at s.mark p) (at s.base p) (at a.s p) → due ≡ expected s t a
  asked_there due is = rw here at is

  -- a visit: an inspection is the moved one if what is stored in it is
  pub visit_stored : (v : VisitEntry) (now next : Inspection) → now ≡ s → (ahead base records : ℕ) (course : Course) → ahead ≡ lead t v.asynchronous
      → base ≡ base_with t.head s.course.clock (at s.base p) ahead
      → course ≡ course_with s.course t.n (at a.s p) (at now.sent p) (at t.w p) v
      → next ≡ record { base = set now.base p base; sent = set now.sent p v.synchronous; mark = now.mark; course = course; records = now.records; rule = now.rule }
      → records ≡ (next.records + 1) % 2 ^ 64 → counting next records ≡ visited_on s t a v
  unfolding visited_on
  visit_stored v now next same ahead base records course leads is goes stores counts = rw (counts, stores, is, goes, leads, same, here) refl

-- a mark: the same
pub mark_stored : (s : Inspection) (m : MarkEntry) (now next : Inspection) → now ≡ s → (p mark records : ℕ) → p ≡ place_of m.station → mark ≡ mark_of m.mark
    → next ≡ record { base = now.base; sent = now.sent; mark = set now.mark p mark; course = now.course; records = now.records; rule = now.rule }
    → records ≡ (next.records + 1) % 2 ^ 64 → counting next records ≡ switched_on s m
unfolding switched_on
mark_stored s m now next same p mark records here is stores counts = rw (counts, stores, here, is, same) refl

-- the same of the moved inspection's parts themselves
pub visit_moved : (s : Inspection) (t : Set) (a : Alloc) (p : ℕ) → p ≡ place s → (v : VisitEntry) (ahead base records rule : ℕ) (course : Course) → ahead ≡ lead t v.asynchronous
    → base ≡ base_with t.head s.course.clock (at s.base p) ahead
    → course ≡ course_with s.course t.n (at a.s p) (at s.sent p) (at t.w p) v → records ≡ (s.records + 1) % 2 ^ 64 → rule ≡ s.rule
    → standing (set s.base p base) (set s.sent p v.synchronous) s.mark course records rule ≡ visited_on s t a v
visit_moved s t a p here v ahead base records rule course leads is goes counts still =
    ap (standing (set s.base p base) (set s.sent p v.synchronous) s.mark course records) still ∙ visit_stored s t a p here v s _ refl ahead base records course leads is goes refl counts

pub mark_moved : (s : Inspection) (m : MarkEntry) (p mark records rule : ℕ) → p ≡ place_of m.station → mark ≡ mark_of m.mark → records ≡ (s.records + 1) % 2 ^ 64 → rule ≡ s.rule
    → standing s.base s.sent (set s.mark p mark) s.course records rule ≡ switched_on s m
mark_moved s m p mark records rule here is counts still = ap (standing s.base s.sent (set s.mark p mark) s.course records) still ∙ mark_stored s m s _ refl p mark records here is refl counts

-- no record that keeps every rule breaks one
pub moved_rule : (s : Inspection) (t : Set) (a : Alloc) (e : Entry) → (moved_on s t a e).rule ≡ s.rule
unfolding visited_on switched_on
moved_rule s t a (Visit v) = refl
moved_rule s t a (Mark m) = refl

judged_broken : (k : ℕ) (s : Inspection) (t : Set) (a : Alloc) (e : Entry) → k ≢ 0 → judged k s t a e ≡ stopped_at s k
unfolding judged
judged_broken zero s t a e n = absurd (n refl)
judged_broken (suc k) s t a e n = refl

module _ (s : Inspection) (t : Set) (a : Alloc) (e : Entry) where
  -- a rule was broken before
  pub inspected_stays : s.rule ≢ 0 → inspected s t a e ≡ s
  unfolding inspected
  inspected_stays n = rw (ne_eqb s.rule 0 n) refl

  -- this record breaks one
  pub inspected_stops : s.rule ≡ 0 → (k : ℕ) → k ≡ broken_rule (expected s t a) e → k ≢ 0 → inspected s t a e ≡ stopped_at s k
  unfolding inspected
  inspected_stops z k is n = rw (eq-eqb s.rule 0 z, ← is) (judged_broken k s t a e n)

  -- it keeps them all
  pub inspected_moves : s.rule ≡ 0 → broken_rule (expected s t a) e ≡ 0 → inspected s t a e ≡ moved_on s t a e
  unfolding inspected judged
  inspected_moves z none = rw (eq-eqb s.rule 0 z, none) refl

-- ---- one record after another

-- behind a broken rule nothing changes
pub all_stays : (s : Inspection) (t : Set) (a : Alloc) (es : List Entry) → s.rule ≢ 0 → inspected_all s t a es ≡ s
unfolding inspected_all
all_stays s t a [] n = refl
all_stays s t a (e ∷ es) n = ap (λ (x : Inspection). inspected_all x t a es) (inspected_stays s t a e n) ∙ all_stays s t a es n

module _ (t : Set) (a : Alloc) (bs : List ℕ) (whole : Inspection) where
  -- no rule is broken yet, and the records that are left, from this place on, lead to the whole inspection
  pub record Going (s : Inspection) (at left : ℕ) : Type 0 where
    pub rule : s.rule ≡ 0
    pub rest : inspected_all s t a (handed_from left bs at) ≡ whole

  -- one record more is counted; said here by itself, so that a wrong count has a place of its own
  pub going_counted : (next : Inspection) (at left records : ℕ) → Going (counting next ((next.records + 1) % 2 ^ 64)) at left → records ≡ (next.records + 1) % 2 ^ 64 → Going (counting next records) at left
  going_counted next at left records G is = rw is G

  pub going_first : (s : Inspection) (at left : ℕ) → s.rule ≡ 0 → whole ≡ inspected_all s t a (handed_from left bs at) → Going s at left
  going_first s at left none all = record { rule = none; rest = sym all }

  module _ (s : Inspection) (at : ℕ) where
    -- the first of the records that are left
    split : (left : ℕ) → 0 < left → inspected_all s t a (handed_from left bs at) ≡ inspected_all (inspected s t a (next_entry bs at).entry) t a (handed_from (left - 1) bs (next_entry bs at).next)
    unfolding inspected_all handed_from
    split zero l = absurd (omega arith)
    split (suc left) l = let d : suc left - 1 ≡ left = omega arith in rw d refl

    module _ (left : ℕ) (l : 0 < left) (G : Going s at left) (handed : NextEntry) (is : handed ≡ next_entry bs at) (due : Expected) (asks : due ≡ expected s t a) where
      first_left : inspected_all (inspected s t a handed.entry) t a (handed_from (left - 1) bs handed.next) ≡ whole
      first_left = rw is (sym (split left l) ∙ G.rest)

      -- it keeps every rule
      pub going_next : (next : Inspection) → next ≡ moved_on s t a handed.entry → broken_rule due handed.entry ≡ 0 → Going next handed.next (left - 1)
      going_next next on none =
          let none-asked : broken_rule (expected s t a) handed.entry ≡ 0 = rw asks at none in
          rw on
          (record {
            rule = moved_rule s t a handed.entry ∙ G.rule;
            rest = ap (λ (x : Inspection). inspected_all x t a (handed_from (left - 1) bs handed.next)) (sym (inspected_moves s t a handed.entry G.rule none-asked)) ∙ first_left;
          })

      -- it breaks one
      pub going_stops : (k : ℕ) → k ≡ broken_rule due handed.entry → k ≢ 0 → stopped_at s k ≡ whole
      going_stops k breaks n =
          let es = handed_from (left - 1) bs handed.next in
          let breaks-asked : k ≡ broken_rule (expected s t a) handed.entry = rw asks at breaks in
          sym (all_stays (stopped_at s k) t a es n) ∙ ap (λ (x : Inspection). inspected_all x t a es) (sym (inspected_stops s t a handed.entry G.rule k breaks-asked n)) ∙ first_left

    -- none is left
    pub going_ends : Going s at 0 → s ≡ whole
    unfolding inspected_all handed_from
    going_ends G = G.rest
