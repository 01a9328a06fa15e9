-- What becomes of an inspection with a record, and with one record after another.
use Rattle.std.specs.Prelude.{◌≡◌, ℕ, zero, suc, ◌+◌, ◌-◌, ◌%◌, ◌^◌, false, cond, List, [], ◌∷◌, ◌==◌, nat_le, slice_set}
use Rattle.units.specs.Numbers.{fddi}
use Rattle.units.specs.Places.{at}
use Rattle.sets.specs.Lent.{set_of}
use Rattle.sets.specs.declared.Head.{Head}
use Rattle.sets.specs.declared.Set.{Set}
use Rattle.plans.specs.Lent.{alloc_of}
use Rattle.plans.specs.declared.Alloc.{Alloc}
use Rattle.log_records.specs.declared.VisitEntry.{VisitEntry}
use Rattle.log_records.specs.declared.MarkEntry.{MarkEntry}
use Rattle.log_records.specs.declared.Entry.{Entry}
use Rattle.log_records.specs.declared.Entry.TheVariants.{Visit, Mark}
use Rattle.rings.specs.State.{following}
use Rattle.rings.specs.Timers.{lead}
use Rattle.inspection.specs.Counter.{ticks_later, ticks_between}
use Rattle.inspection.specs.Opening.{begun}
use Rattle.inspection.specs.Rules.{place_of, place, expected, broken_rule}
use Rattle.inspection.specs.declared.Course.{Course}
use Rattle.inspection.specs.declared.Inspection.{Inspection}

-- ---- a visit that keeps every rule moves the inspection on

-- x is what comes of an asynchronous amount before the synchronous part; the header alone has a part in it
abbrev pub LeadIn : Head → ℕ → ℕ → Type 0
LeadIn head asynchronous x = (n : ℕ) (w c d p : List ℕ) → x ≡ lead (set_of head n w c d p) asynchronous

-- where the clock stands when the token station's timer is at 0, now that the token has come: when its synchronous part starts, but an FDDI timer that has run for TTRT or longer loses just that
unfoldable pub base_with : Head → ℕ → ℕ → ℕ → ℕ
base_with h clock base lead =
    cond (h.mode == fddi) (cond (nat_le h.ttrt (ticks_between base clock)) (ticks_later base h.ttrt) clock)
    (ticks_later clock lead)

-- u falls by S − s of before and rises by S − s of now
abbrev pub unused_with : ℕ → ℕ → ℕ → ℕ → ℕ
unused_with unused share before now = ticks_later (unused - (share - before)) (share - now)

-- the ticks that the visit takes: synchronous, asynchronous, and the walk to the next station
abbrev pub span_with : ℕ → ℕ → ℕ → ℕ
span_with synchronous asynchronous walk = ticks_later (ticks_later synchronous asynchronous) walk

-- the ring as a whole behind the visit, with S, s of before and w of its station
abbrev pub course_with : Course → ℕ → ℕ → ℕ → ℕ → VisitEntry → Course
course_with c n share before walk v =
    record {
      token = following n (place_of c.token);
      clock = ticks_later c.clock (span_with v.synchronous v.asynchronous walk);
      unused = unused_with c.unused share before v.synchronous;
      first = false;
      start = v.start;
      span = span_with v.synchronous v.asynchronous walk;
    }

unfoldable pub visited_on : Inspection → Set → Alloc → VisitEntry → Inspection
visited_on s t a v =
    record {
      base = slice_set s.base (place s)
          (base_with t.head s.course.clock (at s.base (place s)) (lead t v.asynchronous));
      sent = slice_set s.sent (place s) v.synchronous;
      mark = s.mark;
      course = course_with s.course t.n (at a.s (place s)) (at s.sent (place s)) (at t.w (place s)) v;
      records = (s.records + 1) % 2 ^ 64;
      rule = s.rule;
    }

-- ---- a mark that keeps its rule is counted, and changes its station's mark alone

-- the mark that is kept: 0 is no, anything else yes
unfoldable pub mark_of : ℕ → ℕ
mark_of mark = cond (mark == 0) 0 1

unfoldable pub switched_on : Inspection → MarkEntry → Inspection
switched_on s m =
    record {
      base = s.base;
      sent = s.sent;
      mark = slice_set s.mark (place_of m.station) (mark_of m.mark);
      course = s.course;
      records = (s.records + 1) % 2 ^ 64;
      rule = s.rule;
    }

-- a record of either kind
abbrev pub moved_on : Inspection → Set → Alloc → Entry → Inspection
moved_on s t a (Visit v) = visited_on s t a v
moved_on s t a (Mark m) = switched_on s m

-- ---- one that breaks a rule stops it

abbrev pub stopped_at : Inspection → ℕ → Inspection
stopped_at s rule =
    record {
      base = s.base;
      sent = s.sent;
      mark = s.mark;
      course = s.course;
      records = s.records;
      rule = rule;
    }

-- ---- either way

-- with the first rule that the record breaks, 0 for none
unfoldable pub judged : ℕ → Inspection → Set → Alloc → Entry → Inspection
judged zero s t a e = moved_on s t a e
judged (suc k) s t a e = stopped_at s (suc k)

-- one record more; behind a broken rule nothing further is looked at
unfoldable pub inspected : Inspection → Set → Alloc → Entry → Inspection
inspected s t a e = cond (s.rule == 0) (judged (broken_rule (expected s t a) e) s t a e) s

-- one record after another
unfoldable pub inspected_all : Inspection → Set → Alloc → List Entry → Inspection
inspected_all s t a [] = s
inspected_all s t a (e ∷ es) = inspected_all (inspected s t a e) t a es

-- the same with the plan's w and S lent: C, D and P have no part in it
pub record InspectedLent (s : Inspection) (head : Head) (n : ℕ) (w shares : List ℕ) (es : List Entry) (s' : Inspection) : Type 0 where
  pub all : (c d p : List ℕ) → s' ≡ inspected_all s (set_of head n w c d p) (alloc_of shares) es

-- all records of a log with this plan
abbrev pub inspection_of : Set → Alloc → List Entry → Inspection
inspection_of t a es = inspected_all (begun t a) t a es
