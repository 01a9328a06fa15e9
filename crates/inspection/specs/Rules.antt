-- What a record must say, and the first of the five rules that it breaks.
use Rattle.std.specs.Prelude.{◌≡◌, ℕ, ◌+◌, ◌-◌, ◌%◌, Bool, cond, ◌&&◌, ◌||◌, List, [], ◌∷◌, ◌==◌, nat_le, nat_lt}
use Rattle.units.specs.Numbers.{fddi}
use Rattle.units.specs.Places.{at}
use Rattle.units.specs.Judging.{or_else}
use Rattle.sets.specs.declared.Head.{Head}
use Rattle.sets.specs.declared.Set.{Set}
use Rattle.plans.specs.declared.Alloc.{Alloc}
use Rattle.log_records.specs.declared.VisitEntry.{VisitEntry}
use Rattle.log_records.specs.declared.MarkEntry.{MarkEntry}
use Rattle.log_records.specs.declared.Entry.{Entry}
use Rattle.log_records.specs.declared.Entry.TheVariants.{Visit, Mark}
use Rattle.inspection.specs.Counter.{ticks_between}
use Rattle.inspection.specs.Frames.{frames_fit}
use Rattle.inspection.specs.declared.Course.{Course}
use Rattle.inspection.specs.declared.Inspection.{Inspection}
use Rattle.inspection.specs.declared.Expected.{Expected}

-- the place of the token's station in the arrays: a token below 128 is its own place
abbrev pub place_of : ℕ → ℕ
place_of token = token % 128

abbrev pub place : Inspection → ℕ
place s = place_of s.course.token

-- the limit: FDDI, TTRT less what the timer has run, held at 0; timely-token, the larger of TTRT − (F − 1) − u − TRT and 0
unfoldable pub limit_with : Head → ℕ → ℕ → ℕ
limit_with h unused run = cond (h.mode == fddi) (h.ttrt - run) (h.ttrt - (h.frame - 1) - unused - run)

-- a marked station is offered 0 and sends nothing: of what would else be allowed, 0
unfoldable pub unless_marked : ℕ → ℕ → ℕ
unless_marked mark allowed = cond (nat_lt 0 mark) 0 allowed

-- what the next record must say: by the mark, the moment and S of the token's station. Since that moment its timer has run: TRT, or an FDDI timer with TTRT for each time that it is late
abbrev pub due_with : Course → Head → ℕ → ℕ → ℕ → ℕ → Expected
due_with c h n mark base share =
    record {
      station = place_of c.token;
      first = c.first;
      last = c.start;
      span = c.span;
      limit = unless_marked mark (limit_with h c.unused (ticks_between base c.clock));
      share = unless_marked mark share;
      longest = h.frame;
      count = n;
    }

-- the same, with the mark, the moment and S that the arrays have at the station's place
abbrev pub expected : Inspection → Set → Alloc → Expected
expected s t a =
    due_with s.course t.head t.n (at s.mark (place s)) (at s.base (place s)) (at a.s (place s))

-- ---- the five rules of a visit

-- it is the token's station
abbrev pub station_kept : Expected → VisitEntry → Bool
station_kept x v = v.station == x.station

-- the first visit starts at any moment; of a later one the wrapping difference of the two starts is what the visit before took
abbrev pub start_kept : Expected → VisitEntry → Bool
start_kept x v = x.first || ticks_between x.last v.start == x.span

-- the limit is that of the published steps
abbrev pub limit_kept : Expected → VisitEntry → Bool
limit_kept x v = v.limit == x.limit

-- the synchronous amount is at most S
abbrev pub synchronous_kept : Expected → VisitEntry → Bool
synchronous_kept x v = nat_le v.synchronous x.share

-- some request in frames gives the asynchronous amount
abbrev pub asynchronous_kept : Expected → VisitEntry → Bool
asynchronous_kept x v = frames_fit x.limit x.longest v.asynchronous

-- ---- the one rule of a mark, the station rule: its station is below N, and it is 0 or 1
abbrev pub mark_kept : Expected → MarkEntry → Bool
mark_kept x m = nat_lt m.station x.count && nat_lt m.mark 2

-- ---- the rules of a record, in their order
abbrev pub rules_kept : Expected → Entry → List Bool
rules_kept x (Visit v) =
    station_kept x v ∷ start_kept x v ∷ limit_kept x v ∷ synchronous_kept x v ∷ asynchronous_kept x v ∷ []
rules_kept x (Mark m) = mark_kept x m ∷ []

-- of tests that are numbered from k on the number of the first that fails, 0 if none does
unfoldable pub first_failed : ℕ → List Bool → ℕ
first_failed k [] = 0
first_failed k (test ∷ tests) = or_else test k (first_failed (k + 1) tests)

-- the first rule that the record breaks, 0 if none
abbrev pub broken_rule : Expected → Entry → ℕ
broken_rule x e = first_failed 1 (rules_kept x e)

-- r is the first rule that a mark breaks; of what it must say N alone has a part in it
abbrev pub MarkRule : ℕ → MarkEntry → ℕ → Type 0
MarkRule n m r = (x : Expected) → x.count ≡ n → r ≡ broken_rule x (Mark m)
