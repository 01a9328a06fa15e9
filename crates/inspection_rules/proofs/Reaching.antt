-- What every ring keeps that records could lead to, whatever its clock: all that `promises` keeps of a run's ring without its clock and its messages. A visit of a log gives the facts on which that stands (`promises/specs/Facts.antt`), and a mark leaves the timing alone.
-- So its timers stay small, and differences on a 32-bit counter tell them.
use Prim.Native.Nat.{ℕ, zero, suc, ◌+◌, ◌-◌, ◌≤◌, ◌<◌}
use mathlib.Core.Path.{◌≡◌, refl, ◌∙◌}
use mathlib.Core.List.{List, [], ◌∷◌}
use mathlib.Core.Logic.{◌≢◌, ⊎_elim}
use native.Mathlib.Omega.{arith}
use lib.ListN.{length, set, length-set}
use lib.Seq.{get_or-set_same, get_or-set_other}
use Rattle.units.specs.Places.{at, raise}
use Rattle.units.proofs.PlaceLaws.{zero_at, sum_part_lem, raise_inside, raise_length}
use Rattle.sets.specs.Judged.{zeros}
use Rattle.sets.specs.declared.Set.{Set}
use Rattle.plans.specs.Planned.{judged_plan}
use Rattle.plans.specs.declared.Alloc.{Alloc}
use Rattle.log_records.specs.declared.VisitEntry.{VisitEntry}
use Rattle.fddi_timer_rules.specs.Kept.{Visit}
use Rattle.fddi_timer_rules.proofs.Promised.{promised as timers-promised}
use Rattle.rings.specs.State.{count, ttrt, overrun, share, unused_at, Marked, Unmarked, Shaped, timers_of, Messages, with_messages, with_course, no_messages}
use Rattle.rings.specs.Timers.{Fddi, has_run, timers_offer, limit, lead, rise, timers_after, timely_after}
use Rattle.rings.proofs.TimerLaws.{fddi_or_not, marked_or_not, lead_within, limit_within, limit_marked, limit_unmarked, offer_timely, after_timely}
use Rattle.rings.specs.Opening.{opened_ring}
use Rattle.rings.specs.Sound.{Sound}
use Rattle.rings.specs.Steps.{sync_start, moved, record_of}
use Rattle.rings.proofs.RingLaws.{most_within}
use Rattle.rings.specs.Marking.{switched_through, switched_in}
use Rattle.rings.proofs.MarkLaws.{ring_marked, ring_unmarked}
use Rattle.rings.proofs.FrameLaws.{frames_within, frames_none}
use Rattle.rings.specs.declared.Ring.{Ring}
use Rattle.rings.specs.declared.VisitRecord.{VisitRecord}
use Rattle.rings.proofs.ShapeLaws.{messages_shaped, course_shaped, moved_shaped}
use Rattle.rings.proofs.StationLaws.{offer_ran, ran_here, ran_there, moved_below, moved_long}
use Rattle.ring_rules.proofs.OpenedLaws.{fresh}
use Rattle.promises.specs.History.{Each}
use Rattle.promises.specs.Facts.{timing, timer_plan, VisitCourse, VisitTimers, VisitLaps}
use Rattle.promises.specs.Valid.{InTurn}
use Rattle.promises.proofs.Sums.{sum_lacking}
use Rattle.promises.proofs.Course.{Plan, Course, course_kept}
use Rattle.promises.proofs.Timing.{Timed, timed_kept}
use Rattle.promises.proofs.Laps.{Lapped, late_small, lapped_kept}
use Rattle.promises.proofs.Steps.{room_left}
use Rattle.promises.proofs.Opening.{plan_of_lem, opened_course, opened_timed, opened_lapped}
use Rattle.inspection_rules.specs.Gives.{CouldVisit, switched}

-- no visit takes longer
abbrev pub longest : ℕ
longest = 2_000_000

-- ---- what is kept

-- ring r, behind the visits h, the latest first
pub record Goes (r : Ring) (h : List VisitRecord) : Type 0 where
  pub judged : judged_plan r.set r.alloc ≡ 0
  pub shaped : Shaped r
  pub course : Course r.set r.alloc (timing r) h
  pub turns : Each (InTurn r.set) h
  pub timely : ¬ Fddi r.set → Timed r.set r.alloc (timing r) h
  pub fddi : Fddi r.set → Lapped r.set r.alloc (timing r) h

-- behind some visits
pub record Reached (r : Ring) : Type 0 where
  pub visits : List VisitRecord
  pub goes : Goes r visits

-- ---- the timers do not look at the clock, the visits or the messages: the ring without these is a sound one

abbrev still : Ring → Ring
still r = with_messages no_messages (with_course (record { sent = r.sent; last = zeros; token = r.token; clock = 0; visits = 0 }) r)

module _ (r : Ring) (K : Reached r) where
  pub plan : Plan r.set r.alloc
  plan = plan_of_lem r.set r.alloc K.goes.judged

  -- S and w of a station, and F − 1, are together within TTRT
  pub allotted : (i : ℕ) → i < count r → share r i + at r.set.w i + overrun r ≤ ttrt r
  allotted i l = omega (arith, plan.token, sum_part_lem (count r) (at r.alloc.s) i l, sum_part_lem (count r) (at r.set.w) i l)

  still_shaped : Shaped (still r)
  still_shaped = messages_shaped _ (course_shaped r K.goes.shaped _ K.goes.shaped.sent refl) _ refl refl refl refl

  still_sound : Fddi r.set → Sound (still r)
  still_sound e =
      let L = K.goes.fddi e in
      record {
        plan = K.goes.judged;
        token = K.goes.course.token;
        timers =
            record {
              timely = λ n. absurd (n e);
              fddi = λ _.
                  record {
                    timers = L.below;
                    lates = λ i l. omega (arith, late_small r.set r.alloc (timing r) K.visits plan L i l);
                  };
            };
        sents = K.goes.course.sents;
        rests = λ i l. omega (arith, zero_at i);
        arrivals = λ i l. omega (arith, zero_at i);
        clock = omega arith;
        visits = omega arith;
      }

  -- ---- the limit

  pub offer_lapped : Fddi r.set → timers_offer r ≡ ttrt r - has_run r.set (timers_of r) r.token
  unfolding timers_offer
  offer_lapped e = offer_ran (still r) still_shaped (still_sound e) e

  -- a marked station's is 0, and any other one's what the timers offer
  pub limit_small : limit r ≤ ttrt r
  limit_small = ⊎_elim (λ e. omega (arith, limit_within r, offer_lapped e)) (λ n. omega (arith, limit_within r, offer_timely r n)) (fddi_or_not r.set)

-- ---- lists

-- all of n timers are raised, and that of p is then y
module _ (n p x y : ℕ) (xs : List ℕ) (few : n ≤ length xs) where
  raised_here : p < n → at (set (raise n x xs) p y) p ≡ y
  raised_here l = get_or-set_same (raise n x xs) p y 0 (omega (arith, raise_length n x xs))

  raised_there : (i : ℕ) → i < n → i ≢ p → at (set (raise n x xs) p y) i ≡ at xs i + x
  raised_there i l d = get_or-set_other (raise n x xs) p i y 0 d ∙ raise_inside n x xs i l few

-- ---- one visit more

-- the record that the ring's own visit of these amounts would have
abbrev pub made : Ring → VisitEntry → VisitRecord
made r v = record_of r v.synchronous v.asynchronous

module _ (counter : ℕ) (r : Ring) (K : Reached r) (v : VisitEntry) (C : CouldVisit counter r v) where
  abbrev pub next : Ring
  next = moved r v.synchronous v.asynchronous

  abbrev pub passes : ℕ
  passes = rise r v.synchronous v.asynchronous

  few : count r ≤ 128
  few = (plan r K).few

  -- the last frame runs on past the limit by at most F − 1; at limit 0 none is sent
  async_within : v.asynchronous ≤ limit r + overrun r
  async_within =
      let A = C.asynchronous in
      omega (arith, A.sent, frames_within (limit r) A.ask A.named.0, A.named.1)

  async_shut : limit r ≡ 0 → v.asynchronous ≡ 0
  async_shut z = C.asynchronous.sent ∙ rw z (frames_none C.asynchronous.ask)

  sync_within : v.synchronous ≤ share r r.token
  sync_within = omega (arith, C.synchronous, most_within r)

  pub passes_short : passes ≤ longest
  passes_short = omega (arith, async_within, limit_small r K, sync_within, allotted r K r.token K.goes.course.token, (plan r K).rotation.1)

  sent_here : at next.sent r.token ≡ v.synchronous
  unfolding moved
  sent_here = get_or-set_same r.sent r.token v.synchronous 0 (omega (arith, few, K.goes.course.token, K.goes.shaped.sent))

  sent_there : (i : ℕ) → i ≢ r.token → at next.sent i ≡ at r.sent i
  unfolding moved
  sent_there i d = get_or-set_other r.sent r.token i v.synchronous 0 d

  -- when the synchronous part started
  last_here : at next.last r.token ≡ sync_start r v.asynchronous
  unfolding moved
  last_here = get_or-set_same r.last r.token (sync_start r v.asynchronous) 0 (omega (arith, few, K.goes.course.token, K.goes.shaped.last))

  last_there : (i : ℕ) → i ≢ r.token → at next.last i ≡ at r.last i
  unfolding moved
  last_there i d = get_or-set_other r.last r.token i (sync_start r v.asynchronous) 0 d

  pub visit_course : VisitCourse r.set r.alloc (timing r) (timing next) (made r v)
  unfolding moved record_of
  visit_course =
      record {
        station = refl;
        start = refl;
        set = refl;
        alloc = refl;
        within = sync_within;
        sent_here = sent_here;
        sent_there = sent_there;
        clock = refl;
        last_here = last_here;
        last_there = last_there;
        token = refl;
        visits = refl;
      }

  -- ---- a timely-token ring

  module _ (n : ¬ Fddi r.set) where
    -- TRT went to 0 when the synchronous part started
    pub early_here : at next.trt r.token ≡ passes - lead r.set v.asynchronous
    unfolding moved timely_after
    early_here = rw (after_timely r n v.synchronous v.asynchronous) (raised_here (count r) r.token passes _ r.trt (omega (arith, few, K.goes.shaped.trt)) K.goes.course.token)

    pub early_there : (i : ℕ) → i < count r → i ≢ r.token → at next.trt i ≡ at r.trt i + passes
    unfolding moved timely_after
    early_there i l d = rw (after_timely r n v.synchronous v.asynchronous) (raised_there (count r) r.token passes _ r.trt (omega (arith, few, K.goes.shaped.trt)) i l d)

    pub early_unused : next.unused ≡ r.unused - unused_at r r.token + (share r r.token - v.synchronous)
    unfolding moved timely_after
    early_unused = rw (after_timely r n v.synchronous v.asynchronous) refl

    -- u is not less than what this station left unused
    unused_here : unused_at r r.token ≤ r.unused
    unused_here =
        let all = sum_lacking (count r) (at r.sent) (at r.alloc.s) K.goes.course.sents in
        omega (arith, all, (K.goes.timely n).unused, sum_part_lem (count r) (unused_at r) r.token K.goes.course.token)

    pub visit_timers : VisitTimers r.set (timing r) (timing next) (made r v)
    unfolding record_of
    visit_timers =
        record {
          timer = refl;
          room = room_left (ttrt r) (overrun r) r.unused (at r.trt r.token) (at r.mark r.token) (limit r) v.asynchronous (λ off. limit_unmarked r off ∙ offer_timely r n) (limit_marked r) async_within async_shut;
          unused = omega (arith, early_unused, unused_here, K.goes.course.sents r.token K.goes.course.token, sync_within);
          trt_here = omega (arith, early_here, lead_within r.set v.asynchronous);
          trt_there = early_there;
        }

  -- ---- an FDDI ring

  module _ (f : Fddi r.set) where
    pub lapped_here : has_run r.set (timers_of next) r.token ≡ has_run r.set (timers_of r) r.token - ttrt r + passes
    unfolding moved timers_after timely_after
    lapped_here = ran_here (still r) (still_shaped r K) (still_sound r K f) f v.synchronous v.asynchronous

    pub lapped_there : (i : ℕ) → i < count r → i ≢ r.token → has_run r.set (timers_of next) i ≡ has_run r.set (timers_of r) i + passes
    unfolding moved timers_after timely_after
    lapped_there = ran_there (still r) (still_shaped r K) (still_sound r K f) f v.synchronous v.asynchronous

    lapped_below : (i : ℕ) → i < count r → at next.trt i < ttrt r
    unfolding moved timers_after timely_after
    lapped_below = moved_below (still r) (still_shaped r K) (still_sound r K f) f v.synchronous v.asynchronous

    visit : Visit (timer_plan r.set r.alloc) (has_run r.set (timers_of r)) (has_run r.set (timers_of next)) r.token passes
    visit =
        let offered = offer_lapped r K f in
        record {
          sync = v.synchronous;
          async = v.asynchronous;
          within = sync_within;
          early = timers-promised.early (ttrt r) (overrun r) (has_run r.set (timers_of r) r.token) v.asynchronous (omega (arith, offered, limit_within r, async_within)) (λ none. async_shut (omega (arith, offered, limit_within r, none)));
          length = refl;
          here = lapped_here;
          there = lapped_there;
        }

    pub visit_laps : VisitLaps r.set r.alloc (timing r) (timing next) (made r v)
    unfolding moved record_of
    visit_laps = record { moves = visit; below = lapped_below }

    lapped_long : (length next.trt ≡ 128) × (length next.late ≡ 128)
    unfolding moved timers_after timely_after
    lapped_long = moved_long (still r) (still_shaped r K) (still_sound r K f) f v.synchronous v.asynchronous

  timers_long : (length next.trt ≡ 128) × (length next.late ≡ 128)
  unfolding moved timely_after
  timers_long =
      ⊎_elim lapped_long
      (λ n. rw (after_timely r n v.synchronous v.asynchronous) (length-set (raise (count r) passes r.trt) _ _ ∙ (raise_length (count r) _ r.trt ∙ K.goes.shaped.trt), K.goes.shaped.late))
      (fddi_or_not r.set)

  shaped_next : Shaped next
  unfolding moved
  shaped_next = moved_shaped r K.goes.shaped _ _ timers_long.0 timers_long.1

-- it keeps all of it
pub goes_visit : (counter : ℕ) (r : Ring) (h : List VisitRecord) (G : Goes r h) (v : VisitEntry) (C : CouldVisit counter r v) → Goes (moved r v.synchronous v.asynchronous) (made r v ∷ h)
unfolding moved
goes_visit counter r h G v C =
    let K : Reached r = record { visits = h; goes = G } in
    let t = r.set in
    let a = r.alloc in
    let q = moved r v.synchronous v.asynchronous in
    let w = made r v in
    let P = plan r K in
    let F = visit_course counter r K v C in
    record {
      judged = G.judged;
      shaped = shaped_next counter r K v C;
      course = course_kept t a (timing r) (timing q) w h P G.course F;
      turns = (record { station = rw F.station G.course.token; turn = F.station ∙ G.course.turn }, G.turns);
      timely = λ n. timed_kept t a (timing r) (timing q) w h P (G.timely n) F (visit_timers counter r K v C n);
      fddi = λ f. lapped_kept t a (timing r) (timing q) w h P (G.fddi f) F (visit_laps counter r K v C f);
    }

pub reached_next : (counter : ℕ) (r : Ring) (K : Reached r) (v : VisitEntry) → CouldVisit counter r v → Reached (moved r v.synchronous v.asynchronous)
reached_next counter r K v C = record { visits = made r v ∷ K.visits; goes = goes_visit counter r K.visits K.goes v C }

-- ---- one mark more: nothing of this goes by the messages or the marks

module _ (r : Ring) (h : List VisitRecord) (G : Goes r h) where
  goes_messages : (m : Messages) → length m.rest ≡ 128 → length m.arrival ≡ 128 → length m.had ≡ 128 → length m.mark ≡ 128 → Goes (with_messages m r) h
  goes_messages m rest arrival had mark =
      record {
        judged = G.judged;
        shaped = messages_shaped r G.shaped m rest arrival had mark;
        course = G.course;
        turns = G.turns;
        timely = G.timely;
        fddi = G.fddi;
      }

  pub goes_switched : (i on : ℕ) → Goes (switched r i on) h
  unfolding switched switched_in switched_through
  goes_switched i zero = goes_messages _ G.shaped.rest G.shaped.arrival G.shaped.had (length-set r.mark i 0 ∙ G.shaped.mark)
  goes_switched i (suc k) =
      ⊎_elim (λ (m : Marked r i). rw (ring_marked r i m) G)
      (λ (u : Unmarked r i).
      rw (ring_unmarked r i u)
      (goes_messages _ (length-set r.rest i 0 ∙ G.shaped.rest) G.shaped.arrival G.shaped.had (length-set r.mark i 1 ∙ G.shaped.mark)))
      (marked_or_not r i)

pub reached_switched : (r : Ring) → Reached r → (i on : ℕ) → Reached (switched r i on)
reached_switched r K i on = record { visits = K.visits; goes = goes_switched r K.visits K.goes i on }

-- ---- the opened ring

module _ (t : Set) (a : Alloc) (h : judged_plan t a ≡ 0) where
  pub goes_opened : Goes (opened_ring t a) []
  unfolding opened_ring
  goes_opened =
      let P = plan_of_lem t a h in
      record {
        judged = h;
        shaped = (fresh t a h).shaped;
        course = opened_course t a P;
        turns = tt;
        timely = opened_timed t a P;
        fddi = opened_lapped t a P;
      }

  pub reached_opened : Reached (opened_ring t a)
  reached_opened = record { visits = []; goes = goes_opened }
