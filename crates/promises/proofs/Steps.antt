-- What the promises need of the rings' own steps: `ring_rules` promises what an accepted visit (`Done`) and an accepted handing in (`Held`) do.
-- Here that is put as the facts that add up. What FDDI's timers do, station by station, is a law of `rings`. Nothing else of `promises` looks into a step.
use Prim.Native.Nat.{ℕ, ◌+◌, ◌*◌, ◌-◌, ◌≤◌, ◌<◌}
use mathlib.Core.Path.{◌≡◌, refl, sym, ap, subst, subst₂, ◌∙◌}
use mathlib.Core.Bool.{true}
use mathlib.Core.List.{List}
use mathlib.Core.Logic.{◌⊎◌, inl, inr, ◌≢◌, ⊎_elim}
use native.Mathlib.Nat.{mul_comm}
use native.Mathlib.Omega.{arith}
use Rattle.units.specs.Numbers.{most_clock}
use Rattle.units.specs.Small.{rounded_up}
use Rattle.units.specs.Places.{at}
use Rattle.units.proofs.SmallLaws.{below_or_not, shares_enough}
use Rattle.units.specs.declared.Station.{Station}
use Rattle.sets.specs.declared.Set.{Set}
use Rattle.plans.specs.declared.Alloc.{Alloc}
use Rattle.fddi_timer_rules.proofs.Promised.{promised as timers-promised}
use Rattle.rings.specs.State.{count, ttrt, overrun, following, Marked, Unmarked, Shaped, timers_of}
use Rattle.rings.proofs.TimerLaws.{limit_within, marked_or_not}
use Rattle.rings.specs.Timers.{Fddi, has_run}
use Rattle.rings.specs.Sound.{Sound, is_sound}
use Rattle.rings.specs.Frames.{frames_sent}
use Rattle.rings.specs.Steps.{Ask, sync_start, sync_sent, async_sent, moved, record_of, visit_number, visited}
use Rattle.rings.specs.HandingIn.{holding, hand_in_number, handed_in}
use Rattle.rings.specs.Marking.{switched_through, switched_in, marked, unmarked}
use Rattle.rings.proofs.MarkLaws.{mark_passed, mark_inside}
use Rattle.rings.proofs.RingLaws.{sound_tests, sync_within, visit_passed, taken_passed, visit_accepted, taken_number, taken_accepted}
use Rattle.rings.specs.declared.Ring.{Ring}
use Rattle.rings.specs.declared.Message.{Message}
use Rattle.rings.specs.declared.VisitRecord.{VisitRecord}
use Rattle.rings.proofs.StationLaws.{offer_ran, ran_here, ran_there, moved_below}
use Rattle.ring_rules.specs.Promised.{Done, Held}
use Rattle.ring_rules.proofs.NumberLaws.{visited_number}
use Rattle.ring_rules.proofs.MovedLaws.{done}
use Rattle.ring_rules.proofs.HeldLaws.{held, held_sound}
use Rattle.ring_rules.proofs.MarkedLaws.{through, back_in, number_marked, number_unmarked, mark_either, unmark_either, mark_stays, mark_switches, mark_withdraws, unmark_switches}
use Rattle.promises.specs.Valid.{WalkedThrough}
use Rattle.promises.specs.Facts.{timing, VisitCourse, VisitTimers, VisitOffer, VisitLaps, VisitMessages, VisitFacts, Sending, Silent, Completing, Leaving, Accepting, Switching, Remarking, TakingBack, MarkFacts, UnmarkFacts}
use Rattle.promises.proofs.Course.{ToNext, ToFirst, following_is, same_or_not}

-- ---- the offer leaves room: where something is sent, it is within what TTRT leaves beside u and TRT

pub room_left : (ttrt f unused trt mark limit async : ℕ) → (mark ≡ 0 → limit ≡ ttrt - f - unused - trt) → (0 < mark → limit ≡ 0) → async ≤ limit + f → (limit ≡ 0 → async ≡ 0)
    → unused + trt ≤ ttrt → async + unused + trt ≤ ttrt
room_left ttrt f unused trt mark limit async offered marked within shut fits =
    ⊎_elim (λ (on : 0 < mark). omega (arith, shut (marked on)))
    (λ (off : mark ≤ 0).
    ⊎_elim (λ (some : 0 < limit). omega (arith, offered (omega arith))) (λ (none : limit ≤ 0). omega (arith, shut (omega arith))) (below_or_not 0 limit))
    (below_or_not 0 mark)

-- ---- a visit, of the ring's own plan

module _ (r : Ring) (L : Shaped r) (ask : Ask) (go : visit_number r ask ≡ 0) where
  s : Sound r
  s = (visit_passed r ask go).0

  pub visit_early : r.clock ≤ most_clock
  visit_early = (visit_passed r ask go).1.1

  abbrev async : ℕ
  async = async_sent r ask

  abbrev sync : ℕ
  sync = sync_sent r async

  abbrev next : Ring
  next = moved r sync async

  abbrev made : VisitRecord
  made = record_of r sync async

  does : Done r ask next made
  does = done r ask L s (visit_passed r ask go).1.0

  token_next : next.token ≡ following (count r) r.token
  token_next =
      ⊎_elim (λ (b : ToNext (count r) r.token). does.moved.on b.0 ∙ sym b.1)
      (λ (b : ToFirst (count r) r.token). does.moved.round b.0 ∙ sym b.1)
      (following_is (count r) r.token s.token)

  own_course : VisitCourse r.set r.alloc (timing r) (timing next) made
  unfolding record_of
  own_course =
      let M = does.moved in
      record {
        station = does.station;
        start = does.start;
        set = M.set;
        alloc = M.alloc;
        within = (sync_within r async).0;
        sent_here = M.sent;
        sent_there = M.sents;
        clock = M.clock;
        last_here = M.last;
        last_there = M.lasts;
        token = token_next;
        visits = M.visits;
      }

  own_timers : ¬ Fddi r.set → VisitTimers r.set (timing r) (timing next) made
  unfolding record_of
  own_timers n =
      let M = does.moved.timely n in
      let A = does.amounts in
      record {
        timer = does.trt;
        room = room_left (ttrt r) (overrun r) r.unused (at r.trt r.token) (at r.mark r.token) made.limit.0 made.asynchronous.0 (λ off. A.limit off n) A.marked_limit A.within A.shut;
        unused = M.unused;
        trt_here = M.trt_here;
        trt_there = M.trt_there;
      }

  own_offer : ¬ Fddi r.set → VisitOffer r.set (timing r) (at r.mark r.token) made
  own_offer n =
      let A = does.amounts in
      record { limit = λ off. A.limit off n; within = A.within; shut = A.shut; marked = A.marked_limit }

  -- FDDI: the ticks that pass raise every number, the token takes TTRT off its station's, and what that leaves of TTRT is offered
  own_laps : Fddi r.set → VisitLaps r.set r.alloc (timing r) (timing next) made
  unfolding moved record_of
  own_laps e =
      let A = does.amounts in
      let had = has_run r.set (timers_of r) r.token in
      let offered = offer_ran r L s e in
      let most = limit_within r in
      let within : async ≤ ttrt r - had + overrun r = omega (arith, offered, most, A.within) in
      record {
        moves =
            record {
              sync = sync;
              async = async;
              within = (sync_within r async).0;
              early = timers-promised.early (ttrt r) (overrun r) had async within (λ none. A.shut (omega (arith, most, offered, none)));
              length = refl;
              here = ran_here r L s e sync async;
              there = ran_there r L s e sync async;
            };
        below = moved_below r L s e sync async;
      }

  -- a marked station is walked through
  pub visit_through : (before : List VisitRecord) → WalkedThrough (at r.mark r.token) made before
  visit_through before =
      let A = does.amounts in
      record {
        limit = A.marked_limit;
        synchronous = A.marked_sync;
        asynchronous = A.marked_async;
      }

  -- when the synchronous part starts
  abbrev begins : ℕ
  begins = sync_start r (async_sent r ask)

  -- no message is held under a mark
  abbrev Clear : Type 0
  Clear = 0 < at r.rest r.token → Unmarked r r.token

  sending : Clear → Sending r.alloc r begins made ⊎ Silent r begins made
  unfolding record_of
  sending clear =
      let A = does.amounts in
      ⊎_elim (λ (held : 0 < at r.rest r.token).
      ⊎_elim (λ (late : begins < at r.arrival r.token). inr (record { nothing = A.early late; reason = inr late }))
      (λ (here : at r.arrival r.token ≤ begins). inl (record { held = held; arrived = here; amount = A.served (clear held) held here }))
      (below_or_not begins (at r.arrival r.token)))
      (λ (none : at r.rest r.token ≤ 0). inr (record { nothing = A.none (omega arith); reason = inl (omega arith) }))
      (below_or_not 0 (at r.rest r.token))

  completing : Completing r.set r next begins made ⊎ Leaving r next made
  unfolding record_of
  completing =
      ⊎_elim (λ (held : 0 < at r.rest r.token).
      ⊎_elim (λ (left : 0 < at next.rest r.token). inr (record { flag = (does.left (inr left)).flag; left = inr left }))
      (λ (over : at next.rest r.token ≤ 0).
      let C = does.completed held (omega arith) in
      inl (record { flag = C.flag; held = held; finish = C.finish; margin = C.margin; over = omega arith }))
      (below_or_not 0 (at next.rest r.token)))
      (λ (none : at r.rest r.token ≤ 0).
      let empty : at r.rest r.token ≡ 0 = omega arith in
      inr (record { flag = (does.left (inl empty)).flag; left = inl empty }))
      (below_or_not 0 (at r.rest r.token))

  own_messages : Clear → VisitMessages r.set r.alloc r next made
  unfolding record_of
  own_messages clear =
      let M = does.moved in
      record {
        rest_here = M.rest;
        rest_there = M.rests;
        arrival = M.arrival;
        had = M.had;
        mark = M.mark;
        sending = sending clear;
        completing = completing;
      }

  -- where the frames asked for take as long as the limit, all of it is sent
  pub visit_enough : made.limit.0 ≤ ask.frames * ask.length → made.limit.0 ≤ made.asynchronous.0
  visit_enough enough =
      let A = does.amounts in
      let shares = rounded_up made.limit.0 ask.length in
      let sent = A.frames in
      ⊎_elim (λ (few : ask.frames < shares).
      let all : frames_sent made.limit.0 ask ≡ ask.frames = omega (arith, A.counted) in
      rw (sent, all) enough)
      (λ (many : shares ≤ ask.frames).
      let all : frames_sent made.limit.0 ask ≡ shares = omega (arith, A.counted) in
      rw (sent, all) (omega (arith, shares_enough made.limit.0 ask.length (visit_passed r ask go).1.0.0, mul_comm ask.length shares)))
      (below_or_not ask.frames shares)

  pub visit_places : Shaped next
  visit_places = does.moved.shaped

  -- of the plan with which the ring was opened
  module _ (t : Set) (a : Alloc) (set : r.set ≡ t) (alloc : r.alloc ≡ a) where
    pub visit_course : VisitCourse t a (timing r) (timing next) made
    visit_course = subst₂ (λ (x : Set) (y : Alloc). VisitCourse x y (timing r) (timing next) made) set alloc own_course

    pub visit_messages : Clear → VisitMessages t a r next made
    visit_messages clear = subst₂ (λ (x : Set) (y : Alloc). VisitMessages x y r next made) set alloc (own_messages clear)

    pub visit_offer : ¬ Fddi t → VisitOffer t (timing r) (at r.mark r.token) made
    visit_offer n = subst (λ (x : Set). VisitOffer x (timing r) (at r.mark r.token) made) set (own_offer (rw set n))

    pub visit_timers : ¬ Fddi t → VisitTimers t (timing r) (timing next) made
    visit_timers n = subst (λ (x : Set). VisitTimers x (timing r) (timing next) made) set (own_timers (rw set n))

    pub visit_laps : Fddi t → VisitLaps t a (timing r) (timing next) made
    visit_laps e = subst₂ (λ (x : Set) (y : Alloc). VisitLaps x y (timing r) (timing next) made) set alloc (own_laps (rw set e))

pub visit_facts : (r : Ring) (ask : Ask) → Shaped r → (visited r ask).answer.number ≡ 0 → VisitFacts r (visited r ask).ring (visited r ask).answer.«record»
visit_facts r ask L e =
    let go : visit_number r ask ≡ 0 = sym (visited_number (visit_number r ask) r ask) ∙ e in
    rw (visit_accepted (visit_number r ask) r ask go)
    (record {
      course = own_course r L ask go;
      messages = own_messages r L ask go;
      through = visit_through r L ask go;
      timers = own_timers r L ask go;
      offer = own_offer r L ask go;
      laps = own_laps r L ask go;
    })

-- ---- a handing in

module _ (r : Ring) (L : Shaped r) (m : Message) (e : hand_in_number r m ≡ 0) where
  stores : Held r m (holding r m)
  stores = held r m L (taken_passed r m e).0 (taken_passed r m e).1

  pub holding_places : Shaped (holding r m)
  holding_places = stores.shaped

  pub holding_sound : is_sound (holding r m) ≡ true
  holding_sound = sound_tests (holding r m) (held_sound r m L (taken_passed r m e).0 (taken_passed r m e).1)

  own_accepts : Accepting r.set r (holding r m) m
  unfolding holding
  own_accepts =
      let A = (taken_passed r m e).1 in
      record {
        known = A.known;
        length = A.length;
        free = A.free.0;
        unmarked = A.free.1;
        arrived = A.arrived;
        range = A.arrival.range;
        later = A.arrival.later;
        gap = A.arrival.gap;
        timing_same = refl;
        rest_here = stores.rest;
        rest_there = stores.rests;
        arrival_here = stores.arrival;
        arrival_there = stores.arrivals;
        had_here = omega (arith, stores.had);
        had_there = stores.hads;
        mark_same = stores.mark;
      }

  -- of the plan with which the ring was opened
  pub message_accepts : (t : Set) → r.set ≡ t → Accepting t r (holding r m) m
  message_accepts t set = subst (λ (x : Set). Accepting x r (holding r m) m) set own_accepts

pub message_facts : (r : Ring) (m : Message) → Shaped r → (handed_in r m).number ≡ 0 → Accepting r.set r (handed_in r m).ring m
message_facts r m L e =
    let go : hand_in_number r m ≡ 0 = sym (taken_number (hand_in_number r m) r m) ∙ e in
    rw (taken_accepted (hand_in_number r m) r m go) (own_accepts r L m go)

-- ---- a station switched through, and in again

module _ (r : Ring) (L : Shaped r) where
  -- nothing changes
  stays : Switching r r
  stays = record { timing_same = refl; arrival = refl; had = refl; rest = λ i. inl refl; clear = λ c. c; shaped = L }

  module _ (p : ℕ) (inside : p < 128) where
    through_switches : Switching r (switched_through r p)
    unfolding switched_through
    through_switches =
        let T = through r p L inside in
        record {
          timing_same = refl;
          arrival = refl;
          had = refl;
          rest = λ i. ⊎_elim (λ (b : i ≡ p). inr (rw b T.rest)) (λ (b : i ≢ p). inl (T.rests i b)) (same_or_not i p);
          clear = λ c i h.
              ⊎_elim (λ (b : i ≡ p). let none = T.rest in absurd (omega (arith, none, rw b at h)))
              (λ (b : i ≢ p). T.marks i b ∙ c i (rw (T.rests i b) at h))
              (same_or_not i p);
          shaped = T.shaped;
        }

    in_switches : Switching r (switched_in r p)
    unfolding switched_in
    in_switches =
        let T = back_in r p L inside in
        record {
          timing_same = refl;
          arrival = refl;
          had = refl;
          rest = λ i. inl refl;
          clear = λ c i h. ⊎_elim (λ (b : i ≡ p). rw b T.mark) (λ (b : i ≢ p). T.marks i b ∙ c i h) (same_or_not i p);
          shaped = T.shaped;
        }

  module _ (p : Station) where
    pub mark_switching : Switching r (marked r p).ring
    mark_switching =
        ⊎_elim (λ (e : (marked r p).ring ≡ r). rw e stays)
        (λ (e : ((marked r p).answer.number ≡ 0) × (Unmarked r p.0 × ((marked r p).ring ≡ switched_through r p.0))).
        rw e.1.1 (through_switches p.0 (mark_inside r p (sym (number_marked r p) ∙ e.0))))
        (mark_either r p)

    pub unmark_switching : Switching r (unmarked r p).ring
    unmark_switching =
        ⊎_elim (λ (e : (unmarked r p).ring ≡ r). rw e stays)
        (λ (e : ((unmarked r p).number ≡ 0) × ((unmarked r p).ring ≡ switched_in r p.0)).
        rw e.1 (in_switches p.0 (mark_inside r p (sym (number_unmarked r p) ∙ e.0))))
        (unmark_either r p)

    pub unmark_rest : (unmarked r p).ring.rest ≡ r.rest
    unfolding switched_in
    unmark_rest =
        ⊎_elim (λ (e : (unmarked r p).ring ≡ r). ap (λ (x : Ring). x.rest) e)
        (λ (e : ((unmarked r p).number ≡ 0) × ((unmarked r p).ring ≡ switched_in r p.0)). ap (λ (x : Ring). x.rest) e.1)
        (unmark_either r p)

    -- what remains of other messages stays
    mark_there : (i : ℕ) → i ≢ p.0 → at (marked r p).ring.rest i ≡ at r.rest i
    mark_there i b =
        ⊎_elim (λ (e : (marked r p).ring ≡ r). rw e)
        (λ (e : ((marked r p).answer.number ≡ 0) × (Unmarked r p.0 × ((marked r p).ring ≡ switched_through r p.0))).
        (mark_switches r p L e.0 e.1.0).rests i b)
        (mark_either r p)

    pub mark_takes : (marked r p).answer.number ≡ 0 → TakingBack r (marked r p).ring p.0 (marked r p).answer
    mark_takes e =
        record {
          flag = λ u h. (mark_withdraws r p e u h).flag;
          rest = λ u h. (mark_withdraws r p e u h).rest;
          arrival = λ u h. (mark_withdraws r p e u h).arrival;
          there = mark_there;
        }

    pub mark_remarks : (marked r p).answer.number ≡ 0 → Remarking r (marked r p).ring p.0 1
    mark_remarks e =
        let known = (mark_passed r p (sym (number_marked r p) ∙ e)).1 in
        ⊎_elim (λ (on : Marked r p.0).
        rw (mark_stays r p on).0 (record { known = known; here = λ small. omega arith; there = λ i b. refl }))
        (λ (off : Unmarked r p.0).
        let T = mark_switches r p L e off in
        record { known = known; here = λ small. T.mark; there = T.marks })
        (marked_or_not r p.0)

    pub unmark_remarks : (unmarked r p).number ≡ 0 → Remarking r (unmarked r p).ring p.0 0
    unmark_remarks e =
        let T = unmark_switches r p L e in
        record { known = (mark_passed r p (sym (number_unmarked r p) ∙ e)).1; here = λ small. T.mark; there = T.marks }

pub mark_facts : (r : Ring) (p : Station) → Shaped r → (marked r p).answer.number ≡ 0 → MarkFacts r (marked r p).ring p.0 (marked r p).answer
mark_facts r p L e = record { switching = mark_switching r L p; marks = mark_remarks r L p e; taking = mark_takes r L p e }

pub unmark_facts : (r : Ring) (p : Station) → Shaped r → (unmarked r p).number ≡ 0 → UnmarkFacts r (unmarked r p).ring p.0
unmark_facts r p L e = record { switching = unmark_switching r L p; marks = unmark_remarks r L p e; rest = unmark_rest r L p }
