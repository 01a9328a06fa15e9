-- Places from N on are never looked at: every test and every number is read off the first N, and what a call stores is the same for both rings.
use Prim.Native.Nat.{ℕ, ◌+◌, ◌-◌, ◌≤◌, ◌<◌}
use mathlib.Core.Path.{◌≡◌, sym, ap, ◌∙◌}
use mathlib.Core.Bool.{Bool}
use mathlib.Core.List.{List}
use mathlib.Core.Logic.{◌≢◌, ⊎_elim}
use native.Mathlib.Omega.{arith}
use borrow.Author.Tests.{le-ltb}
use Rattle.units.specs.Judging.{or_else}
use Rattle.rings.proofs.RingLaws.{message_9}
use Rattle.units.specs.Places.{at, sum_below, sum_from, all_below}
use Rattle.units.proofs.PlaceLaws.{sum_same, all_same}
use Rattle.units.proofs.SmallLaws.{below_or_not}
use Rattle.units.specs.declared.Station.{Station}
use Rattle.sets.specs.Rules.{SameSet}
use Rattle.sets.specs.declared.Head.{Head}
use Rattle.sets.specs.declared.Set.{Set}
use Rattle.plans.specs.Planned.{judged_plan}
use Rattle.plans.proofs.SameLaws.{judged_plan_same}
use Rattle.plans.specs.declared.Alloc.{Alloc}
use Rattle.rings.specs.State.{count, ttrt, unused_at, timers_of}
use Rattle.fddi_timer_rules.specs.Timers.{Timer, ticks, started_at, offered, visited as tokenAt}
use Rattle.rings.specs.Timers.{Fddi, lead, timers_offer, limit, timer_of, trt_sound_at, timer_sound_at, late_sound_at, timely_sound, fddi_sound, timers_sound}
use Rattle.rings.proofs.TimerLaws.{fddi_or_not}
use Rattle.rings.specs.Sound.{sent_sound_at, rest_sound_at, arrival_sound_at, is_sound}
use Rattle.rings.specs.Steps.{Ask, sync_start, most_sent, sync_sent, async_sent, record_of, visit_number}
use Rattle.rings.specs.HandingIn.{arrival_allowed, message_number, hand_in_number}
use Rattle.rings.specs.Marking.{mark_number, withdrawal}
use Rattle.rings.proofs.StationLaws.{equal_or_not}
use Rattle.ring_rules.specs.Promised.{SameFirst, SameRing, SameTiming, passes, Moved, Held, SwitchedThrough, SwitchedIn, Fresh}
use Rattle.rings.specs.declared.Ring.{Ring}
use Rattle.rings.specs.declared.Message.{Message}
use Rattle.rings.specs.declared.VisitRecord.{VisitRecord}

-- two lists that agree at p and agree elsewhere with two that are the same over the first n
spliced : (n p : ℕ) (xs ys us vs : List ℕ) → SameFirst n xs ys → at us p ≡ at vs p → ((j : ℕ) → j ≢ p → at us j ≡ at xs j) → ((j : ℕ) → j ≢ p → at vs j ≡ at ys j) → SameFirst n us vs
spliced n p xs ys us vs same here there-x there-y i l =
    ⊎_elim (λ (e : i ≡ p). rw e here) (λ (d : i ≢ p). there-x i d ∙ same i l ∙ sym (there-y i d)) (equal_or_not i p)

module _ (a b : Ring) (e : SameRing a b) where
  ttrt_same : ttrt a ≡ ttrt b
  ttrt_same = ap (λ (h : Head). h.ttrt) e.set.header

  mode_same : a.set.head.mode ≡ b.set.head.mode
  mode_same = ap (λ (h : Head). h.mode) e.set.header

  pub sound_same : is_sound a ≡ is_sound b
  unfolding is_sound timers_sound timely_sound fddi_sound
  sound_same =
      let n = e.set.count in
      let rotation = ttrt_same in
      let plan : judged_plan a.set a.alloc ≡ judged_plan b.set b.alloc = judged_plan_same a.set b.set a.alloc b.alloc e.set e.alloc in
      let trts : all_below (count a) (trt_sound_at a) ≡ all_below (count b) (trt_sound_at b) =
      all_same (count a) (trt_sound_at a) (trt_sound_at b) (λ i l. rw (e.trt i l, rotation)) ∙ ap (λ (k : ℕ). all_below k (trt_sound_at b)) n in
      let timers : all_below (count a) (timer_sound_at a) ≡ all_below (count b) (timer_sound_at b) =
      all_same (count a) (timer_sound_at a) (timer_sound_at b) (λ i l. rw (e.trt i l, rotation)) ∙ ap (λ (k : ℕ). all_below k (timer_sound_at b)) n in
      let lates : all_below (count a) (late_sound_at a) ≡ all_below (count b) (late_sound_at b) =
      all_same (count a) (late_sound_at a) (late_sound_at b) (λ i l. rw (e.late i l)) ∙ ap (λ (k : ℕ). all_below k (late_sound_at b)) n in
      let sents : all_below (count a) (sent_sound_at a) ≡ all_below (count b) (sent_sound_at b) =
      all_same (count a) (sent_sound_at a) (sent_sound_at b) (λ i l. rw (e.sent i l, e.alloc i l)) ∙ ap (λ (k : ℕ). all_below k (sent_sound_at b)) n in
      let sum : sum_below (count a) (unused_at a) ≡ sum_below (count b) (unused_at b) =
      sum_same (count a) (unused_at a) (unused_at b) (λ i l. rw (e.sent i l, e.alloc i l)) ∙ ap (λ (k : ℕ). sum_below k (unused_at b)) n in
      let rests : all_below (count a) (rest_sound_at a) ≡ all_below (count b) (rest_sound_at b) =
      all_same (count a) (rest_sound_at a) (rest_sound_at b) (λ i l. rw (e.rest i l, e.set.longest i l)) ∙ ap (λ (k : ℕ). all_below k (rest_sound_at b)) n in
      let arrivals : all_below (count a) (arrival_sound_at a) ≡ all_below (count b) (arrival_sound_at b) =
      all_same (count a) (arrival_sound_at a) (arrival_sound_at b) (λ i l. rw (e.arrival i l)) ∙ ap (λ (k : ℕ). all_below k (arrival_sound_at b)) n in
      rw (plan, mode_same, trts, timers, lates, sents, sum, rests, arrivals, e.token, e.unused, e.clock, e.visits, n)

  pub visit_number_same : (ask : Ask) → visit_number a ask ≡ visit_number b ask
  visit_number_same ask = rw (sound_same, e.set.header, e.clock)

  -- ---- a visit

  module _ (ask : Ask) (l : a.token < count a) where
    -- the number at the token's station
    here : (xs ys : List ℕ) → SameFirst (count a) xs ys → at xs a.token ≡ at ys b.token
    here xs ys same = same a.token l ∙ ap (at ys) e.token

    lead_same : (async : ℕ) → lead a.set async ≡ lead b.set async
    unfolding lead
    lead_same async = rw mode_same

    start_same : (async : ℕ) → sync_start a async ≡ sync_start b async
    start_same async = rw (e.clock, lead_same async)

    limit_same : limit a ≡ limit b
    unfolding limit timers_offer offered
    limit_same = rw (here a.mark b.mark e.mark, mode_same, ap (λ (h : Head). h.frame) e.set.header, here a.trt b.trt e.trt, here a.late b.late e.late, ttrt_same, e.unused)

    pub sync_same : (async : ℕ) → sync_sent a async ≡ sync_sent b async
    unfolding sync_sent most_sent
    sync_same async = rw (here a.mark b.mark e.mark, here a.rest b.rest e.rest, here a.arrival b.arrival e.arrival, here a.alloc.s b.alloc.s e.alloc, start_same async)

    pub async_same : async_sent a ask ≡ async_sent b ask
    async_same = rw limit_same

    pub record_same : (sync async : ℕ) → record_of a sync async ≡ record_of b sync async
    unfolding record_of
    record_same sync async =
        rw (
          limit_same,
          here a.trt b.trt e.trt,
          here a.rest b.rest e.rest,
          here a.arrival b.arrival e.arrival,
          here a.set.d b.set.d e.set.deadline,
          start_same async,
          e.clock,
          e.token,
        )

    module _ (na nb : Ring) (v : VisitRecord) (ma : Moved a na v) (mb : Moved b nb v) where
      -- the ticks that pass
      passes_same : passes a v ≡ passes b v
      passes_same = rw (here a.set.w b.set.w e.set.walk)

      timely_same : ¬ Fddi a.set → ¬ Fddi b.set → (i : ℕ) → i < count a → timer_of (timers_of na) i ≡ timer_of (timers_of nb) i
      timely_same fa fb i k =
          let ta = ma.timely fa in
          let tb = mb.timely fb in
          let late : at na.late i ≡ at nb.late i = rw (ta.late, tb.late) (e.late i k) in
          let trt : at na.trt i ≡ at nb.trt i =
          ⊎_elim (λ (q : i ≡ a.token). rw q (omega (arith, ta.trt_here, tb.trt_here, passes_same, lead_same v.asynchronous.0, ap (at nb.trt) e.token)))
          (λ (q : i ≢ a.token). omega (arith, ta.trt_there i k q, tb.trt_there i (rw (← e.set.count) k) (rw (← e.token) q), e.trt i k, passes_same))
          (equal_or_not i a.token) in
          λ d. record { count = late d; timer = trt d }

      timer_same : (i : ℕ) → i < count a → timer_of (timers_of a) i ≡ timer_of (timers_of b) i
      timer_same i k = λ d. record { count = e.late i k d; timer = e.trt i k d }

      -- the same ticks pass at the same timers
      ticks_there : (i : ℕ) → i < count a → ticks (ttrt a) (passes a v) (timer_of (timers_of a) i) ≡ ticks (ttrt b) (passes b v) (timer_of (timers_of b) i)
      ticks_there i k = rw (ttrt_same, passes_same, timer_same i k)

      ticks_here : ticks (ttrt a) (passes a v) (tokenAt (timer_of (timers_of a) a.token)) ≡ ticks (ttrt b) (passes b v) (tokenAt (timer_of (timers_of b) b.token))
      ticks_here = rw (ttrt_same, passes_same, timer_same a.token l, e.token)

      fddi_same : Fddi a.set → Fddi b.set → (i : ℕ) → i < count a → timer_of (timers_of na) i ≡ timer_of (timers_of nb) i
      fddi_same fa fb i k =
          let ta = ma.fddi fa in
          let tb = mb.fddi fb in
          ⊎_elim (λ (q : i ≡ a.token). rw q (ta.timer_here ∙ ticks_here ∙ sym tb.timer_here ∙ ap (timer_of (timers_of nb)) (sym e.token)))
          (λ (q : i ≢ a.token). ta.timer_there i k q ∙ ticks_there i k ∙ sym (tb.timer_there i (rw (← e.set.count) k) (rw (← e.token) q)))
          (equal_or_not i a.token)

      timers_same : (i : ℕ) → i < count a → timer_of (timers_of na) i ≡ timer_of (timers_of nb) i
      timers_same i k =
          ⊎_elim (λ (f : Fddi a.set). fddi_same f (rw (← mode_same) f) i k) (λ (f : ¬ Fddi a.set). timely_same f (rw (← mode_same) f) i k) (fddi_or_not a.set)

      unused_same : na.unused ≡ nb.unused
      unused_same =
          ⊎_elim (λ (f : Fddi a.set). (ma.fddi f).unused ∙ e.unused ∙ sym (mb.fddi (rw (← mode_same) f)).unused)
          (λ (f : ¬ Fddi a.set). omega (arith, (ma.timely f).unused, (mb.timely (rw (← mode_same) f)).unused, e.unused, here a.sent b.sent e.sent))
          (fddi_or_not a.set)

    pub moved_same : (na nb : Ring) (v : VisitRecord) → Moved a na v → Moved b nb v → SameRing na nb
    moved_same na nb v ma mb =
        let n : count na ≡ count a = ap (λ (t : Set). t.n) ma.set in
        let p = e.token in
        let timers = timers_same na nb v ma mb in
        let rest = here a.rest b.rest e.rest in
        let last_here : at na.last a.token ≡ at nb.last a.token = ma.last ∙ start_same v.asynchronous.0 ∙ rw p (sym mb.last) in
        let rest-b : at nb.rest a.token + v.synchronous.0 ≡ at b.rest b.token = rw p mb.rest in
        record {
          set = rw (ma.set, mb.set) e.set;
          alloc = rw (ma.alloc, mb.alloc, n) e.alloc;
          trt = rw n (λ i k. ap (λ (t : Timer). t.timer) (timers i k));
          late = rw n (λ i k. ap (λ (t : Timer). t.count) (timers i k));
          sent = rw n (spliced (count a) a.token a.sent b.sent na.sent nb.sent e.sent (ma.sent ∙ rw p (sym mb.sent)) ma.sents (rw p mb.sents));
          rest = rw n (spliced (count a) a.token a.rest b.rest na.rest nb.rest e.rest (omega (arith, ma.rest)) ma.rests (rw p mb.rests));
          arrival = rw (n, ma.arrival, mb.arrival) e.arrival;
          had = rw (n, ma.had, mb.had) e.had;
          mark = rw (n, ma.mark, mb.mark) e.mark;
          last = rw n (spliced (count a) a.token a.last b.last na.last nb.last e.last last_here ma.lasts (rw p mb.lasts));
          clock = ma.clock ∙ rw (passes_same na nb v ma mb, e.clock) (sym mb.clock);
          visits = ma.visits ∙ rw e.visits (sym mb.visits);
          token = ⊎_elim (λ (q : a.token + 1 < count a). ma.on q ∙ rw p (sym (mb.on (rw (← p, ← e.set.count) q))))
              (λ (q : count a ≤ a.token + 1). let last : a.token + 1 ≡ count a = omega arith in ma.round last ∙ sym (mb.round (rw (← p, ← e.set.count) last)))
              (below_or_not (a.token + 1) (count a));
          unused = unused_same na nb v ma mb;
        }

  -- ---- calls that are no visits

  -- what such a call leaves alone is the same, and so are the rings if the rest is
  timing_same : (na nb : Ring) → SameTiming a na → SameTiming b nb → SameFirst (count na) na.rest nb.rest → SameFirst (count na) na.arrival nb.arrival
      → SameFirst (count na) na.had nb.had → SameFirst (count na) na.mark nb.mark → SameRing na nb
  timing_same na nb ta tb rest arrival had mark =
      let n : count na ≡ count a = ap (λ (t : Set). t.n) ta.set in
      record {
        set = rw (ta.set, tb.set) e.set;
        alloc = rw (ta.alloc, tb.alloc, n) e.alloc;
        trt = rw (n, ta.trt, tb.trt) e.trt;
        late = rw (n, ta.late, tb.late) e.late;
        sent = rw (n, ta.sent, tb.sent) e.sent;
        rest = rest;
        arrival = arrival;
        had = had;
        mark = mark;
        last = rw (n, ta.last, tb.last) e.last;
        clock = ta.clock ∙ e.clock ∙ sym tb.clock;
        visits = ta.visits ∙ e.visits ∙ sym tb.visits;
        token = ta.token ∙ e.token ∙ sym tb.token;
        unused = ta.unused ∙ e.unused ∙ sym tb.unused;
      }

  -- ---- a handing in

  module _ (m : Message) where
    -- a station of the ring: every test reads the same numbers
    known_same : m.station.0 < count a → message_number a m ≡ message_number b m
    unfolding arrival_allowed
    known_same l =
        let i = m.station.0 in
        rw (e.set.longest i l, e.rest i l, e.mark i l, e.last i l, e.had i l, e.arrival i l, e.set.gap i l, e.visits, e.clock, e.set.count)

    -- any other: 9 for both
    unknown_same : count a ≤ m.station.0 → message_number a m ≡ message_number b m
    unknown_same l =
        let past : count b ≤ m.station.0 = rw (← e.set.count) l in
        message_9 a m (le-ltb _ _ l) ∙ sym (message_9 b m (le-ltb _ _ past))

    pub message_number_same : hand_in_number a m ≡ hand_in_number b m
    message_number_same =
        let rest : message_number a m ≡ message_number b m = ⊎_elim (λ l. known_same l) (λ l. unknown_same l) (below_or_not m.station.0 (count a)) in
        ap (λ (x : ℕ). or_else (is_sound a) 8 x) rest ∙ ap (λ (t : Bool). or_else t 8 (message_number b m)) sound_same

    pub held_same : (na nb : Ring) → Held a m na → Held b m nb → SameRing na nb
    held_same na nb ha hb =
        let n : count na ≡ count a = ap (λ (t : Set). t.n) ha.timing.set in
        let i = m.station.0 in
        timing_same na nb ha.timing hb.timing
        (rw n (spliced (count a) i a.rest b.rest na.rest nb.rest e.rest (ha.rest ∙ sym hb.rest) ha.rests hb.rests))
        (rw n (spliced (count a) i a.arrival b.arrival na.arrival nb.arrival e.arrival (ha.arrival ∙ sym hb.arrival) ha.arrivals hb.arrivals))
        (rw n (spliced (count a) i a.had b.had na.had nb.had e.had (ha.had ∙ sym hb.had) ha.hads hb.hads))
        (rw (n, ha.mark, hb.mark) e.mark)

  -- ---- a station switched through, and in again

  pub through_same : (i : ℕ) (na nb : Ring) → SwitchedThrough a i na → SwitchedThrough b i nb → SameRing na nb
  through_same i na nb ha hb =
      let n : count na ≡ count a = ap (λ (t : Set). t.n) ha.timing.set in
      timing_same na nb ha.timing hb.timing
      (rw n (spliced (count a) i a.rest b.rest na.rest nb.rest e.rest (ha.rest ∙ sym hb.rest) ha.rests hb.rests))
      (rw (n, ha.arrival, hb.arrival) e.arrival)
      (rw (n, ha.had, hb.had) e.had)
      (rw n (spliced (count a) i a.mark b.mark na.mark nb.mark e.mark (ha.mark ∙ sym hb.mark) ha.marks hb.marks))

  pub in_same : (i : ℕ) (na nb : Ring) → SwitchedIn a i na → SwitchedIn b i nb → SameRing na nb
  in_same i na nb ha hb =
      let n : count na ≡ count a = ap (λ (t : Set). t.n) ha.timing.set in
      timing_same na nb ha.timing hb.timing
      (rw (n, ha.rest, hb.rest) e.rest)
      (rw (n, ha.arrival, hb.arrival) e.arrival)
      (rw (n, ha.had, hb.had) e.had)
      (rw n (spliced (count a) i a.mark b.mark na.mark nb.mark e.mark (ha.mark ∙ sym hb.mark) ha.marks hb.marks))

  pub mark_number_same : (s : Station) → mark_number a s ≡ mark_number b s
  mark_number_same s = rw (sound_same, e.set.count)

  pub withdrawal_same : (i : ℕ) → i < count a → withdrawal a i ≡ withdrawal b i
  unfolding withdrawal
  withdrawal_same i l = rw (e.mark i l, e.rest i l, e.arrival i l)

-- ---- opening

fresh_timers : (t u : Set) (a b : Alloc) (r q : Ring) → SameSet t u → Fresh t a r → Fresh u b q → (i : ℕ) → i < t.n → timer_of (timers_of r) i ≡ timer_of (timers_of q) i
fresh_timers t u a b r q same fr fq i l =
    let mode : t.head.mode ≡ u.head.mode = ap (λ (h : Head). h.mode) same.header in
    let ttrt : t.head.ttrt ≡ u.head.ttrt = ap (λ (h : Head). h.ttrt) same.header in
    let m : i < u.n = rw (← same.count) l in
    let walk : sum_from i t.n (at t.w) ≡ sum_from i u.n (at u.w) =
    sum_same (t.n - i) (λ k. at t.w (i + k)) (λ k. at u.w (i + k)) (λ k h. same.walk (i + k) (omega arith)) ∙ rw same.count in
    let start : started_at t.head.ttrt (sum_from i t.n (at t.w)) ≡ started_at u.head.ttrt (sum_from i u.n (at u.w)) = rw (ttrt, walk) in
    ⊎_elim (λ (f : Fddi t). fr.timers f i l ∙ start ∙ sym (fq.timers (rw (← mode) f) i m))
    (λ (f : ¬ Fddi t).
    let trt : at r.trt i ≡ at q.trt i = fr.trts f i l ∙ walk ∙ sym (fq.trts (rw (← mode) f) i m) in
    let late : at r.late i ≡ at q.late i = fr.lates f i ∙ sym (fq.lates (rw (← mode) f) i) in
    λ d. record { count = late d; timer = trt d })
    (fddi_or_not t)

pub fresh_same : (t u : Set) (a b : Alloc) (r q : Ring) → SameSet t u → SameFirst t.n a.s b.s → Fresh t a r → Fresh u b q → SameRing r q
fresh_same t u a b r q same alloc fr fq =
    let n : count r ≡ t.n = ap (λ (x : Set). x.n) fr.set in
    record {
      set = rw (fr.set, fq.set) same;
      alloc = rw (n, fr.alloc, fq.alloc) alloc;
      trt = rw n (λ i l. ap (λ (x : Timer). x.timer) (fresh_timers t u a b r q same fr fq i l));
      late = rw n (λ i l. ap (λ (x : Timer). x.count) (fresh_timers t u a b r q same fr fq i l));
      sent = λ i l. fr.sents i ∙ sym (fq.sents i);
      rest = λ i l. fr.rests i ∙ sym (fq.rests i);
      arrival = λ i l. fr.arrivals i ∙ sym (fq.arrivals i);
      had = λ i l. fr.had i ∙ sym (fq.had i);
      mark = λ i l. fr.marks i ∙ sym (fq.marks i);
      last = λ i l. fr.lasts i ∙ sym (fq.lasts i);
      clock = fr.clock ∙ sym fq.clock;
      visits = fr.visits ∙ sym fq.visits;
      token = fr.token ∙ sym fq.token;
      unused = fr.unused ∙ (sum_same t.n (at a.s) (at b.s) alloc ∙ rw same.count (sym fq.unused));
    }
