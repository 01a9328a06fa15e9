-- An inspection stands for the ring that the records so far lead to: its clock less a base is how long that station's timer has run.
use Prim.Native.Nat.{ℕ, zero, suc, ◌+◌, ◌-◌, ◌%◌, ◌^◌, ◌≤◌, ◌<◌}
use mathlib.Core.Path.{◌≡◌, refl, sym, ap, ◌∙◌}
use mathlib.Core.Bool.{cond}
use mathlib.Core.Logic.{◌≢◌, ⊎_elim, ◌↔◌}
use native.Mathlib.Nat.{mod-eq_of_lt, mod-add-mod}
use native.Mathlib.Omega.{arith}
use borrow.Author.Tests.{eq-eqb, ne_eqb, le-leb, lt-leb}
use lib.Dec.{ltb, eqb}
use lib.ListN.{length, set, length-set}
use lib.Seq.{get_or-set_same, get_or-set_other}
use Rattle.units.specs.Places.{at, sum_below}
use Rattle.units.proofs.PlaceLaws.{sum_split, fill_inside, fill_length}
use Rattle.units.proofs.SmallLaws.{below_or_not}
use Rattle.sets.specs.Rules.{tau}
use Rattle.sets.specs.Judged.{zeros}
use Rattle.sets.specs.declared.Set.{Set}
use Rattle.plans.specs.Rules.{is_fddi}
use Rattle.plans.specs.Planned.{judged_plan}
use Rattle.plans.specs.declared.Alloc.{Alloc}
use Rattle.log_records.specs.declared.VisitEntry.{VisitEntry}
use Rattle.log_records.specs.declared.MarkEntry.{MarkEntry}
use Rattle.rings.specs.State.{count, ttrt, Marked, Unmarked, is_marked, timers_of, Messages, messages_of, with_messages}
use Rattle.rings.specs.Timers.{Fddi, has_run, timers_offer, limit, lead, rise}
use Rattle.rings.proofs.TimerLaws.{fddi_or_not, fddi_true, fddi_false, marked_true, marked_or_not, offer_timely, lead_within}
use Rattle.rings.specs.Opening.{opened_ring}
use Rattle.rings.specs.Steps.{most_sent, moved}
use Rattle.rings.specs.Marking.{switched_through, switched_in}
use Rattle.rings.proofs.MarkLaws.{ring_marked, ring_unmarked}
use Rattle.rings.specs.declared.Ring.{Ring}
use Rattle.rings.proofs.StationLaws.{opened_ran}
use Rattle.ring_rules.proofs.OpenedLaws.{fresh}
use Rattle.promises.specs.Facts.{timing}
use Rattle.promises.proofs.Course.{Plan, same_or_not}
use Rattle.promises.proofs.Timing.{never_late}
use Rattle.promises.proofs.Laps.{run_small as lapped-small}
use Rattle.promises.proofs.Opening.{plan_of_lem}
use Rattle.inspection.specs.Counter.{ticks_later, ticks_between}
use Rattle.inspection.specs.Opening.{passing_times, begun}
use Rattle.inspection.specs.Rules.{place_of, place, limit_with, unless_marked}
use Rattle.inspection.specs.Records.{base_with, span_with, visited_on, mark_of, switched_on}
use Rattle.inspection.specs.declared.Inspection.{Inspection}
use Rattle.inspection_rules.specs.Gives.{CouldVisit, MarkRule, switched}
use Rattle.inspection_rules.proofs.Reaching.{Reached, plan, offer_lapped, passes_short, early_here, early_there, early_unused, lapped_here, lapped_there, reached_next}

-- how long station i's timer has run: TRT, or an FDDI timer with TTRT for each time that it is late
unfoldable pub run_of : Ring → ℕ → ℕ
run_of r i = cond (is_fddi r.set) (has_run r.set (timers_of r) i) (at r.trt i)

run_fddi : (r : Ring) → Fddi r.set → (i : ℕ) → run_of r i ≡ has_run r.set (timers_of r) i
unfolding run_of
run_fddi r e i = rw (fddi_true r.set e)

run_timely : (r : Ring) → ¬ Fddi r.set → (i : ℕ) → run_of r i ≡ at r.trt i
unfolding run_of
run_timely r n i = rw (fddi_false r.set n)

-- ---- on a 32-bit counter

-- the clock less the base is what has passed since
pub between_is : (base run clock : ℕ) → base < 2 ^ 32 → run < 2 ^ 32 → (base + run) % 2 ^ 32 ≡ clock → ticks_between base clock ≡ run
between_is base run clock b r e =
    ⊎_elim (λ (l : base + run < 2 ^ 32). omega arith) (λ (l : 2 ^ 32 ≤ base + run). omega arith) (below_or_not (base + run) (2 ^ 32))

-- a sum on the counter, or a difference
pub due_between : (last ticks start : ℕ) → last < 2 ^ 32 → ticks < 2 ^ 32 → start < 2 ^ 32 → (start ≡ (last + ticks) % 2 ^ 32) ↔ (ticks_between last start ≡ ticks)
due_between last ticks start l k s = (
  λ is. between_is last ticks start l k (sym is),
  λ is. ⊎_elim (λ (b : last + ticks < 2 ^ 32). omega arith) (λ (b : 2 ^ 32 ≤ last + ticks). omega arith) (below_or_not (last + ticks) (2 ^ 32)),
)

-- ticks pass
later_run : (base run clock x : ℕ) → (base + run) % 2 ^ 32 ≡ clock → (base + (run + x)) % 2 ^ 32 ≡ ticks_later clock x
later_run base run clock x e = omega arith

-- a base moves up, and what has run since falls by as much
moved_base : (base run clock top x : ℕ) → top ≤ run → (base + run) % 2 ^ 32 ≡ clock → (ticks_later base top + (run - top + x)) % 2 ^ 32 ≡ ticks_later clock x
moved_base base run clock top x l e =
    let all : base + top + (run - top + x) ≡ base + run + x = omega arith in
    mod-add-mod (base + top) (2 ^ 32) (run - top + x) ∙ ap (λ (y : ℕ). y % 2 ^ 32) all ∙ sym (mod-add-mod (base + run) (2 ^ 32) x) ∙ ap (λ (y : ℕ). (y + x) % 2 ^ 32) e

-- ---- what stands for what

pub record Stands (counter : ℕ) (r : Ring) (s : Inspection) : Type 0 where
  pub token : s.course.token ≡ r.token
  pub clock : s.course.clock ≡ (tau r.set + r.clock) % 2 ^ 32
  pub long : length s.base ≡ 128
  pub small : (i : ℕ) → i < count r → at s.base i < 2 ^ 32
  pub base : (i : ℕ) → i < count r → (at s.base i + run_of r i) % 2 ^ 32 ≡ s.course.clock
  pub sent : s.sent ≡ r.sent
  pub unused : ¬ Fddi r.set → s.course.unused ≡ r.unused
  -- the marks
  pub wide : length s.mark ≡ 128
  pub marks : (i : ℕ) → i < count r → ltb 0 (at s.mark i) ≡ is_marked r i
  pub rule : s.rule ≡ 0
  -- the visit before led to this start; its own and what it took are 32-bit numbers
  pub first : s.course.first ≡ eqb r.visits 0
  pub last : s.course.start < 2 ^ 32
  pub span : s.course.span < 2 ^ 32
  pub due : 0 < r.visits → ticks_later s.course.start s.course.span ≡ (counter + r.clock) % 2 ^ 32

module _ (r : Ring) (K : Reached r) where
  -- no timer has run as long as the counter goes round
  pub run_small : (i : ℕ) → i < count r → run_of r i < 2 ^ 32
  run_small i l =
      ⊎_elim (λ (e : Fddi r.set).
      omega (arith, run_fddi r e i, lapped-small r.set r.alloc (timing r) K.visits (plan r K) (K.goes.fddi e) i l, (plan r K).token, (plan r K).rotation.1))
      (λ (n : ¬ Fddi r.set).
      let T = K.goes.timely n in
      omega (arith, run_timely r n i, never_late r.set r.alloc (timing r) K.visits T i l, T.course.sents i l, (plan r K).rotation.1))
      (fddi_or_not r.set)

  module _ (counter : ℕ) (s : Inspection) (S : Stands counter r s) where
    pub place_is : place s ≡ r.token
    place_is = omega (arith, S.token, K.goes.course.token, (plan r K).few)

    pub run_is : ticks_between (at s.base (place s)) s.course.clock ≡ run_of r r.token
    run_is =
        rw place_is
        (between_is (at s.base r.token) (run_of r r.token) s.course.clock (S.small r.token K.goes.course.token) (run_small r.token K.goes.course.token) (S.base r.token K.goes.course.token))

    -- what the timers offer
    offer_is : limit_with r.set.head s.course.unused (ticks_between (at s.base (place s)) s.course.clock) ≡ timers_offer r
    unfolding limit_with
    offer_is =
        rw run_is
        (⊎_elim (λ (e : Fddi r.set). rw (fddi_true r.set e, run_fddi r e r.token) (sym (offer_lapped r K e)))
        (λ (n : ¬ Fddi r.set). rw (fddi_false r.set n, run_timely r n r.token, S.unused n) (sym (offer_timely r n)))
        (fddi_or_not r.set))

    -- what is allowed unless the station is marked
    allowed_is : (x y : ℕ) → x ≡ y → unless_marked (at s.mark (place s)) x ≡ cond (is_marked r r.token) 0 y
    unfolding unless_marked
    allowed_is x y e = rw (place_is, S.marks r.token K.goes.course.token, e) refl

    pub limit_is : unless_marked (at s.mark (place s)) (limit_with r.set.head s.course.unused (ticks_between (at s.base (place s)) s.course.clock)) ≡ limit r
    unfolding limit
    limit_is = allowed_is _ _ offer_is

    pub most_is : unless_marked (at s.mark (place s)) (at r.alloc.s (place s)) ≡ most_sent r
    unfolding most_sent
    most_is = allowed_is _ _ (ap (at r.alloc.s) place_is)

    clock_small : s.course.clock < 2 ^ 32
    clock_small = omega (arith, S.clock)

    -- ---- one visit more

    module _ (v : VisitEntry) (C : CouldVisit counter r v) where
      abbrev after : Ring
      after = moved r v.synchronous v.asynchronous

      abbrev ticks : ℕ
      ticks = rise r v.synchronous v.asynchronous

      -- what is sent before the synchronous part
      abbrev ahead : ℕ
      ahead = lead r.set v.asynchronous

      -- where the clock stands when the timer of the token's station is at 0
      abbrev moment : ℕ
      moment = base_with r.set.head s.course.clock (at s.base r.token) ahead

      N : Reached (moved r v.synchronous v.asynchronous)
      N = reached_next counter r K v C

      span_is : span_with v.synchronous v.asynchronous (at r.set.w (place s)) ≡ ticks
      span_is = rw place_is (omega (arith, passes_short counter r K v C))

      -- ---- the timers

      run_there : (i : ℕ) → i < count r → i ≢ r.token → run_of after i ≡ run_of r i + ticks
      unfolding moved
      run_there i l d =
          ⊎_elim (λ (f : Fddi r.set). rw (run_fddi r f i) (run_fddi after f i ∙ lapped_there counter r K v C f i l d))
          (λ (n : ¬ Fddi r.set). rw (run_timely r n i) (run_timely after n i ∙ early_there counter r K v C n i l d))
          (fddi_or_not r.set)

      base_there : (i : ℕ) → i < count r → i ≢ r.token → at (visited_on s r.set r.alloc v).base i ≡ at s.base i
      unfolding visited_on
      base_there i l d = get_or-set_other s.base (place s) i _ 0 (λ q. d (q ∙ place_is))

      base_here : at (visited_on s r.set r.alloc v).base r.token ≡ moment
      unfolding visited_on
      base_here = rw place_is (get_or-set_same s.base r.token _ 0 (omega (arith, S.long, K.goes.course.token, (plan r K).few)))

      -- the token's station: its timer is at 0 when the synchronous part starts, or has lost TTRT
      based : (moment + run_of after r.token) % 2 ^ 32 ≡ ticks_later s.course.clock ticks
      unfolding moved base_with
      based =
          let p = r.token in
          let was = S.base p K.goes.course.token in
          ⊎_elim (λ (f : Fddi r.set).
          let run = run_fddi r f p in
          let goes : run_of after p ≡ run_of r p - ttrt r + ticks = run_fddi after f p ∙ lapped_here counter r K v C f ∙ ap (λ (x : ℕ). x - ttrt r + ticks) (sym run) in
          let told : ticks_between (at s.base p) s.course.clock ≡ run_of r p = between_is (at s.base p) (run_of r p) s.course.clock (S.small p K.goes.course.token) (run_small p K.goes.course.token) was in
          rw (fddi_true r.set f, told)
          (⊎_elim (λ (l : run_of r p < ttrt r). rw (lt-leb (ttrt r) (run_of r p) l) (omega (arith, goes)))
          (λ (l : ttrt r ≤ run_of r p). rw (le-leb (ttrt r) (run_of r p) l, goes) (moved_base (at s.base p) (run_of r p) s.course.clock (ttrt r) ticks l was))
          (below_or_not (run_of r p) (ttrt r))))
          (λ (n : ¬ Fddi r.set).
          let goes : run_of after p ≡ ticks - ahead = run_timely after n p ∙ early_here counter r K v C n in
          let all : s.course.clock + ahead + (ticks - ahead) ≡ s.course.clock + ticks = omega (arith, lead_within r.set v.asynchronous) in
          rw (fddi_false r.set n, goes) (mod-add-mod (s.course.clock + ahead) (2 ^ 32) (ticks - ahead) ∙ ap (λ (x : ℕ). x % 2 ^ 32) all))
          (fddi_or_not r.set)

      based_small : moment < 2 ^ 32
      unfolding base_with
      based_small =
          let p = r.token in
          ⊎_elim (λ (f : Fddi r.set).
          rw (fddi_true r.set f)
          (⊎_elim (λ (l : ticks_between (at s.base p) s.course.clock < ttrt r). rw (lt-leb (ttrt r) (ticks_between (at s.base p) s.course.clock) l) clock_small)
          (λ (l : ttrt r ≤ ticks_between (at s.base p) s.course.clock). rw (le-leb (ttrt r) (ticks_between (at s.base p) s.course.clock) l) (omega arith))
          (below_or_not (ticks_between (at s.base p) s.course.clock) (ttrt r))))
          (λ (n : ¬ Fddi r.set). rw (fddi_false r.set n) (omega arith))
          (fddi_or_not r.set)

      clock_next : (visited_on s r.set r.alloc v).course.clock ≡ ticks_later s.course.clock ticks
      unfolding visited_on
      clock_next = rw span_is

      base_next : (i : ℕ) → i < count r → (at (visited_on s r.set r.alloc v).base i + run_of after i) % 2 ^ 32 ≡ (visited_on s r.set r.alloc v).course.clock
      base_next i l =
          ⊎_elim (λ (q : i ≡ r.token). rw (q, base_here) (based ∙ sym clock_next))
          (λ (d : i ≢ r.token). rw (base_there i l d, run_there i l d) (later_run (at s.base i) (run_of r i) s.course.clock ticks (S.base i l) ∙ sym clock_next))
          (same_or_not i r.token)

      small_next : (i : ℕ) → i < count r → at (visited_on s r.set r.alloc v).base i < 2 ^ 32
      small_next i l =
          ⊎_elim (λ (q : i ≡ r.token). rw (q, base_here) based_small) (λ (d : i ≢ r.token). rw (base_there i l d) (S.small i l)) (same_or_not i r.token)

      -- ---- u

      unused_small : ¬ Fddi r.set → after.unused < 2 ^ 32
      unfolding moved
      unused_small n =
          let T = N.goes.timely n in
          omega (arith, T.unused, (plan r K).token, (plan r K).rotation.1)

      unused_next : ¬ Fddi r.set → (visited_on s r.set r.alloc v).course.unused ≡ after.unused
      unfolding visited_on
      unused_next n =
          let is = early_unused counter r K v C n in
          let small = unused_small n in
          rw (place_is, S.unused n, S.sent, is) (mod-eq_of_lt (rw is at small))

      pub stands_next : Stands counter after (visited_on s r.set r.alloc v)
      unfolding moved visited_on
      stands_next =
          record {
            token = rw place_is;
            clock = clock_next ∙ omega (arith, S.clock);
            long = length-set s.base (place s) _ ∙ S.long;
            small = small_next;
            base = base_next;
            sent = rw (place_is, S.sent) refl;
            unused = unused_next;
            wide = S.wide;
            marks = S.marks;
            rule = S.rule;
            first = sym (ne_eqb (r.visits + 1) 0 (λ z. omega arith));
            last = omega (arith, C.start);
            span = omega arith;
            due = λ _. rw span_is (omega (arith, C.start));
          }

      -- and what it took is kept
      pub span_next : (visited_on s r.set r.alloc v).course.span ≡ ticks
      unfolding visited_on
      span_next = span_is

    -- ---- one mark more

    module _ (m : MarkEntry) (M : MarkRule r m) where
      mark_place : place_of m.station ≡ m.station
      mark_place = omega (arith, M.0, (plan r K).few)

      mark_here : at (switched_on s m).mark m.station ≡ mark_of m.mark
      unfolding switched_on
      mark_here = rw mark_place (get_or-set_same s.mark m.station _ 0 (omega (arith, S.wide, M.0, (plan r K).few)))

      mark_there : (i : ℕ) → i ≢ m.station → at (switched_on s m).mark i ≡ at s.mark i
      unfolding switched_on
      mark_there i d = get_or-set_other s.mark (place_of m.station) i _ 0 (λ q. d (q ∙ mark_place))

      mark_off : m.mark ≡ 0 → mark_of m.mark ≡ 0
      unfolding mark_of
      mark_off z = rw (eq-eqb m.mark 0 z)

      mark_on : (k : ℕ) → m.mark ≡ suc k → mark_of m.mark ≡ 1
      unfolding mark_of
      mark_on k e = rw (ne_eqb m.mark 0 (λ z. omega (arith, e, z)))

      -- the same mark is stored in the ring
      stored : (x : ℕ) → ltb 0 (mark_of m.mark) ≡ ltb 0 x → (j : ℕ) → j < count r → ltb 0 (at (switched_on s m).mark j) ≡ ltb 0 (at (set r.mark m.station x) j)
      stored x is j l =
          ⊎_elim (λ (q : j ≡ m.station). rw (q, mark_here, get_or-set_same r.mark m.station x 0 (omega (arith, K.goes.shaped.mark, M.0, (plan r K).few))) is)
          (λ (d : j ≢ m.station). rw (mark_there j d, get_or-set_other r.mark m.station j x 0 d) (S.marks j l))
          (same_or_not j m.station)

      -- or it stands there already
      already : Marked r m.station → mark_of m.mark ≡ 1 → (j : ℕ) → j < count r → ltb 0 (at (switched_on s m).mark j) ≡ is_marked r j
      already on is j l =
          ⊎_elim (λ (q : j ≡ m.station). rw (q, mark_here, is) (sym (marked_true r m.station on)))
          (λ (d : j ≢ m.station). rw (mark_there j d) (S.marks j l))
          (same_or_not j m.station)

      remarked : (q : Messages) → ((j : ℕ) → j < count r → ltb 0 (at (switched_on s m).mark j) ≡ ltb 0 (at q.mark j)) → Stands counter (with_messages q r) (switched_on s m)
      unfolding switched_on run_of
      remarked q same =
          record {
            token = S.token;
            clock = S.clock;
            long = S.long;
            small = S.small;
            base = S.base;
            sent = S.sent;
            unused = S.unused;
            wide = length-set s.mark _ _ ∙ S.wide;
            marks = same;
            rule = S.rule;
            first = S.first;
            last = S.last;
            span = S.span;
            due = S.due;
          }

      stands_with : (on : ℕ) → m.mark ≡ on → Stands counter (switched r m.station on) (switched_on s m)
      unfolding switched switched_in switched_through
      stands_with zero e = remarked _ (stored 0 (ap (ltb 0) (mark_off e)))
      stands_with (suc k) e =
          ⊎_elim (λ (on : Marked r m.station). rw (ring_marked r m.station on) (remarked (messages_of r) (already on (mark_on k e))))
          (λ (off : Unmarked r m.station). rw (ring_unmarked r m.station off) (remarked _ (stored 1 (ap (ltb 0) (mark_on k e)))))
          (marked_or_not r m.station)

      pub stands_switched : Stands counter (switched r m.station m.mark) (switched_on s m)
      stands_switched = stands_with m.mark refl

-- the counter of a recorder that has written nothing yet may show anything
pub recounted : (counter other : ℕ) (r : Ring) (s : Inspection) → Stands counter r s → r.visits ≡ 0 → Stands other r s
recounted counter other r s S none =
    record {
      token = S.token;
      clock = S.clock;
      long = S.long;
      small = S.small;
      base = S.base;
      sent = S.sent;
      unused = S.unused;
      wide = S.wide;
      marks = S.marks;
      rule = S.rule;
      first = S.first;
      last = S.last;
      span = S.span;
      due = λ some. absurd (omega arith);
    }

-- ---- the opened ring

module _ (t : Set) (a : Alloc) (h : judged_plan t a ≡ 0) where
  P : Plan t a
  P = plan_of_lem t a h

  silent_run : (i : ℕ) → i < t.n → sum_below i (at t.w) + run_of (opened_ring t a) i ≡ tau t
  unfolding opened_ring
  silent_run i l =
      let split = sum_split t.n (at t.w) i (omega arith) in
      ⊎_elim (λ (e : Fddi t). omega (arith, run_fddi (opened_ring t a) e i, opened_ran t a h e i l))
      (λ (n : ¬ Fddi t). omega (arith, run_timely (opened_ring t a) n i, (fresh t a h).trts n i l))
      (fddi_or_not t)

  passing : (i : ℕ) → i < t.n → at (begun t a).base i ≡ sum_below i (at t.w) % 2 ^ 32
  unfolding begun passing_times
  passing i l = fill_inside t.n (λ j. sum_below j (at t.w) % 2 ^ 32) zeros i l P.few

  pub stands_opened : (counter : ℕ) → Stands counter (opened_ring t a) (begun t a)
  unfolding opened_ring begun passing_times
  stands_opened counter =
      record {
        token = refl;
        clock = omega arith;
        long = fill_length t.n (λ i. sum_below i (at t.w) % 2 ^ 32) zeros;
        small = λ i l. omega (arith, passing i l);
        base = λ i l. rw (passing i l) (mod-add-mod (sum_below i (at t.w)) (2 ^ 32) (run_of (opened_ring t a) i) ∙ ap (λ (x : ℕ). x % 2 ^ 32) (silent_run i l));
        sent = refl;
        unused = λ n. rw (fresh t a h).unused (mod-eq_of_lt (omega (arith, P.token, P.rotation.1)));
        wide = refl;
        marks = λ i l. refl;
        rule = refl;
        first = refl;
        last = omega arith;
        span = omega arith;
        due = λ some. absurd (omega arith);
      }
