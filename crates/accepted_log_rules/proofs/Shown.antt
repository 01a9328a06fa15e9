-- All that an accepted log shows: a log is cut at its visits, the ring behind each part keeps what a run's ring keeps, and its clock is the moment.
use Prim.Native.Nat.{ℕ, ◌+◌, ◌*◌, ◌%◌, ◌^◌, ◌≤◌, ◌<◌}
use mathlib.Core.Path.{◌≡◌, refl, ap, subst, ◌∙◌}
use mathlib.Core.List.{List, [], ◌∷◌, ◌++◌}
use mathlib.Core.Logic.{⊎_elim}
use mathlib.Core.Option.{none, some}
use native.Mathlib.Omega.{arith}
use Rattle.units.specs.Places.{at}
use Rattle.units.proofs.SmallLaws.{one_more_lem}
use Rattle.sets.specs.declared.Set.{Set}
use Rattle.plans.specs.Rules.{spare_time}
use Rattle.plans.specs.Planned.{judged_plan}
use Rattle.plans.proofs.PlanLaws.{spare_timely}
use Rattle.plans.specs.declared.Alloc.{Alloc}
use Rattle.log_records.specs.declared.VisitEntry.{VisitEntry}
use Rattle.log_records.specs.declared.Entry.{Entry}
use Rattle.log_records.specs.declared.Entry.TheVariants.{Visit}
use Rattle.rings.specs.Timers.{Fddi, silent_trt}
use Rattle.rings.proofs.TimerLaws.{fddi_or_not, fddi_true, fddi_false}
use Rattle.rings.specs.Opening.{opened_ring}
use Rattle.rings.specs.Steps.{record_of}
use Rattle.rings.specs.declared.Ring.{Ring}
use Rattle.rings.specs.declared.VisitRecord.{VisitRecord}
use Rattle.promises.specs.History.{overrun_of, latest, latest_of}
use Rattle.promises.specs.Facts.{timing, VisitCourse}
use Rattle.promises.specs.Valid.{all_shares}
use Rattle.promises.proofs.Windows.{async_none, async_grows}
use Rattle.promises.proofs.Course.{Plan}
use Rattle.promises.proofs.Timing.{never_late, latest_within}
use Rattle.promises.proofs.Laps as laps
use Rattle.promises.proofs.Opening.{plan_of_lem}
use Rattle.inspection.specs.Counter.{ticks_between}
use Rattle.inspection_rules.specs.Gives.{CouldVisit, ring_with, ring_after, GivesFrom, Gives}
use Rattle.inspection_rules.specs.Broken.{mark_after}
use Rattle.inspection_rules.proofs.Reaching.{made, goes_opened}
use Rattle.inspection_rules.proofs.Following.{ring_join, gives_split}
use Rattle.inspection_rules.proofs.Standing.{between_is}
use Rattle.inspection_rules.proofs.Promised as inspections
use Rattle.accepted_log_rules.specs.Shows.{moment, visits_in, visits_of, async_in, sync_began, sync_ended, longest_gap, Later, Shows}
use Rattle.accepted_log_rules.proofs.Told.{told_with, told, GoesBy, course, turns, timed, lapped, facts, goes_with, goes_on}
use Rattle.accepted_log_rules.proofs.Reading.{moment_join, clock_after_lem, latest_own, latest_after, async_after, Ended, begins_by, ended_after}

-- ---- the longest wait, by the mode

gap_fddi : (t : Set) (a : Alloc) → Fddi t → longest_gap t a ≡ t.head.ttrt + all_shares t a + overrun_of t
unfolding longest_gap
gap_fddi t a f = rw (fddi_true t f)

gap_timely : (t : Set) (a : Alloc) → ¬ Fddi t → longest_gap t a ≡ t.head.ttrt
unfolding longest_gap
gap_timely t a n = rw (fddi_false t n)

module _ (t : Set) (a : Alloc) (judged : judged_plan t a ≡ 0) where
  P : Plan t a
  P = plan_of_lem t a judged

  -- it is far below the counter's top
  gap_small : longest_gap t a < 2 ^ 32
  gap_small = ⊎_elim (λ f. omega (arith, gap_fddi t a f, P.token, P.rotation.1)) (λ n. omega (arith, gap_timely t a n, P.rotation.1)) (fddi_or_not t)

  -- ---- a ring that records lead to: no station has waited longer

  module _ (r : Ring) (h : List VisitRecord) (G : GoesBy t a r h) (i : ℕ) (known : i < t.n) where
    waits : (u : VisitRecord) → latest_of i h ≡ some u → r.clock ≤ u.start.0 + longest_gap t a
    waits u e =
        ⊎_elim (λ f. rw (gap_fddi t a f) (laps.latest_within t a (timing r) h P (lapped t a r h G f) i known u e))
        (λ n. rw (gap_timely t a n) (latest_within t a (timing r) h (timed t a r h G n) (turns t a r h G) i known u e))
        (fddi_or_not t)

    waits_first : latest_of i h ≡ none → silent_trt t i + r.clock ≤ longest_gap t a
    waits_first e =
        ⊎_elim (λ f. rw (gap_fddi t a f) (laps.first_within t a (timing r) h P (lapped t a r h G f) i known e))
        (λ n.
        let T = timed t a r h G n in
        omega (arith, gap_timely t a n, T.silent i known e, never_late t a (timing r) h T i known, T.course.sents i known))
        (fddi_or_not t)

  -- ---- from the opening on

  module _ (counter : ℕ) where
    abbrev opened : Ring
    opened = opened_ring t a

    abbrev now : List Entry → Ring
    now es = ring_after opened es

    abbrev visits : List Entry → List VisitRecord
    visits es = told opened es []

    goes : (es : List Entry) → GivesFrom counter opened es → GoesBy t a (now es) (visits es)
    unfolding opened_ring
    goes es g = goes_on t a counter opened [] es (record { own = goes_opened t a judged; set = refl; alloc = refl }) g

    -- the clock is the moment
    clock_is : (es : List Entry) → GivesFrom counter opened es → (now es).clock ≡ moment t es
    unfolding opened_ring
    clock_is es g = omega (arith, clock_after_lem t counter opened es refl g)

    -- a station that has no visit among them is still waiting for its first
    none_yet : (es : List Entry) → GivesFrom counter opened es → (i : ℕ) → visits_of i es ≡ 0 → latest_of i (visits es) ≡ none
    unfolding latest
    none_yet es g i z = latest_after i counter opened [] es g z

    first_by : (es : List Entry) → GivesFrom counter opened es → (i : ℕ) → i < t.n → visits_of i es ≡ 0 → silent_trt t i + moment t es ≤ longest_gap t a
    first_by es g i l z = omega (arith, waits_first (now es) (visits es) (goes es g) i l (none_yet es g i z), clock_is es g)

    -- ---- a visit behind some records

    module _ (before : List Entry) (g : GivesFrom counter opened before) (v : VisitEntry) (C : CouldVisit counter (now before) v) where
      its_facts : VisitCourse t a (timing (now before)) (timing (ring_with (now before) (Visit v))) (made (now before) v)
      its_facts = facts t a (now before) (visits before) (goes before g) counter v C

      station_known_lem : v.station < t.n
      station_known_lem = rw C.station (course t a (now before) (visits before) (goes before g)).token

      share_kept : v.synchronous ≤ at a.s v.station
      unfolding record_of
      share_kept = rw C.station its_facts.within

      walked_through : 0 < mark_after v.station before → (v.limit ≡ 0) × ((v.synchronous ≡ 0) × (v.asynchronous ≡ 0))
      walked_through on = (inspections.promised).through t a before counter v judged (counter, g) (rw C.station at on) C

      -- ---- and records behind that visit

      module _ (behind : List Entry) (k : GivesFrom counter (ring_with (now before) (Visit v)) behind) where
        abbrev later : Ring
        later = ring_after (ring_with (now before) (Visit v)) behind

        abbrev since_then : List VisitRecord
        since_then = told (ring_with (now before) (Visit v)) behind (made (now before) v ∷ visits before)

        goes_next : GoesBy t a (ring_with (now before) (Visit v)) (made (now before) v ∷ visits before)
        unfolding told_with
        goes_next = goes_with t a counter (now before) (visits before) (Visit v) (goes before g) C

        goes_later : GoesBy t a later since_then
        goes_later = goes_on t a counter (ring_with (now before) (Visit v)) (made (now before) v ∷ visits before) behind goes_next k

        clock_later : later.clock ≡ moment t (before ++ Visit v ∷ behind)
        unfolding ring_after
        clock_later =
            omega (arith, clock_after_lem t counter (now before) (Visit v ∷ behind) (goes before g).set (C, k), clock_is before g, moment_join t before (Visit v ∷ behind))

        -- its station has not waited longer since
        waits_since : visits_of v.station behind ≡ 0 → moment t (before ++ Visit v ∷ behind) ≤ moment t before + longest_gap t a
        unfolding record_of
        waits_since z =
            let latest = latest_after v.station counter (ring_with (now before) (Visit v)) (made (now before) v ∷ visits before) behind k z ∙ latest_own v.station counter (now before) (visits before) v C refl in
            omega (arith, waits later since_then goes_later v.station station_known_lem (made (now before) v) latest, clock_later, clock_is before g)

        -- the station's synchronous part ended, and its further ones each by TTRT later
        ended : ¬ Fddi t → Ended t v.station later since_then (sync_ended t before v + visits_of v.station behind * t.head.ttrt)
        unfolding record_of
        ended n =
            ended_after t a P n counter v.station station_known_lem (ring_with (now before) (Visit v)) (made (now before) v ∷ visits before) behind (sync_ended t before v) goes_next k
            (record {
              latest = made (now before) v;
              is = latest_own v.station counter (now before) (visits before) v C refl;
              sent = rw C.station its_facts.sent_here;
              ended = omega (arith, clock_is before g);
            })

        module _ (w : VisitEntry) (D : CouldVisit counter later w) where
          -- the counter has gone on with the clock
          starts_apart : visits_of v.station behind ≡ 0 → moment t (before ++ Visit v ∷ behind) ≡ moment t before + ticks_between v.start w.start
          starts_apart z =
              let ticks = moment t (Visit v ∷ behind) in
              let all = moment_join t before (Visit v ∷ behind) in
              let small : ticks < 2 ^ 32 = omega (arith, waits_since z, gap_small, all) in
              let was : v.start ≡ (counter + moment t before) % 2 ^ 32 = C.start ∙ ap (λ (x : ℕ). (counter + x) % 2 ^ 32) (clock_is before g) in
              let is : w.start ≡ (counter + (moment t before + ticks)) % 2 ^ 32 = D.start ∙ ap (λ (x : ℕ). (counter + x) % 2 ^ 32) (clock_later ∙ all) in
              let goes-round : (v.start + ticks) % 2 ^ 32 ≡ w.start = omega (arith, was, is) in
              omega (arith, all, between_is v.start ticks w.start (omega (arith, was)) small goes-round)

          begins : ¬ Fddi t → w.station ≡ v.station
              → sync_began t (before ++ Visit v ∷ behind) w + at a.s v.station ≤ sync_ended t before v + (visits_of v.station behind + 1) * t.head.ttrt
          unfolding record_of
          begins n e =
              let by = sync_ended t before v + visits_of v.station behind * t.head.ttrt in
              omega (arith, begins_by t a P n counter v.station station_known_lem later since_then goes_later w D e by (ended n), clock_later, one_more_lem (visits_of v.station behind) t.head.ttrt)

    -- ---- some records among others

    window_kept : ¬ Fddi t → (before during : List Entry) → GivesFrom counter opened before → GivesFrom counter (now before) during → visits_in during ≤ t.n
        → async_in during ≤ spare_time t (at a.s) + overrun_of t
    window_kept n before during g k few =
        let r = now before in
        let h = told r during (visits before) in
        let T = timed t a (ring_after r during) h (goes_on t a counter r (visits before) during (goes before g) k) n in
        let most = async_grows (0 + visits_in during) t.n h (omega arith) in
        omega (arith, async_after 0 r (visits before) during, async_none (visits before), most, T.window, spare_timely t (at a.s) (fddi_false t n), P.token)

  -- ---- all of it

  module _ (es : List Entry) (g : Gives t a es) where
    cut : (before behind : List Entry) → es ≡ before ++ behind → GivesFrom g.0 (opened_ring t a) before × GivesFrom g.0 (ring_after (opened_ring t a) before) behind
    cut before behind e = gives_split g.0 (opened_ring t a) before behind (subst (GivesFrom g.0 (opened_ring t a)) e g.1)

    -- a visit behind a visit, with records between them
    module _ (before between : List Entry) (u v : VisitEntry) (L : Later es before u between v) where
      outer : GivesFrom g.0 (opened_ring t a) (before ++ Visit u ∷ between) × GivesFrom g.0 (ring_after (opened_ring t a) (before ++ Visit u ∷ between)) (Visit v ∷ L.place.0)
      outer = cut (before ++ Visit u ∷ between) (Visit v ∷ L.place.0) L.place.1

      inner : GivesFrom g.0 (opened_ring t a) before × GivesFrom g.0 (ring_after (opened_ring t a) before) (Visit u ∷ between)
      inner = gives_split g.0 (opened_ring t a) before (Visit u ∷ between) outer.0

      could : CouldVisit g.0 (ring_after (ring_with (ring_after (opened_ring t a) before) (Visit u)) between) v
      unfolding ring_after
      could = subst (λ (q : Ring). CouldVisit g.0 q v) (ring_join (opened_ring t a) before (Visit u ∷ between)) outer.1.0

    pub shows : Shows t a es
    shows =
        record {
          apart = λ before between u v N.
              let k = inner before between u v N.later in
              waits_since g.0 before k.0 u k.1.0 between k.1.1 N.none_between;
          starts = λ before between u v N.
              let k = inner before between u v N.later in
              starts_apart g.0 before k.0 u k.1.0 between k.1.1 v (could before between u v N.later) N.none_between;
          first = λ before v B z.
              let k = cut before (Visit v ∷ B.0) B.1 in
              first_by g.0 before k.0 v.station (station_known_lem g.0 before k.0 v k.1.0) z;
          since = λ before behind u e z.
              let k = cut before (Visit u ∷ behind) e in
              rw e (waits_since g.0 before k.0 u k.1.0 behind k.1.1 z);
          since_first = first_by g.0 es g.1;
          known = λ before v B.
              let k = cut before (Visit v ∷ B.0) B.1 in
              station_known_lem g.0 before k.0 v k.1.0;
          share = λ before v B.
              let k = cut before (Visit v ∷ B.0) B.1 in
              share_kept g.0 before k.0 v k.1.0;
          through = λ before v B.
              let k = cut before (Visit v ∷ B.0) B.1 in
              walked_through g.0 before k.0 v k.1.0;
          window = λ n before during behind e.
              let k = gives_split g.0 (opened_ring t a) before during (cut (before ++ during) behind e).0 in
              window_kept g.0 n before during k.0 k.1;
          synchronous = λ n before between u v L.
              let k = inner before between u v L in
              begins g.0 before k.0 u k.1.0 between k.1.1 v (could before between u v L) n L.station;
        }
