-- The records of a run of the model could be given: an accepted visit is a visit of the published steps, an accepted marking or unmarking a mark, and a handing in changes nothing that they look at.
use Prim.Native.Nat.{ℕ, zero, suc, ◌+◌, ◌%◌, ◌^◌, ◌<◌}
use mathlib.Core.Path.{◌≡◌, refl, sym, ap, subst, ◌∙◌}
use mathlib.Core.Bool.{true}
use mathlib.Core.List.{List, [], ◌∷◌, ◌++◌, map, map-append, reverse, reverse-cons}
use mathlib.Core.Logic.{◌≢◌, ⊎_elim, ◌↔◌}
use native.Mathlib.Omega.{arith}
use lib.ListN.{length, length-map, length-reverse}
use Rattle.units.specs.Places.{at}
use Rattle.units.specs.declared.Station.{Station}
use Rattle.sets.specs.declared.Set.{Set}
use Rattle.plans.specs.Planned.{judged_plan}
use Rattle.plans.specs.declared.Alloc.{Alloc}
use Rattle.log_records.specs.declared.VisitEntry.{VisitEntry}
use Rattle.log_records.specs.declared.Entry.{Entry}
use Rattle.log_records.specs.declared.Entry.TheVariants.{Visit, Mark}
use Rattle.sets.specs.Judged.{zeros}
use Rattle.rings.specs.State.{count, Marked, Unmarked, with_messages}
use Rattle.rings.specs.Timers.{timers_offer, limit, timers_after, timely_after}
use Rattle.rings.proofs.TimerLaws.{marked_or_not}
use Rattle.rings.specs.Opening.{opened_ring}
use Rattle.rings.specs.Sound.{Sound}
use Rattle.rings.specs.Steps.{Ask, sync_sent, async_sent, most_sent, moved, record_of, blank_record, visit_number}
use Rattle.rings.specs.HandingIn.{holding, hand_in_number}
use Rattle.rings.specs.Marking.{switched_through, marked_ring, marked, switched_in, unmarked}
use Rattle.rings.proofs.MarkLaws.{ring_marked, ring_unmarked, marked_accepted, unmarked_accepted}
use Rattle.rings.proofs.RingLaws.{sync_most, visit_passed, taken_passed, taken_accepted, taken_refused}
use Rattle.rings.specs.declared.Ring.{Ring}
use Rattle.rings.specs.declared.Message.{Message}
use Rattle.rings.specs.declared.Taken.{Taken}
use Rattle.rings.specs.declared.MarkedRing.{MarkedRing}
use Rattle.ring_rules.proofs.NumberLaws.{marked_number, unmarked_number}
use Rattle.ring_rules.proofs.Promised.{promised as rings-promised}
use Rattle.promises.specs.Facts.{Timing}
use Rattle.promises.specs.Run.{Call, visit, message, mark, unmark, a_visit as ofVisit, a_message, Run, noted, after, run, opened, run_of, events_of}
use Rattle.logs.specs.Writing.{visit_of}
use Rattle.log_rules.specs.Recorded.{Told, tells, says, told_in, entries_of}
use Rattle.log_rules.proofs.CounterLaws.{counter_clock}
use Rattle.log_rules.proofs.RunLaws.{Small, entry_says}
use Rattle.promises.proofs.Course.{same_or_not}
use Rattle.promises.proofs.Runs.{visit_goes, visit_stops, not_noted, marked_run, unmarked_run, after_mark, after_unmark}
use Rattle.inspection.specs.Frames.{frames_fit}
use Rattle.inspection_rules.specs.Gives.{CouldVisit, switched, ring_with, ring_after, GivesFrom}
use Rattle.inspection_rules.specs.Model.{WrittenVisit}
use Rattle.inspection_rules.proofs.Reaching.{Reached, plan, limit_small, passes_short}
use Rattle.inspection_rules.proofs.Judging.{sent_fits, asked_decides}
use Rattle.inspection_rules.proofs.Following.{ring_one, gives_join}
use Rattle.inspection_rules.proofs.Finding.{reaches}

-- the entries of what was told, the latest first
unfoldable entries_from : ℕ → List Told → List Entry
entries_from counter [] = []
entries_from counter (x ∷ before) = entries_from counter before ++ (says counter x ∷ [])

-- ---- a mark and the ring's own call

module _ (r : Ring) (p : Station) where
  pub marks_so : (marked r p).answer.number ≡ 0 → ring_with r (Mark (record { station = p.0; mark = 1 })) ≡ (marked r p).ring
  unfolding switched
  marks_so go = ap (λ (x : MarkedRing). x.ring) (sym (marked_accepted _ r p (sym (marked_number _ r p) ∙ go)))

  pub unmarks_so : (unmarked r p).number ≡ 0 → ring_with r (Mark (record { station = p.0; mark = 0 })) ≡ (unmarked r p).ring
  unfolding switched
  unmarks_so go = ap (λ (x : Taken). x.ring) (sym (unmarked_accepted _ r p (sym (unmarked_number _ r p) ∙ go)))

  mark_inside : (marked r p).answer.number ≡ 0 → p.0 < count r
  mark_inside go = ((rings-promised.mark_none r p).0 go).1

  unmark_inside : (unmarked r p).number ≡ 0 → p.0 < count r
  unmark_inside go = mark_inside (sym (rings-promised.unmark_number r p) ∙ go)

-- ---- the steps look at a ring without its messages

-- the ring without its messages: its timing and its marks
abbrev seen : Ring → Timing
seen r = with_messages (record { rest = zeros; arrival = zeros; had = zeros; mark = r.mark }) r

-- marks are set in what is seen
marked_seen : (q : Ring) (i : ℕ) → seen (marked_ring q i) ≡ seen (marked_ring (seen q) i)
unfolding switched_through
marked_seen q i =
    ⊎_elim (λ (on : Marked q i). ap seen (ring_marked q i on) ∙ sym (ap seen (ring_marked (seen q) i on)))
    (λ (off : Unmarked q i). ap seen (ring_unmarked q i off) ∙ sym (ap seen (ring_unmarked (seen q) i off)))
    (marked_or_not q i)

module _ (q r : Ring) (same : seen q ≡ seen r) where
  moved_same : (sync async : ℕ) → seen (moved q sync async) ≡ seen (moved r sync async)
  unfolding moved timers_after timely_after
  moved_same sync async = ap (λ (x : Timing). seen (moved x sync async)) same

  switched_same : (i on : ℕ) → seen (switched q i on) ≡ seen (switched r i on)
  unfolding switched switched_in
  switched_same i zero = ap (λ (x : Timing). seen (switched_in x i)) same
  switched_same i (suc k) = marked_seen q i ∙ ap (λ (x : Timing). seen (marked_ring x i)) same ∙ sym (marked_seen r i)

  limit_same : limit q ≡ limit r
  unfolding limit timers_offer
  limit_same = ap (λ (x : Timing). limit x) same

  most_same : most_sent q ≡ most_sent r
  unfolding most_sent
  most_same = ap (λ (x : Timing). most_sent x) same

  count_same : count q ≡ count r
  count_same = ap (λ (x : Timing). x.set.n) same

  -- an accepted visit could be that of a ring that is the same without its messages
  could_made : (counter : ℕ) (ask : Ask) → Reached r → visit_number q ask ≡ 0
      → CouldVisit counter r (tells counter (record_of q (sync_sent q (async_sent q ask)) (async_sent q ask)))
  unfolding record_of
  could_made counter ask K go =
      let named = (visit_passed q ask go).1.0 in
      let longest = ap (λ (x : Timing). x.set.head.frame) same in
      let fits = sent_fits (limit q) r.set.head.frame (async_sent q ask) ask named.0 (omega (arith, named.1)) refl in
      record {
        station = ap (λ (x : Timing). x.token) same;
        start = ap (λ (x : Timing). (counter + x.clock) % 2 ^ 32) same;
        offered = limit_same;
        synchronous = omega (arith, (sync_most q (async_sent q ask)).0, most_same);
        asynchronous = (asked_decides r K (async_sent q ask)).0 (subst (λ (l : ℕ). frames_fit l r.set.head.frame (async_sent q ask) ≡ true) limit_same fits);
      }

holding_same : (q : Ring) (m : Message) → seen (holding q m) ≡ seen q
unfolding holding
holding_same q m = refl

-- ---- a run

module _ (t : Set) (a : Alloc) (h : judged_plan t a ≡ 0) (counter : ℕ) where
  -- what was told of it so far could be given, and leads to a ring that is the same without its messages
  record Stood (s : Run) : Type 0 where
    given : GivesFrom counter (opened_ring t a) (entries_from counter (told_in s.events))
    same : seen s.ring ≡ seen (ring_after (opened_ring t a) (entries_from counter (told_in s.events)))

  module _ (s : Run) (T : Stood s) where
    abbrev es : List Entry
    es = entries_from counter (told_in s.events)

    stood_moved : (ask : Ask) → visit_number s.ring ask ≡ 0 → Stood (after s (visit ask))
    unfolding after noted entries_from record_of
    stood_moved ask go =
        let q = s.ring in
        let r = ring_after (opened_ring t a) es in
        let async = async_sent q ask in
        let sync = sync_sent q async in
        let e : Entry = Visit (tells counter (record_of q sync async)) in
        let C = could_made q r T.same counter ask (reaches t a h counter es T.given) go in
        rw (visit_goes q ask go)
        (record {
          given = gives_join counter (opened_ring t a) es (e ∷ []) T.given (C, tt);
          same = moved_same q r T.same sync async ∙ ap seen (sym (ring_one (opened_ring t a) es e));
        })

    stood_refused : (ask : Ask) → visit_number s.ring ask ≢ 0 → Stood (after s (visit ask))
    unfolding after
    stood_refused ask not =
        let none = not_noted (visit_number s.ring ask) (ofVisit (at s.ring.mark s.ring.token) blank_record) s.events not in
        rw (visit_stops s.ring ask not) (record { given = rw none T.given; same = rw none T.same })

    stood_held : (m : Message) → hand_in_number s.ring m ≡ 0 → Stood (after s (message m))
    unfolding after noted
    stood_held m go = rw (taken_accepted (hand_in_number s.ring m) s.ring m go) (record { given = T.given; same = holding_same s.ring m ∙ T.same })

    stood_kept : (m : Message) → hand_in_number s.ring m ≢ 0 → Stood (after s (message m))
    unfolding after
    stood_kept m not =
        let none = not_noted (hand_in_number s.ring m) (a_message m) s.events not in
        rw (taken_refused (hand_in_number s.ring m) s.ring m not) (record { given = rw none T.given; same = rw none T.same })

    stood_marked : (p : Station) → (marked s.ring p).answer.number ≡ 0 → Stood (marked_run s p)
    unfolding entries_from
    stood_marked p go =
        let q = s.ring in
        let r = ring_after (opened_ring t a) es in
        let e : Entry = Mark (record { station = p.0; mark = 1 }) in
        let inside : p.0 < count r = omega (arith, mark_inside q p go, count_same q r T.same) in
        record {
          given = gives_join counter (opened_ring t a) es (e ∷ []) T.given ((inside, omega arith), tt);
          same = ap seen (sym (marks_so q p go)) ∙ switched_same q r T.same p.0 1 ∙ ap seen (sym (ring_one (opened_ring t a) es e));
        }

    stood_unmarked : (p : Station) → (unmarked s.ring p).number ≡ 0 → Stood (unmarked_run s p)
    unfolding entries_from
    stood_unmarked p go =
        let q = s.ring in
        let r = ring_after (opened_ring t a) es in
        let e : Entry = Mark (record { station = p.0; mark = 0 }) in
        let inside : p.0 < count r = omega (arith, unmark_inside q p go, count_same q r T.same) in
        record {
          given = gives_join counter (opened_ring t a) es (e ∷ []) T.given ((inside, omega arith), tt);
          same = ap seen (sym (unmarks_so q p go)) ∙ switched_same q r T.same p.0 0 ∙ ap seen (sym (ring_one (opened_ring t a) es e));
        }

    stood_after : (c : Call) → Stood (after s c)
    stood_after (visit ask) = ⊎_elim (stood_moved ask) (stood_refused ask) (same_or_not (visit_number s.ring ask) 0)
    stood_after (message m) = ⊎_elim (stood_held m) (stood_kept m) (same_or_not (hand_in_number s.ring m) 0)
    stood_after (mark p) = ⊎_elim (λ w. subst Stood (sym w.1) (stood_marked p w.0)) (λ e. subst Stood (sym e) T) (after_mark s p)
    stood_after (unmark p) = ⊎_elim (λ w. subst Stood (sym w.1) (stood_unmarked p w.0)) (λ e. subst Stood (sym e) T) (after_unmark s p)

  stood_run : (s : Run) → Stood s → (calls : List Call) → Stood (run s calls)
  unfolding run
  stood_run s T [] = T
  stood_run s T (c ∷ cs) = stood_run (after s c) (stood_after s T c) cs

  stood : (calls : List Call) → Stood (run_of t a calls)
  unfolding entries_from ring_after
  stood calls = stood_run (opened t a) (record { given = tt; same = refl }) calls

-- ---- a plan that does not meet the rules: its ring is unsound, so every call is refused and nothing is told

module _ (t : Set) (a : Alloc) (n : judged_plan t a ≢ 0) where
  not_sound : (r : Ring) → r ≡ opened_ring t a → ¬ Sound r
  unfolding opened_ring
  not_sound r e s = n (subst (λ (x : Ring). judged_plan x.set x.alloc ≡ 0) e s.plan)

  call_refused : (s : Run) (c : Call) → s.ring ≡ opened_ring t a → ((after s c).ring ≡ s.ring) × ((after s c).events ≡ s.events)
  unfolding after
  call_refused s (visit ask) e =
      let not : visit_number s.ring ask ≢ 0 = λ go. not_sound s.ring e (visit_passed s.ring ask go).0 in
      rw (visit_stops s.ring ask not) (refl, not_noted (visit_number s.ring ask) (ofVisit (at s.ring.mark s.ring.token) blank_record) s.events not)
  call_refused s (message m) e =
      let not : hand_in_number s.ring m ≢ 0 = λ go. not_sound s.ring e (taken_passed s.ring m go).0 in
      rw (taken_refused (hand_in_number s.ring m) s.ring m not) (refl, not_noted (hand_in_number s.ring m) (a_message m) s.events not)
  call_refused s (mark p) e =
      ⊎_elim (λ w. absurd (not_sound s.ring e ((rings-promised.mark_none s.ring p).0 w.0).0))
      (λ same. (ap (λ (x : Run). x.ring) same, ap (λ (x : Run). x.events) same))
      (after_mark s p)
  call_refused s (unmark p) e =
      ⊎_elim (λ w. absurd (not_sound s.ring e ((rings-promised.mark_none s.ring p).0 (sym (rings-promised.unmark_number s.ring p) ∙ w.0)).0))
      (λ same. (ap (λ (x : Run). x.ring) same, ap (λ (x : Run). x.events) same))
      (after_unmark s p)

  all_refused : (s : Run) → s.ring ≡ opened_ring t a → (calls : List Call) → (run s calls).events ≡ s.events
  unfolding run
  all_refused s e [] = refl
  all_refused s e (c ∷ cs) = let same = call_refused s c e in all_refused (after s c) (same.0 ∙ e) cs ∙ same.1

  pub no_events : (calls : List Call) → events_of t a calls ≡ []
  no_events calls = all_refused (opened t a) refl calls

-- ---- in the order of a log

turned : (counter : ℕ) (xs : List Told) → entries_from counter xs ≡ map (says counter) (reverse xs)
unfolding entries_from
turned counter [] = refl
turned counter (x ∷ before) =
    ap (λ (es : List Entry). es ++ (says counter x ∷ [])) (turned counter before) ∙
    sym (map-append (says counter) (reverse before) (x ∷ [])) ∙ ap (map (says counter)) (sym (reverse-cons x before))

module _ (t : Set) (a : Alloc) (counter : ℕ) (calls : List Call) where
  pub model_gives : judged_plan t a ≡ 0 → GivesFrom counter (opened_ring t a) (entries_of counter t a calls)
  model_gives h = subst (GivesFrom counter (opened_ring t a)) (turned counter (told_in (events_of t a calls))) (stood t a h counter calls).given

  pub model_length : length (entries_of counter t a calls) ≡ length (told_in (events_of t a calls))
  model_length = length-map (reverse (told_in (events_of t a calls))) (says counter) ∙ length-reverse (told_in (events_of t a calls))

-- ---- what could be given is the record of a visit

module _ (counter : ℕ) (r : Ring) (K : Reached r) where
  -- no bit of it is lost
  written_whole : (sync async : ℕ) → CouldVisit counter r (tells counter (record_of r sync async)) → visit_of counter 0 (record_of r sync async) ≡ tells counter (record_of r sync async)
  unfolding record_of
  written_whole sync async C =
      let v = record_of r sync async in
      let short = passes_short counter r K (tells counter v) C in
      let small : Small v =
      record {
        station = omega (arith, K.goes.course.token, (plan r K).few);
        limit = omega (arith, limit_small r K, (plan r K).rotation.1);
        synchronous = omega arith;
        asynchronous = omega arith;
      } in
      entry_says v small counter 0 ∙ rw (counter_clock counter r.clock) refl

  pub could_written : (v : VisitEntry) → CouldVisit counter r v ↔ WrittenVisit counter r v
  unfolding record_of
  could_written v = (
    λ C.
        let A = C.asynchronous in
        let async = async_sent r A.ask in
        let says : v ≡ tells counter (record_of r v.synchronous async) =
        λ i. record { station = C.station i; start = C.start i; limit = C.offered i; synchronous = v.synchronous; asynchronous = A.sent i } in
        record {
          sync = v.synchronous;
          within = C.synchronous;
          ask = A.ask;
          frames = A.frames;
          named = A.named;
          written = says ∙ sym (written_whole v.synchronous async (subst (CouldVisit counter r) says C));
        },
    λ W.
        let C : CouldVisit counter r (tells counter (record_of r W.sync (async_sent r W.ask))) =
        record {
          station = refl;
          start = refl;
          offered = refl;
          synchronous = W.within;
          asynchronous = record { ask = W.ask; frames = W.frames; named = W.named; sent = refl };
        } in
        rw (W.written ∙ written_whole W.sync (async_sent r W.ask) C) C,
  )
