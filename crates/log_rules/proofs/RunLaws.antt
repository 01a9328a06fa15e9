-- The numbers of an accepted visit's record fit their fields: the station is below 128, the limit at most TTRT, and both amounts at most twice that. So an entry says what the record says. The station of an accepted marking is below 128 too.
use Prim.Native.Nat.{ℕ, zero, suc, ◌%◌, ◌^◌, ◌≤◌, ◌<◌}
use mathlib.Core.Path.{◌≡◌, refl, sym, ap, ◌∙◌}
use mathlib.Core.List.{List, [], ◌∷◌, map, reverse, reverse_aux}
use mathlib.Core.Logic.{◌≢◌, ⊎_elim}
use native.Mathlib.Nat.{mod-eq_of_lt}
use native.Mathlib.Omega.{arith}
use Rattle.units.specs.Places.{at}
use Rattle.units.specs.declared.Station.{Station}
use Rattle.units.proofs.SmallLaws.{below_or_not}
use Rattle.sets.specs.declared.Set.{Set}
use Rattle.plans.specs.declared.Alloc.{Alloc}
use Rattle.log_records.specs.Visit.{VisitFits}
use Rattle.log_records.specs.Mark.{MarkFits}
use Rattle.rings.specs.State.{count, ttrt}
use Rattle.rings.specs.Timers.{Fddi, limit}
use Rattle.rings.specs.Steps.{Ask, sync_sent, async_sent, record_of, visit_number, visited_with, visited}
use Rattle.rings.specs.Sound.{Sound}
use Rattle.rings.proofs.RingLaws.{sync_within, visit_accepted, visit_passed, visit_safe, sound_plan}
use Rattle.rings.proofs.FrameLaws.{frames_within}
use Rattle.rings.proofs.TimerLaws.{fddi_or_not, limit_within as limit-offered, offer_fddi, offer_timely, offered_late, offered_early}
use Rattle.rings.specs.HandingIn.{handed_in}
use Rattle.rings.specs.Marking.{marked, unmarked}
use Rattle.rings.specs.declared.Ring.{Ring}
use Rattle.rings.specs.declared.Message.{Message}
use Rattle.rings.specs.declared.VisitRecord.{VisitRecord}
use Rattle.rings.specs.declared.Visited.{Visited}
use Rattle.logs.specs.Writing.{counter_at, visit_of}
use Rattle.ring_rules.proofs.Promised.{promised as rings-promised}
use Rattle.promises.specs.Run.{Call, visit, message, mark, unmark, Event, a_visit as ofVisit, a_message, a_marking, an_unmarking, Run, noted, after, run, events_of}
use Rattle.logs.specs.Layout.{AllFit}
use Rattle.log_rules.specs.Recorded.{Told, a_visit, a_mark, entry_for, tells, says, told_in, entries_of}
use Rattle.log_rules.proofs.CounterLaws.{counter_clock}

-- ---- an accepted visit

-- the numbers of a record fit
pub record Small (v : VisitRecord) : Type 0 where
  pub station : v.station.0 < 128
  pub limit : v.limit.0 < 2 ^ 32
  pub synchronous : v.synchronous.0 < 2 ^ 32
  pub asynchronous : v.asynchronous.0 < 2 ^ 32

-- the limit is at most TTRT
limit_within : (r : Ring) → limit r ≤ ttrt r
limit_within r =
    ⊎_elim (λ (f : Fddi r.set).
    ⊎_elim (λ (early : at r.late r.token < 1). omega (arith, limit-offered r, offer_fddi r f, offered_early (ttrt r) (record { count = at r.late r.token; timer = at r.trt r.token }) (omega arith)))
    (λ (late : 1 ≤ at r.late r.token). omega (arith, limit-offered r, offer_fddi r f, offered_late (ttrt r) (record { count = at r.late r.token; timer = at r.trt r.token }) late))
    (below_or_not (at r.late r.token) 1))
    (λ (n : ¬ Fddi r.set). omega (arith, limit-offered r, offer_timely r n))
    (fddi_or_not r.set)

visited_number : (k : ℕ) (r : Ring) (ask : Ask) → (visited_with k r ask).answer.number ≡ k
unfolding visited_with
visited_number zero r ask = refl
visited_number (suc k) r ask = refl

module _ (r : Ring) (ask : Ask) where
  -- the record of a visit that was accepted
  record_small : visit_number r ask ≡ 0 → Small (record_of r (sync_sent r (async_sent r ask)) (async_sent r ask)) × (r.token < count r)
  unfolding record_of
  record_small go =
      let s = (visit_safe r ask go).0 in
      let named = (visit_passed r ask go).1.0 in
      let most = s.rotation in
      let top = limit_within r in
      let frames = frames_within (limit r) ask named.0 in
      let share = (sync_within r (async_sent r ask)).0 in (
        record {
          station = omega (arith, s.few, s.token);
          limit = omega arith;
          synchronous = omega (arith, s.allotted);
          asynchronous = omega (arith, s.allotted, named.1);
        },
        s.token,
      )

  visit_said : (visited r ask).answer.number ≡ 0 → (visited r ask).answer.«record» ≡ record_of r (sync_sent r (async_sent r ask)) (async_sent r ask)
  visit_said h = ap (λ (x : Visited). x.answer.«record») (visit_accepted _ r ask (sym (visited_number (visit_number r ask) r ask) ∙ h))

  pub visit_small : (visited r ask).answer.number ≡ 0 → Small (visited r ask).answer.«record»
  visit_small h = rw (visit_said h) (record_small (sym (visited_number (visit_number r ask) r ask) ∙ h)).0

  pub visit_station : (visited r ask).answer.number ≡ 0 → (visited r ask).answer.«record».station.0 < count r
  unfolding record_of
  visit_station h = rw (visit_said h) (record_small (sym (visited_number (visit_number r ask) r ask) ∙ h)).1

-- ---- its entry

module _ (v : VisitRecord) (small : Small v) where
  pub entry_says : (counter clock : ℕ)
      → visit_of counter clock v
      ≡ record { station = v.station.0; start = counter_at counter clock v.start.0; limit = v.limit.0; synchronous = v.synchronous.0; asynchronous = v.asynchronous.0 }
  entry_says counter clock =
      let station : v.station.0 % 256 ≡ v.station.0 = mod-eq_of_lt (omega (arith, small.station)) in
      let limit : v.limit.0 % 2 ^ 32 ≡ v.limit.0 = mod-eq_of_lt small.limit in
      let synchronous : v.synchronous.0 % 2 ^ 32 ≡ v.synchronous.0 = mod-eq_of_lt small.synchronous in
      let asynchronous : v.asynchronous.0 % 2 ^ 32 ≡ v.asynchronous.0 = mod-eq_of_lt small.asynchronous in
      rw (station, limit, synchronous, asynchronous) refl

  -- begun at clock 0
  entry_tells : (counter : ℕ) → visit_of counter 0 v ≡ tells counter v
  entry_tells counter = entry_says counter 0 ∙ rw (counter_clock counter v.start.0) refl

  tells_fits : (counter : ℕ) → VisitFits (tells counter v)
  tells_fits counter =
      record {
        station = omega (arith, small.station);
        start = omega arith;
        limit = small.limit;
        synchronous = small.synchronous;
        asynchronous = small.asynchronous;
      }

-- ---- an accepted marking, and an unmarking

-- the station of a sound ring fits its field
station_fits : (r : Ring) (p : Station) (on : ℕ) → on < 256 → Sound r × (p.0 < count r) → MarkFits (record { station = p.0; mark = on })
station_fits r p on small inside = record { station = omega (arith, inside.1, (sound_plan r inside.0).0.1); mark = small }

mark_inside : (r : Ring) (p : Station) → (marked r p).answer.number ≡ 0 → Sound r × (p.0 < count r)
mark_inside r p h = (rings-promised.mark_none r p).0 h

unmark_inside : (r : Ring) (p : Station) → (unmarked r p).number ≡ 0 → Sound r × (p.0 < count r)
unmark_inside r p h = mark_inside r p (sym (rings-promised.unmark_number r p) ∙ h)

-- ---- what a call tells

module _ (x : Event) (before : List Event) where
  told_there : (k : ℕ) → k ≡ 0 → told_in (noted k x before) ≡ told_in (x ∷ before)
  unfolding noted
  told_there k e = rw e refl

  told_not : (k : ℕ) → k ≢ 0 → told_in (noted k x before) ≡ told_in before
  unfolding noted
  told_not zero h = absurd (h refl)
  told_not (suc k) h = refl

module _ (s : Run) (p : Station) where
  pub marking_told : (marked s.ring p).answer.number ≡ 0
      → (told_in (after s (mark p)).events ≡ a_mark (record { station = p.0; mark = 1 }) ∷ told_in s.events) × (p.0 < count s.ring)
  unfolding after
  marking_told h = (told_there (a_marking p (marked s.ring p).answer) s.events _ h, (mark_inside s.ring p h).1)

  pub marking_refused : (marked s.ring p).answer.number ≢ 0 → told_in (after s (mark p)).events ≡ told_in s.events
  unfolding after
  marking_refused h = told_not (a_marking p (marked s.ring p).answer) s.events _ h

  pub unmarking_told : (unmarked s.ring p).number ≡ 0
      → (told_in (after s (unmark p)).events ≡ a_mark (record { station = p.0; mark = 0 }) ∷ told_in s.events) × (p.0 < count s.ring)
  unfolding after
  unmarking_told h = (told_there (an_unmarking p) s.events _ h, (unmark_inside s.ring p h).1)

  pub unmarking_refused : (unmarked s.ring p).number ≢ 0 → told_in (after s (unmark p)).events ≡ told_in s.events
  unfolding after
  unmarking_refused h = told_not (an_unmarking p) s.events _ h

pub message_untold : (s : Run) (m : Message) → told_in (after s (message m)).events ≡ told_in s.events
unfolding after noted
message_untold s m = go (handed_in s.ring m).number
  where
    go : (k : ℕ) → told_in (noted k (a_message m) s.events) ≡ told_in s.events
    go zero = refl
    go (suc k) = refl

-- ---- a run

abbrev SmallTold : Told → Type 0
SmallTold (a_visit v) = Small v
SmallTold (a_mark m) = MarkFits m

abbrev AllSmall : List Told → Type 0
AllSmall [] = Unit {0}
AllSmall (x ∷ xs) = SmallTold x × AllSmall xs

-- one more that was accepted, or none
noted_small : (k : ℕ) (x : Event) (before : List Event) → (k ≡ 0 → AllSmall (told_in (x ∷ before))) → AllSmall (told_in before) → AllSmall (told_in (noted k x before))
unfolding noted
noted_small zero x before small all = small refl
noted_small (suc k) x before small all = all

run_small : (calls : List Call) (s : Run) → AllSmall (told_in s.events) → AllSmall (told_in (run s calls).events)
unfolding run after
run_small [] s all = all
run_small (visit ask ∷ calls) s all =
    let answer = (visited s.ring ask).answer in
    run_small calls (after s (visit ask))
    (noted_small answer.number (ofVisit (at s.ring.mark s.ring.token) answer.«record») s.events (λ e. (visit_small s.ring ask e, all)) all)
run_small (message m ∷ calls) s all = run_small calls (after s (message m)) (noted_small _ (a_message m) s.events (λ e. all) all)
run_small (mark p ∷ calls) s all =
    run_small calls (after s (mark p))
    (noted_small _ (a_marking p (marked s.ring p).answer) s.events (λ e. (station_fits s.ring p 1 (omega arith) (mark_inside s.ring p e), all)) all)
run_small (unmark p ∷ calls) s all =
    run_small calls (after s (unmark p))
    (noted_small _ (an_unmarking p) s.events (λ e. (station_fits s.ring p 0 (omega arith) (unmark_inside s.ring p e), all)) all)

turned : (xs before : List Told) → AllSmall xs → AllSmall before → AllSmall (reverse_aux xs before)
turned [] before all then = then
turned (x ∷ xs) before all then = turned xs (x ∷ before) all.1 (all.0, then)

told_small : (t : Set) (a : Alloc) (calls : List Call) → AllSmall (reverse (told_in (events_of t a calls)))
told_small t a calls = turned (told_in (events_of t a calls)) [] (run_small calls _ tt) tt

module _ (counter : ℕ) where
  entries_tell : (xs : List Told) → AllSmall xs → map (entry_for counter 0) xs ≡ map (says counter) xs
  entries_tell [] all = refl
  entries_tell (a_visit v ∷ xs) all = rw (entry_tells v all.0 counter, entries_tell xs all.1) refl
  entries_tell (a_mark m ∷ xs) all = rw (entries_tell xs all.1) refl

  tell_fits : (xs : List Told) → AllSmall xs → AllFit (map (says counter) xs)
  tell_fits [] all = tt
  tell_fits (a_visit v ∷ xs) all = (tells_fits v all.0 counter, tell_fits xs all.1)
  tell_fits (a_mark m ∷ xs) all = (all.0, tell_fits xs all.1)

module _ (t : Set) (a : Alloc) (counter : ℕ) (calls : List Call) where
  pub run_entries : map (entry_for counter 0) (reverse (told_in (events_of t a calls))) ≡ entries_of counter t a calls
  run_entries = entries_tell counter (reverse (told_in (events_of t a calls))) (told_small t a calls)

  pub run_fits : AllFit (entries_of counter t a calls)
  run_fits = tell_fits counter (reverse (told_in (events_of t a calls))) (told_small t a calls)
