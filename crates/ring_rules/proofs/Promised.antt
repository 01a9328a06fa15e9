-- Opening, visits and handing in keep their promises: each answer is the judgement's number with the ring that goes with it, and the laws beside this file say what that ring is.
use Prim.Native.Nat.{ℕ, ◌≤◌}
use mathlib.Core.Path.{◌≡◌, sym, ◌∙◌}
use mathlib.Core.Bool.{true, false}
use mathlib.Core.Logic.{◌⊎◌, ◌≢◌, ⊎_elim, inl, inr}
use native.Mathlib.Omega.{arith}
use Rattle.units.specs.Numbers.{most_clock}
use Rattle.units.specs.Places.{at}
use Rattle.units.proofs.JudgingLaws.{true_or_false}
use Rattle.units.proofs.SmallLaws.{below_or_not}
use Rattle.units.specs.declared.Station.{Station}
use Rattle.sets.specs.Rules.{SameSet}
use Rattle.sets.specs.declared.Set.{Set}
use Rattle.plans.specs.Planned.{judged_plan}
use Rattle.plans.proofs.SameLaws.{judged_plan_same}
use Rattle.plans.specs.declared.Alloc.{Alloc}
use Rattle.rings.specs.State.{overrun, Marked, Unmarked, Shaped, blank_ring}
use Rattle.rings.specs.Timers.{Fddi}
use Rattle.rings.specs.Opening.{opening_number, opened_ring, opening}
use Rattle.rings.specs.Sound.{Sound}
use Rattle.rings.specs.Steps.{Ask, LengthNamed, sync_sent, async_sent, moved, record_of, visit_number, accepted_visit, refused_visit, visited}
use Rattle.rings.specs.HandingIn.{hand_in_number, holding, handed_in}
use Rattle.ring_rules.specs.Promised.{Fresh, Done, UncutVisit, Held, idle, silent, WalksAsIdle, SameFirst, SameRing, Promised}
use Rattle.rings.specs.Marking.{mark_number, withdrawal, marked, unmarked}
use Rattle.rings.proofs.TimerLaws.{fddi_or_not, lead_none, lead_all, marked_or_not}
use Rattle.rings.proofs.OpeningLaws.{before, opening_before, opening_retired, opening_in_use, opening_none}
use Rattle.rings.proofs.MarkLaws.{marked_refused, marked_accepted, mark_passed}
use Rattle.rings.proofs.RingLaws.{decides_sound, opened_number, taken_number, opened_refused, opened_accepted, visit_refused, visit_accepted, visit_passed, taken_refused, taken_accepted, taken_passed}
use Rattle.ring_rules.proofs.NumberLaws.{opening_two, opening_four, opening_five, opening_sixteen, opening_seven, opening_only, visited_number, visit_eight, visit_ten, visit_thirteen, visit_none, visit_only, message_eight, message_nine, message_ten, message_eleven, message_fifteen, message_twelve, message_none, message_only, mark_eight, mark_nine, mark_none, mark_only}
use Rattle.ring_rules.proofs.MarkedLaws.{number_marked, number_unmarked, mark_unchanged, mark_switches, mark_withdraws, mark_takes_none, mark_stays, mark_twice, mark_arrivals, marked_eleven, unmark_unchanged, unmark_switches, unmark_stays, mark_sound, unmark_sound, idle_sound, idle_named, idle_clock, walks_alike, sound_marks, nothing_new}
use Rattle.ring_rules.proofs.OpenedLaws.{fresh, opened_sound}
use Rattle.ring_rules.proofs.MovedLaws.{margin_kept, margin_late, done}
use Rattle.ring_rules.proofs.HeldLaws.{held, held_sound}
use Rattle.ring_rules.proofs.FirstLaws.{sound_same, visit_number_same, sync_same, async_same, record_same, moved_same, message_number_same, held_same, through_same, in_same, mark_number_same, withdrawal_same, fresh_same}
use Rattle.ring_rules.proofs.ModeLaws.{sound_timely, sound_fddi, late_alone, unused_alone}
use Rattle.rings.specs.declared.Ring.{Ring}
use Rattle.rings.specs.declared.Message.{Message}

-- a number is 0 or it is not
zero_or_not : (k : ℕ) → (k ≡ 0) ⊎ (k ≢ 0)
zero_or_not k = ⊎_elim (λ l. inr (omega arith)) (λ l. inl (omega arith)) (below_or_not 0 k)

-- ---- opening

module _ (t : Set) (a : Alloc) where
  number_opened : (opening t a).number ≡ opening_number t a
  number_opened = opened_number (opening_number t a) (opened_ring t a)

  accepts : (opening t a).number ≡ 0 → judged_plan t a ≡ 0
  accepts e = ((opening_none t a).0 (sym number_opened ∙ e)).0

  ring_opened : (opening t a).number ≡ 0 → (opening t a).ring ≡ opened_ring t a
  ring_opened e = rw (opened_accepted (opening_number t a) (opened_ring t a) (sym number_opened ∙ e))

  opening_blank : (opening t a).number ≢ 0 → (opening t a).ring ≡ blank_ring
  opening_blank n = rw (opened_refused (opening_number t a) (opened_ring t a) (λ e. n (number_opened ∙ e)))

  opening_fresh : (opening t a).number ≡ 0 → Fresh t a (opening t a).ring
  opening_fresh e = rw (ring_opened e) (fresh t a (accepts e))

  opening_sound : (opening t a).number ≡ 0 → Sound (opening t a).ring
  opening_sound e = rw (ring_opened e) (opened_sound t a (accepts e))

-- opening's number goes by the mode and by the judgement's number alone
number_same : (t u : Set) (a b : Alloc) → SameSet t u → judged_plan t a ≡ judged_plan u b → opening_number t a ≡ opening_number u b
number_same t u a b same judged =
    ⊎_elim (λ (e : Fddi t).
    ⊎_elim (λ (early : before (judged_plan t a) ≡ true). opening_before t a early ∙ (judged ∙ sym (opening_before u b (rw judged at early))))
    (λ (past : before (judged_plan t a) ≡ false). opening_retired t a past e ∙ sym (opening_retired u b (rw judged at past) (rw same.header at e)))
    (true_or_false (before (judged_plan t a))))
    (λ (n : ¬ Fddi t). opening_in_use t a n ∙ (judged ∙ sym (opening_in_use u b (rw same.header at n))))
    (fddi_or_not t)

first_places_opened : (t u : Set) (a b : Alloc) → SameSet t u → SameFirst t.n a.s b.s → judged_plan t a ≡ 0 → SameRing (opened_ring t a) (opened_ring u b)
first_places_opened t u a b same alloc e =
    fresh_same t u a b _ _ same alloc (fresh t a e) (fresh u b (sym (judged_plan_same t u a b same alloc) ∙ e))

first_places_opening : (t u : Set) (a b : Alloc) → SameSet t u → SameFirst t.n a.s b.s
    → ((opening t a).number ≡ (opening u b).number) × ((opening t a).number ≡ 0 → SameRing (opening t a).ring (opening u b).ring)
first_places_opening t u a b same alloc =
    let numbers : opening_number t a ≡ opening_number u b = number_same t u a b same (judged_plan_same t u a b same alloc) in
    let number : (opening t a).number ≡ (opening u b).number = number_opened t a ∙ (numbers ∙ sym (number_opened u b)) in
    (number, λ e. rw (ring_opened t a e, ring_opened u b (sym number ∙ e)) (first_places_opened t u a b same alloc (accepts t a e)))

-- ---- a visit

module _ (r : Ring) (ask : Ask) where
  number_visited : (visited r ask).answer.number ≡ visit_number r ask
  number_visited = visited_number (visit_number r ask) r ask

  accepted : (visited r ask).answer.number ≡ 0 → visited r ask ≡ accepted_visit r ask
  accepted e = visit_accepted (visit_number r ask) r ask (sym number_visited ∙ e)

  refused : (visited r ask).answer.number ≢ 0 → visited r ask ≡ refused_visit r (visit_number r ask)
  refused n = visit_refused (visit_number r ask) r ask (λ e. n (number_visited ∙ e))

  passed : (visited r ask).answer.number ≡ 0 → Sound r
  passed e = (visit_passed r ask (sym number_visited ∙ e)).0

  named : (visited r ask).answer.number ≡ 0 → LengthNamed r ask
  named e = (visit_passed r ask (sym number_visited ∙ e)).1.0

  visit_done : Shaped r → (visited r ask).answer.number ≡ 0 → Done r ask (visited r ask).ring (visited r ask).answer.«record»
  visit_done L e = rw (accepted e) (done r ask L (passed e) (named e))

-- a marked station is walked through as an idle one
marked_walks : (r : Ring) (ask : Ask) → Shaped r → (visited r ask).answer.number ≡ 0 → Marked r r.token → WalksAsIdle r ask (visited r ask).ring
marked_walks r ask L e on =
    let sound = passed r ask e in
    let given = (visit_passed r ask (sym (number_visited r ask) ∙ e)).1 in
    let clock : (idle r).clock ≤ most_clock = rw (idle_clock r ask L sound given.0) given.1 in
    let goes : (visited (idle r) (silent ask)).answer.number ≡ 0 =
    number_visited (idle r) (silent ask) ∙ (visit_none (idle r) (silent ask)).1 (idle_sound r ask L sound given.0, (idle_named r ask L sound given.0, clock)) in
    record {
      goes = goes;
      timing = rw (accepted (idle r) (silent ask) goes, accepted r ask e) (walks_alike r ask L sound given.0 on);
    }

-- with F 1 no frame runs on
uncut_visit : (r : Ring) (ask : Ask) → Shaped r → r.set.head.frame ≡ 1 → ask.length ≡ 1 → UncutVisit r ask
uncut_visit r ask L one tick =
    let none : overrun r ≡ 0 = omega (arith, one) in
    record {
      not_ten = λ e. ((visit_ten r ask).0 (sym (number_visited r ask) ∙ e)).1 (omega (arith, tick), omega (arith, one, tick));
      limit = λ e here timely. omega (arith, none, (visit_done r ask L e).amounts.limit here timely);
      sent = λ e. (visit_done r ask L e).amounts.ticks tick;
    }

first_places_visit : (a b : Ring) (ask : Ask) → Shaped a → Shaped b → SameRing a b → ((visited a ask).answer ≡ (visited b ask).answer) × SameRing (visited a ask).ring (visited b ask).ring
first_places_visit a b ask La Lb same =
    let numbers : visit_number a ask ≡ visit_number b ask = visit_number_same a b same ask in
    ⊎_elim (λ (e : (visited a ask).answer.number ≡ 0).
    let f : (visited b ask).answer.number ≡ 0 = number_visited b ask ∙ (sym numbers ∙ (sym (number_visited a ask) ∙ e)) in
    let l = (passed a ask e).token in
    let records : record_of a (sync_sent a (async_sent a ask)) (async_sent a ask) ≡ record_of b (sync_sent b (async_sent b ask)) (async_sent b ask) =
    record_same a b same ask l (sync_sent a (async_sent a ask)) (async_sent a ask) ∙ rw (sync_same a b same ask l (async_sent a ask), async_same a b same ask l) in
    let before = (done a ask La (passed a ask e) (named a ask e)).moved in
    let after = (done b ask Lb (passed b ask f) (named b ask f)).moved in
    rw (accepted a ask e, accepted b ask f)
    (rw records, moved_same a b same ask l _ _ _ (rw records at before) after))
    (λ (n : (visited a ask).answer.number ≢ 0).
    rw (refused a ask n, refused b ask (λ f. n (number_visited a ask ∙ (numbers ∙ (sym (number_visited b ask) ∙ f)))))
    (rw numbers, same))
    (zero_or_not (visited a ask).answer.number)

-- ---- handing in

module _ (r : Ring) (m : Message) where
  number_taken : (handed_in r m).number ≡ hand_in_number r m
  number_taken = taken_number (hand_in_number r m) r m

  ring_taken : (handed_in r m).number ≡ 0 → (handed_in r m).ring ≡ holding r m
  ring_taken e = rw (taken_accepted (hand_in_number r m) r m (sym number_taken ∙ e))

  message_unchanged : (handed_in r m).number ≢ 0 → (handed_in r m).ring ≡ r
  message_unchanged n = rw (taken_refused (hand_in_number r m) r m (λ e. n (number_taken ∙ e)))

  message_held : Shaped r → (handed_in r m).number ≡ 0 → Held r m (handed_in r m).ring
  message_held L e =
      let p = taken_passed r m (sym number_taken ∙ e) in
      rw (ring_taken e) (held r m L p.0 p.1)

  message_sound : Shaped r → (handed_in r m).number ≡ 0 → Sound (handed_in r m).ring
  message_sound L e =
      let p = taken_passed r m (sym number_taken ∙ e) in
      rw (ring_taken e) (held_sound r m L p.0 p.1)

first_places_message : (a b : Ring) (m : Message) → Shaped a → Shaped b → SameRing a b → ((handed_in a m).number ≡ (handed_in b m).number) × SameRing (handed_in a m).ring (handed_in b m).ring
first_places_message a b m La Lb same =
    let numbers : (handed_in a m).number ≡ (handed_in b m).number = number_taken a m ∙ (message_number_same a b same m ∙ sym (number_taken b m)) in (
      numbers,
      ⊎_elim (λ (e : (handed_in a m).number ≡ 0).
          held_same a b same m _ _ (message_held a m La e) (message_held b m Lb (sym numbers ∙ e)))
          (λ (n : (handed_in a m).number ≢ 0). rw (message_unchanged a m n, message_unchanged b m (λ f. n (numbers ∙ f))) same)
          (zero_or_not (handed_in a m).number),
    )

-- ---- marking, and taking the mark off

first_places_mark : (a b : Ring) (s : Station) → Shaped a → Shaped b → SameRing a b → ((marked a s).answer ≡ (marked b s).answer) × SameRing (marked a s).ring (marked b s).ring
first_places_mark a b s La Lb same =
    let numbers : mark_number a s ≡ mark_number b s = mark_number_same a b same s in
    ⊎_elim (λ (e : mark_number a s ≡ 0).
    let f : mark_number b s ≡ 0 = sym numbers ∙ e in
    let ga : (marked a s).answer.number ≡ 0 = number_marked a s ∙ e in
    let gb : (marked b s).answer.number ≡ 0 = number_marked b s ∙ f in
    let known = (mark_passed a s e).1 in
    let answers : withdrawal a s.0 ≡ withdrawal b s.0 = withdrawal_same a b same s.0 known in
    let here : at a.mark s.0 ≡ at b.mark s.0 = same.mark s.0 known in (
      rw (marked_accepted _ a s e, marked_accepted _ b s f) answers,
      ⊎_elim (λ (on : Marked a s.0). rw ((mark_stays a s on).0, (mark_stays b s (rw (← here) on)).0) same)
          (λ (off : Unmarked a s.0). through_same a b same s.0 _ _ (mark_switches a s La ga off) (mark_switches b s Lb gb (sym here ∙ off)))
          (marked_or_not a s.0),
    ))
    (λ (n : mark_number a s ≢ 0). rw (marked_refused _ a s n, marked_refused _ b s (λ f. n (numbers ∙ f))) (rw numbers, same))
    (zero_or_not (mark_number a s))

first_places_unmark : (a b : Ring) (s : Station) → Shaped a → Shaped b → SameRing a b → ((unmarked a s).number ≡ (unmarked b s).number) × SameRing (unmarked a s).ring (unmarked b s).ring
first_places_unmark a b s La Lb same =
    let numbers : (unmarked a s).number ≡ (unmarked b s).number = number_unmarked a s ∙ (mark_number_same a b same s ∙ sym (number_unmarked b s)) in (
      numbers,
      ⊎_elim (λ (e : (unmarked a s).number ≡ 0). in_same a b same s.0 _ _ (unmark_switches a s La e) (unmark_switches b s Lb (sym numbers ∙ e)))
          (λ (n : (unmarked a s).number ≢ 0). rw (unmark_unchanged a s n, unmark_unchanged b s (λ f. n (numbers ∙ f))) same)
          (zero_or_not (unmarked a s).number),
    )

pub promised : Promised
promised =
    record {
      opening_two = λ t a. rw (number_opened t a) (opening_two t a);
      opening_four = λ t a. rw (number_opened t a) (opening_four t a);
      opening_five = λ t a. rw (number_opened t a) (opening_five t a);
      opening_sixteen = λ t a. rw (number_opened t a) (opening_sixteen t a);
      opening_seven = λ t a. rw (number_opened t a) (opening_seven t a);
      opening_none = λ t a. rw (number_opened t a) (opening_none t a);
      opening_only = λ t a. rw (number_opened t a) (opening_only t a);
      opening_in_use = λ t a n. number_opened t a ∙ opening_in_use t a n;
      opening_blank = opening_blank;
      opening_fresh = opening_fresh;
      opening_sound = opening_sound;
      opened_fresh = fresh;
      opened_sound = opened_sound;
      sound = decides_sound;
      sound_timely = sound_timely;
      sound_fddi = sound_fddi;
      lead_none = λ t async n. lead_none t n async;
      lead_all = λ t async e. lead_all t e async;
      visit_eight = λ r ask. rw (number_visited r ask) (visit_eight r ask);
      visit_ten = λ r ask. rw (number_visited r ask) (visit_ten r ask);
      visit_thirteen = λ r ask. rw (number_visited r ask) (visit_thirteen r ask);
      visit_none = λ r ask. rw (number_visited r ask) (visit_none r ask);
      visit_only = λ r ask. rw (number_visited r ask) (visit_only r ask);
      visit_unchanged = λ r ask n. rw (refused r ask n);
      visit_blank = λ r ask n. rw (refused r ask n);
      visit_done = visit_done;
      uncut_visit = uncut_visit;
      margin_kept = margin_kept;
      margin_late = margin_late;
      message_eight = λ r m. rw (number_taken r m) (message_eight r m);
      message_nine = λ r m. rw (number_taken r m) (message_nine r m);
      message_ten = λ r m. rw (number_taken r m) (message_ten r m);
      message_eleven = λ r m. rw (number_taken r m) (message_eleven r m);
      message_fifteen = λ r m. rw (number_taken r m) (message_fifteen r m);
      message_twelve = λ r m. rw (number_taken r m) (message_twelve r m);
      message_none = λ r m. rw (number_taken r m) (message_none r m);
      message_only = λ r m. rw (number_taken r m) (message_only r m);
      message_unchanged = message_unchanged;
      message_held = message_held;
      message_sound = message_sound;
      mark_eight = λ r s. rw (number_marked r s) (mark_eight r s);
      mark_nine = λ r s. rw (number_marked r s) (mark_nine r s);
      mark_none = λ r s. rw (number_marked r s) (mark_none r s);
      mark_only = λ r s. rw (number_marked r s) (mark_only r s);
      mark_unchanged = mark_unchanged;
      mark_switches = mark_switches;
      mark_withdraws = mark_withdraws;
      mark_takes_none = mark_takes_none;
      mark_stays = mark_stays;
      mark_twice = mark_twice;
      mark_arrivals = mark_arrivals;
      marked_eleven = λ r m sound known length on. number_taken r m ∙ marked_eleven r m sound known length on;
      unmark_number = λ r s. number_unmarked r s ∙ sym (number_marked r s);
      unmark_unchanged = unmark_unchanged;
      unmark_switches = unmark_switches;
      unmark_stays = unmark_stays;
      marked_walks = marked_walks;
      sound_marks = sound_marks;
      mark_sound = mark_sound;
      unmark_sound = unmark_sound;
      nothing_new = nothing_new;
      first_places_opening = first_places_opening;
      first_places_opened = first_places_opened;
      first_places_sound = sound_same;
      first_places_visit = first_places_visit;
      first_places_message = first_places_message;
      first_places_mark = first_places_mark;
      first_places_unmark = first_places_unmark;
      late_alone = late_alone;
      unused_alone = unused_alone;
    }
