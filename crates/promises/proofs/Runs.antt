-- What every run keeps, whatever its timers are, call by call: every answer is the steps' own or leaves all as it was. What one kind of ring keeps beside it is kept by every run if an accepted visit and an accepted handing in keep it (`Steady`).
use Prim.Native.Nat.{ℕ, zero, suc, ◌*◌, ◌≤◌, ◌<◌}
use mathlib.Core.Path.{◌≡◌, refl, sym, ap, ◌∙◌}
use mathlib.Core.Bool.{true, cond}
use mathlib.Core.List.{List, [], ◌∷◌}
use mathlib.Core.Logic.{◌⊎◌, inl, inr, ◌≢◌, ⊎_elim}
use native.Mathlib.Omega.{arith}
use borrow.Author.Tests.{eq-eqb, ne_eqb}
use lib.Dec.{eqb}
use Rattle.units.specs.Places.{at}
use Rattle.units.specs.declared.Station.{Station}
use Rattle.sets.specs.declared.Set.{Set}
use Rattle.plans.specs.declared.Alloc.{Alloc}
use Rattle.rings.specs.State.{Unmarked, Shaped}
use Rattle.rings.specs.Sound.{is_sound}
use Rattle.rings.specs.Steps.{Ask, sync_sent, async_sent, moved, record_of, blank_record, visit_number, refused_visit, accepted_visit, visited}
use Rattle.rings.specs.HandingIn.{holding, hand_in_number, handed_in}
use Rattle.rings.specs.Marking.{marked, unmarked}
use Rattle.ring_rules.proofs.MarkedLaws.{mark_sound, unmark_sound, mark_unchanged, unmark_unchanged}
use Rattle.rings.proofs.RingLaws.{sound_sentences, sound_tests, visit_accepted, visit_refused, taken_number, taken_accepted, taken_refused}
use Rattle.rings.specs.declared.Ring.{Ring}
use Rattle.rings.specs.declared.Message.{Message}
use Rattle.rings.specs.declared.VisitRecord.{VisitRecord}
use Rattle.promises.specs.Run.{Call, visit, message, mark, unmark, Event, a_visit, a_message, a_marking, an_unmarking, Run, noted, after, run, records_in, messages_in, records, messages}
use Rattle.promises.specs.History.{sync_start_of, Each, EachVisit, mark_in, MarksTold}
use Rattle.promises.specs.Facts.{timing, VisitCourse, VisitMessages, Completing, Accepting, Switching, Remarking, rises}
use Rattle.promises.specs.Valid.{InTurn, ShareKept, WalkedThrough}
use Rattle.promises.proofs.Course.{Plan, Course, InRange, range_kept, course_kept, same_or_not}
use Rattle.promises.proofs.Lists.{mark_small}
use Rattle.promises.proofs.Stores.{Stored, Latest, Never, Told, stored_kept, told_kept, stored_taken, told_taken}
use Rattle.promises.proofs.Arrivals.{Passed, passed_moved, passed_same, passed_taken}
use Rattle.promises.proofs.Steps.{visit_early, visit_through, mark_switching, unmark_switching, mark_remarks, unmark_remarks, visit_places, visit_course, visit_messages, holding_places, holding_sound, message_accepts}

-- ---- the answers

module _ (r : Ring) (ask : Ask) where
  pub visit_goes : visit_number r ask ≡ 0 → visited r ask ≡ accepted_visit r ask
  visit_goes go = visit_accepted (visit_number r ask) r ask go

  pub visit_stops : visit_number r ask ≢ 0 → visited r ask ≡ refused_visit r (visit_number r ask)
  visit_stops not = visit_refused (visit_number r ask) r ask not

pub message_number_lem : (r : Ring) (m : Message) → (handed_in r m).number ≡ hand_in_number r m
message_number_lem r m = taken_number (hand_in_number r m) r m

-- what a refused call tells is not kept
pub not_noted : {A : Type 0} (k : ℕ) (x : A) (before : List A) → k ≢ 0 → noted k x before ≡ before
unfolding noted
not_noted zero x before n = absurd (n refl)
not_noted (suc k) x before n = refl

-- ---- the run after an accepted call

-- the record of an accepted visit
abbrev pub made : Run → Ask → VisitRecord
made s ask = record_of s.ring (sync_sent s.ring (async_sent s.ring ask)) (async_sent s.ring ask)

abbrev pub moved_run : Run → Ask → Run
moved_run s ask =
    record {
      ring = moved s.ring (sync_sent s.ring (async_sent s.ring ask)) (async_sent s.ring ask);
      events = a_visit (at s.ring.mark s.ring.token) (made s ask) ∷ s.events;
    }

-- the visit completes the message that its station holds
abbrev pub Completes : Set → Run → Ask → Type 0
Completes t s ask = Completing t s.ring (moved_run s ask).ring (sync_start_of t (made s ask)) (made s ask)

abbrev pub held_run : Run → Message → Run
held_run s m = record { ring = holding s.ring m; events = a_message m ∷ s.events }

abbrev pub marked_run : Run → Station → Run
marked_run s p = record { ring = (marked s.ring p).ring; events = a_marking p (marked s.ring p).answer ∷ s.events }

abbrev pub unmarked_run : Run → Station → Run
unmarked_run s p = record { ring = (unmarked s.ring p).ring; events = an_unmarking p ∷ s.events }

-- ---- what every run keeps

pub record Kept (t : Set) (a : Alloc) (s : Run) : Type 0 where
  pub places : Shaped s.ring
  pub course : Course t a (timing s.ring) (records s)
  pub range : InRange t (timing s.ring)
  pub stored : (i : ℕ) → i < t.n → Stored t s.ring i
  pub told : (i : ℕ) → Told s.ring (messages s) i
  pub passed : Passed t s.ring (records s) (messages s)
  -- no message is held under a mark
  pub clear : (i : ℕ) → 0 < at s.ring.rest i → Unmarked s.ring i
  pub walked : EachVisit WalkedThrough s.events
  -- the marks are what the events say
  pub marks : (i : ℕ) → i < t.n → at s.ring.mark i ≡ mark_in i s.events
  pub marks_told : MarksTold s.events
  pub turns : Each (InTurn t) (records s)
  pub shares : Each (ShareKept a) (records s)
  pub sound : is_sound s.ring ≡ true

module _ (t : Set) (a : Alloc) (P : Plan t a) (s : Run) (K : Kept t a s) where
  pub course_facts : (ask : Ask) → visit_number s.ring ask ≡ 0 → VisitCourse t a (timing s.ring) (timing (moved_run s ask).ring) (made s ask)
  course_facts ask go = visit_course s.ring K.places ask go t a K.course.set K.course.alloc

  pub message_parts : (ask : Ask) → visit_number s.ring ask ≡ 0 → VisitMessages t a s.ring (moved_run s ask).ring (made s ask)
  message_parts ask go = visit_messages s.ring K.places ask go t a K.course.set K.course.alloc (K.clear s.ring.token)

  pub next_places : (ask : Ask) → visit_number s.ring ask ≡ 0 → Shaped (moved_run s ask).ring
  next_places ask go = visit_places s.ring K.places ask go

  pub next_stored : (ask : Ask) → visit_number s.ring ask ≡ 0 → (i : ℕ) → i < t.n → Stored t (moved_run s ask).ring i
  next_stored ask go = stored_kept t a s.ring (moved_run s ask).ring (made s ask) (message_parts ask go) K.stored

  pub next_range : (ask : Ask) → visit_number s.ring ask ≡ 0 → rises t (made s ask) ≤ 2 * t.head.ttrt → InRange t (timing (moved_run s ask).ring)
  next_range ask go short =
      range_kept t a (timing s.ring) (timing (moved_run s ask).ring) (made s ask) (records s) P K.course (course_facts ask go) short (visit_early s.ring K.places ask go)

  next_clear : (ask : Ask) → visit_number s.ring ask ≡ 0 → (i : ℕ) → 0 < at (moved_run s ask).ring.rest i → Unmarked (moved_run s ask).ring i
  next_clear ask go i h =
      let G = message_parts ask go in
      let p = s.ring.token in
      let before : 0 < at s.ring.rest i =
      ⊎_elim (λ (b : i ≡ p). rw b (omega (arith, G.rest_here, rw b at h))) (λ (b : i ≢ p). rw (G.rest_there i b) at h) (same_or_not i p) in
      ap (λ (xs : List ℕ). at xs i) G.mark ∙ K.clear i before

  -- an accepted visit keeps it, if it takes at most two TTRT and leaves the ring sound
  pub kept_moved : (ask : Ask) → visit_number s.ring ask ≡ 0 → rises t (made s ask) ≤ 2 * t.head.ttrt → is_sound (moved_run s ask).ring ≡ true → Kept t a (moved_run s ask)
  kept_moved ask go short sound =
      let F = course_facts ask go in
      record {
        places = next_places ask go;
        course = course_kept t a (timing s.ring) (timing (moved_run s ask).ring) (made s ask) (records s) P K.course F;
        range = next_range ask go short;
        stored = next_stored ask go;
        told = λ i. told_kept t a s.ring (moved_run s ask).ring (made s ask) (message_parts ask go) (messages s) i (K.told i);
        passed = passed_moved t a s.ring (moved_run s ask).ring (made s ask) (records s) (messages s) (omega (arith, K.course.rounds.1.visits)) F (message_parts ask go) K.passed;
        clear = next_clear ask go;
        walked = (visit_through s.ring K.places ask go (records s), K.walked);
        marks = λ i l. ap (λ (xs : List ℕ). at xs i) (message_parts ask go).mark ∙ K.marks i l;
        marks_told = (K.marks s.ring.token K.course.token ∙ ap (λ (j : ℕ). mark_in j s.events) (sym F.station), K.marks_told);
        turns = (record { station = rw F.station K.course.token; turn = F.station ∙ K.course.turn }, K.turns);
        shares = (omega (arith, F.within, ap (at a.s) F.station), K.shares);
        sound = sound;
      }

  pub message_facts : (m : Message) → hand_in_number s.ring m ≡ 0 → Accepting t s.ring (holding s.ring m) m
  message_facts m e = message_accepts s.ring K.places m e t K.course.set

  held_clear : (m : Message) → hand_in_number s.ring m ≡ 0 → (i : ℕ) → 0 < at (holding s.ring m).rest i → Unmarked (holding s.ring m) i
  held_clear m e i h =
      let A = message_facts m e in
      let off : Unmarked s.ring i =
      ⊎_elim (λ (b : i ≡ m.station.0). rw b A.unmarked) (λ (b : i ≢ m.station.0). K.clear i (rw (A.rest_there i b) at h)) (same_or_not i m.station.0) in
      ap (λ (xs : List ℕ). at xs i) A.mark_same ∙ off

  -- and an accepted handing in
  pub kept_held : (m : Message) → hand_in_number s.ring m ≡ 0 → Kept t a (held_run s m)
  kept_held m e =
      let A = message_facts m e in
      record {
        places = holding_places s.ring K.places m e;
        course = rw A.timing_same K.course;
        range = rw A.timing_same K.range;
        stored = stored_taken t s.ring (holding s.ring m) m A K.stored;
        told = λ i. told_taken t s.ring (holding s.ring m) m A (messages s) i (K.told i);
        passed = passed_taken t s.ring (holding s.ring m) m (records s) (messages s) A K.passed;
        clear = held_clear m e;
        walked = K.walked;
        marks = λ i l. ap (λ (xs : List ℕ). at xs i) A.mark_same ∙ K.marks i l;
        marks_told = K.marks_told;
        turns = K.turns;
        shares = K.shares;
        sound = holding_sound s.ring K.places m e;
      }

  -- and a mark that is set or taken off: the events have one more, that is no visit and no message
  module _ (q : Ring) (W : Switching s.ring q) (es : List Event) where
    pub switched_stored : (i : ℕ) → i < t.n → Stored t q i
    switched_stored i l =
        record {
          small = ⊎_elim (λ (e : at q.rest i ≡ at s.ring.rest i). rw e (K.stored i l).small) (λ (e : at q.rest i ≡ 0). omega arith) (W.rest i);
          range = rw W.arrival (K.stored i l).range;
        }

    switched_told : (i : ℕ) → Told q (messages s) i
    switched_told i =
        ⊎_elim (λ (n : Never s.ring (messages s) i). inl (record { latest = n.latest; had = rw W.had n.had }))
        (λ (l : (m : Message) × Latest s.ring (messages s) i m).
        inr (l.0, record { latest = l.1.latest; had = rw W.had l.1.had; arrival = rw W.arrival l.1.arrival }))
        (K.told i)

    pub kept_switched : records_in es ≡ records s → messages_in es ≡ messages s → EachVisit WalkedThrough es → ((i : ℕ) → i < t.n → at q.mark i ≡ mark_in i es) → MarksTold es → is_sound q ≡ true
        → Kept t a (record { ring = q; events = es })
    kept_switched same told walked marks marks_told sound =
        record {
          places = W.shaped;
          course = rw (same, W.timing_same) K.course;
          range = rw W.timing_same K.range;
          stored = switched_stored;
          told = rw told switched_told;
          passed = rw (same, told) (passed_same t s.ring q (records s) (messages s) W.timing_same K.passed (rw W.arrival K.passed.arrived));
          clear = W.clear K.clear;
          walked = walked;
          marks = marks;
          marks_told = marks_told;
          turns = rw same K.turns;
          shares = rw same K.shares;
          sound = sound;
        }

  -- the marks after a switching of station p
  remarked : (q : Ring) (p now : ℕ) → Remarking s.ring q p now → (i : ℕ) → i < t.n → at q.mark i ≡ cond (eqb p i) now (mark_in i s.events)
  remarked q p now M i l =
      ⊎_elim (λ (b : p ≡ i).
      let small : at s.ring.mark p ≤ 1 = omega (arith, K.marks i l, ap (at s.ring.mark) b, mark_small i s.events) in
      rw (eq-eqb p i b) (ap (at q.mark) (sym b) ∙ M.here small))
      (λ (b : p ≢ i). rw (ne_eqb p i b) (M.there i (λ e. b (sym e)) ∙ K.marks i l))
      (same_or_not p i)

  pub kept_marked : (p : Station) → (marked s.ring p).answer.number ≡ 0 → Kept t a (marked_run s p)
  kept_marked p e =
      let sound = sound_tests _ (mark_sound s.ring p (sound_sentences s.ring K.sound)) in
      kept_switched (marked s.ring p).ring (mark_switching s.ring K.places p) (marked_run s p).events refl refl K.walked
      (remarked (marked s.ring p).ring p.0 1 (mark_remarks s.ring K.places p e)) K.marks_told sound

  pub kept_unmarked : (p : Station) → (unmarked s.ring p).number ≡ 0 → Kept t a (unmarked_run s p)
  kept_unmarked p e =
      let sound = sound_tests _ (unmark_sound s.ring p (sound_sentences s.ring K.sound)) in
      kept_switched (unmarked s.ring p).ring (unmark_switching s.ring K.places p) (unmarked_run s p).events refl refl K.walked
      (remarked (unmarked s.ring p).ring p.0 0 (unmark_remarks s.ring K.places p e)) K.marks_told sound

  -- ---- what one call more makes of the run

  -- a visit: moved, or as it was
  pub after_visit : (ask : Ask) → ((visit_number s.ring ask ≡ 0) × (after s (visit ask) ≡ moved_run s ask)) ⊎ (after s (visit ask) ≡ s)
  unfolding after noted
  after_visit ask =
      ⊎_elim (λ (go : visit_number s.ring ask ≡ 0). inl (go, rw (visit_goes s.ring ask go)))
      (λ (not : visit_number s.ring ask ≢ 0).
      inr
      (rw (visit_stops s.ring ask not)
      (ap (λ (l : List Event). record { ring = s.ring; events = l }) (not_noted (visit_number s.ring ask) (a_visit (at s.ring.mark s.ring.token) blank_record) s.events not))))
      (same_or_not (visit_number s.ring ask) 0)

  pub after_held : (m : Message) → hand_in_number s.ring m ≡ 0 → after s (message m) ≡ held_run s m
  unfolding after noted
  after_held m h = rw (taken_accepted (hand_in_number s.ring m) s.ring m h)

  -- a handing in: held, or as it was
  pub after_message : (m : Message) → ((hand_in_number s.ring m ≡ 0) × (after s (message m) ≡ held_run s m)) ⊎ (after s (message m) ≡ s)
  unfolding after
  after_message m =
      ⊎_elim (λ (h : hand_in_number s.ring m ≡ 0). inl (h, after_held m h))
      (λ (n : hand_in_number s.ring m ≢ 0).
      inr
      (rw (taken_refused (hand_in_number s.ring m) s.ring m n)
      (ap (λ (l : List Event). record { ring = s.ring; events = l }) (not_noted (hand_in_number s.ring m) (a_message m) s.events n))))
      (same_or_not (hand_in_number s.ring m) 0)

-- a marking: told of, or as it was
pub after_mark : (s : Run) (p : Station) → (((marked s.ring p).answer.number ≡ 0) × (after s (mark p) ≡ marked_run s p)) ⊎ (after s (mark p) ≡ s)
unfolding after noted
after_mark s p =
    let event = a_marking p (marked s.ring p).answer in
    ⊎_elim (λ (h : (marked s.ring p).answer.number ≡ 0).
    inl (h, ap (λ (k : ℕ). record { ring = (marked s.ring p).ring; events = noted k event s.events }) h))
    (λ (n : (marked s.ring p).answer.number ≢ 0).
    let ring = (mark_unchanged s.ring p n).0 in
    let events = not_noted (marked s.ring p).answer.number event s.events n in
    inr (λ i. record { ring = ring i; events = events i }))
    (same_or_not (marked s.ring p).answer.number 0)

-- a mark taken off: told of, or as it was
pub after_unmark : (s : Run) (p : Station) → (((unmarked s.ring p).number ≡ 0) × (after s (unmark p) ≡ unmarked_run s p)) ⊎ (after s (unmark p) ≡ s)
unfolding after noted
after_unmark s p =
    ⊎_elim (λ (h : (unmarked s.ring p).number ≡ 0).
    inl (h, ap (λ (k : ℕ). record { ring = (unmarked s.ring p).ring; events = noted k (an_unmarking p) s.events }) h))
    (λ (n : (unmarked s.ring p).number ≢ 0).
    let ring = unmark_unchanged s.ring p n in
    let events = not_noted (unmarked s.ring p).number (an_unmarking p) s.events n in
    inr (λ i. record { ring = ring i; events = events i }))
    (same_or_not (unmarked s.ring p).number 0)

-- ---- what one kind of ring keeps

-- K holds what every run keeps, and accepted calls keep K
pub record Steady (t : Set) (a : Alloc) (K : Run → Type 0) : Type 0 where
  pub common : (s : Run) → K s → Kept t a s
  pub moves : (s : Run) → K s → (ask : Ask) → visit_number s.ring ask ≡ 0 → K (moved_run s ask)
  pub takes : (s : Run) → K s → (m : Message) → hand_in_number s.ring m ≡ 0 → K (held_run s m)
  pub marks : (s : Run) → K s → (p : Station) → (marked s.ring p).answer.number ≡ 0 → K (marked_run s p)
  pub unmarks : (s : Run) → K s → (p : Station) → (unmarked s.ring p).number ≡ 0 → K (unmarked_run s p)

module _ (t : Set) (a : Alloc) (P : Plan t a) (K : Run → Type 0) (S : Steady t a K) where
  pub steady_after : (s : Run) → K s → (c : Call) → K (after s c)
  steady_after s k (visit ask) =
      ⊎_elim (λ (h : (visit_number s.ring ask ≡ 0) × (after s (visit ask) ≡ moved_run s ask)). rw h.1 (S.moves s k ask h.0))
      (λ (e : after s (visit ask) ≡ s). rw e k)
      (after_visit t a P s (S.common s k) ask)
  steady_after s k (message m) =
      ⊎_elim (λ (h : (hand_in_number s.ring m ≡ 0) × (after s (message m) ≡ held_run s m)). rw h.1 (S.takes s k m h.0))
      (λ (e : after s (message m) ≡ s). rw e k)
      (after_message t a P s (S.common s k) m)
  steady_after s k (mark p) =
      ⊎_elim (λ (h : ((marked s.ring p).answer.number ≡ 0) × (after s (mark p) ≡ marked_run s p)). rw h.1 (S.marks s k p h.0))
      (λ (e : after s (mark p) ≡ s). rw e k)
      (after_mark s p)
  steady_after s k (unmark p) =
      ⊎_elim (λ (h : ((unmarked s.ring p).number ≡ 0) × (after s (unmark p) ≡ unmarked_run s p)). rw h.1 (S.unmarks s k p h.0))
      (λ (e : after s (unmark p) ≡ s). rw e k)
      (after_unmark s p)

  pub steady_run : (s : Run) → K s → (calls : List Call) → K (run s calls)
  unfolding run
  steady_run s k [] = k
  steady_run s k (c ∷ cs) = steady_run (after s c) (steady_after s k c) cs
