-- A message that was handed in is followed call by call: a visit of its own station takes what it sent off the remainder, or completes it; the first marking of its station takes it back; no other call touches it. What is to hold while it waits, and of the record that completes it, is a parameter: it has to follow from what the runs keep.
use Prim.Native.Nat.{ℕ, ◌+◌, ◌<◌}
use mathlib.Core.Path.{◌≡◌, refl, sym, ap, ◌∙◌}
use mathlib.Core.List.{List, [], ◌∷◌, ◌++◌}
use mathlib.Core.Logic.{◌⊎◌, inl, inr, ◌≢◌, ⊎_elim}
use native.Mathlib.Omega.{arith}
use borrow.Author.Tests.{eq-eqb, ne_eqb}
use lib.IntN.{sub_ℕ}
use Rattle.units.specs.Places.{at}
use Rattle.sets.specs.declared.Set.{Set}
use Rattle.plans.specs.declared.Alloc.{Alloc}
use Rattle.rings.specs.Steps.{Ask, visit_number}
use Rattle.rings.specs.HandingIn.{hand_in_number}
use Rattle.units.specs.declared.Station.{Station}
use Rattle.rings.specs.Marking.{marked, unmarked}
use Rattle.rings.specs.declared.Ring.{Ring}
use Rattle.rings.specs.declared.MarkAnswer.{MarkAnswer}
use Rattle.rings.specs.declared.Message.{Message}
use Rattle.rings.specs.declared.VisitRecord.{VisitRecord}
use Rattle.promises.specs.Run.{Call, visit, message, mark, unmark, Event, a_visit, a_message, a_marking, an_unmarking, Run, after, run, records_in}
use Rattle.promises.specs.History.{sync_start_of, sent_by, Somewhere}
use Rattle.promises.specs.Facts.{Completing, Leaving}
use Rattle.promises.specs.Valid.{StillHeld, CompletedBy, WithdrawnBy, Withdrawn, Followed, due_by}
use Rattle.promises.proofs.Course.{Plan, same_or_not}
use Rattle.promises.proofs.Steps.{mark_switching, unmark_switching, mark_takes, unmark_rest}
use Rattle.promises.proofs.Runs.{made, moved_run, Completes, held_run, marked_run, unmarked_run, after_mark, after_unmark, course_facts, message_parts, message_facts, after_visit, after_message, after_held, Steady, steady_after}

-- ---- what a station sent, with one visit more

sent_here : (i : ℕ) (v : VisitRecord) (since : List VisitRecord) → v.station.0 ≡ i → sent_by i (v ∷ since) ≡ v.synchronous.0 + sent_by i since
unfolding sent_by
sent_here i v since e = rw (eq-eqb v.station.0 i e)

sent_there : (i : ℕ) (v : VisitRecord) (since : List VisitRecord) → v.station.0 ≢ i → sent_by i (v ∷ since) ≡ sent_by i since
unfolding sent_by
sent_there i v since n = rw (ne_eqb v.station.0 i n) (omega arith)

sent_none : (i : ℕ) → sent_by i [] ≡ 0
unfolding sent_by
sent_none i = refl

-- what has to follow from what the runs keep: of a ring that holds the message, and of a record that completes it
pub record Follows (t : Set) (m : Message) (K : Run → Type 0) (Waiting : Ring → Type 0) (Finished : VisitRecord → Type 0) : Type 0 where
  pub waits : (s : Run) → K s → 0 < at s.ring.rest m.station.0 → at s.ring.arrival m.station.0 ≡ m.arrival.0 → Waiting s.ring
  pub ends : (s : Run) → K s → (ask : Ask)
      → visit_number s.ring ask ≡ 0 → m.station.0 ≡ s.ring.token → at s.ring.arrival m.station.0 ≡ m.arrival.0
      → Completes t s ask → Finished (made s ask)

module _ (t : Set) (a : Alloc) (P : Plan t a) (K : Run → Type 0) (S : Steady t a K)
    (m : Message) (Waiting : Ring → Type 0) (Finished : VisitRecord → Type 0) (L : Follows t m K Waiting Finished) where
  -- the message completed, and as it is to be then
  abbrev Done : VisitRecord → List VisitRecord → Type 0
  Done v before = CompletedBy t m v before × Finished v

  abbrev Held : Ring → List Event → Type 0
  Held r since = StillHeld m r since × Waiting r

  still_held_lem : (s : Run) → K s → (since : List Event) → StillHeld m s.ring since → Held s.ring since
  still_held_lem s k since H = (H, L.waits s k H.held H.arrival)

  -- the visit as it is told
  abbrev told : Run → Ask → Event
  told s ask = a_visit (at s.ring.mark s.ring.token) (made s ask)

  module _ (s : Run) (k : K s) (since : List Event) (H : StillHeld m s.ring since) where
    -- ---- a visit more

    module _ (ask : Ask) (go : visit_number s.ring ask ≡ 0) where
      abbrev v : VisitRecord
      v = made s ask

      abbrev q : Ring
      q = (moved_run s ask).ring

      -- of another station
      other_visit : m.station.0 ≢ s.ring.token → StillHeld m q (told s ask ∷ since)
      other_visit b =
          let F = course_facts t a P s (S.common s k) ask go in
          let G = message_parts t a P s (S.common s k) ask go in
          record {
            held = rw (G.rest_there m.station.0 b) H.held;
            arrival = rw G.arrival H.arrival;
            parts = omega (arith, G.rest_there m.station.0 b, H.parts, sent_there m.station.0 v (records_in since) (λ e. b (sym e ∙ F.station)));
            unmarked = H.unmarked;
          }

      -- of its own station: completed
      own_completed : m.station.0 ≡ s.ring.token → Completing t s.ring q (sync_start_of t v) v → Done v (records_in since)
      own_completed b c =
          let F = course_facts t a P s (S.common s k) ask go in
          let G = message_parts t a P s (S.common s k) ask go in
          let rest : at s.ring.rest m.station.0 ≡ at s.ring.rest s.ring.token = ap (at s.ring.rest) b in
          let deadline : at s.ring.arrival s.ring.token + at t.d s.ring.token ≡ due_by t m = omega (arith, H.arrival, ap (at s.ring.arrival) b, ap (at t.d) b) in (
            record {
              station = F.station ∙ sym b;
              flag = c.flag;
              whole = omega (arith, sent_here m.station.0 v (records_in since) (F.station ∙ sym b), H.parts, G.rest_here, c.over);
              finish = c.finish;
              margin = c.margin ∙ ap (λ (x : ℕ). sub_ℕ x v.finish.0) deadline;
            },
            L.ends s k ask go b H.arrival c,
          )

      -- of its own station: something remains
      own_left : m.station.0 ≡ s.ring.token → 0 < at q.rest s.ring.token → StillHeld m q (told s ask ∷ since)
      own_left b left =
          let F = course_facts t a P s (S.common s k) ask go in
          let G = message_parts t a P s (S.common s k) ask go in
          let before : at s.ring.rest m.station.0 ≡ at s.ring.rest s.ring.token = ap (at s.ring.rest) b in
          let now : at q.rest m.station.0 ≡ at q.rest s.ring.token = ap (at q.rest) b in
          record {
            held = omega arith;
            arrival = rw G.arrival H.arrival;
            parts = omega (arith, sent_here m.station.0 v (records_in since) (F.station ∙ sym b), H.parts, G.rest_here);
            unmarked = H.unmarked;
          }

      own_visit : m.station.0 ≡ s.ring.token → StillHeld m q (told s ask ∷ since) ⊎ Done v (records_in since)
      own_visit b =
          ⊎_elim (λ (c : Completing t s.ring q (sync_start_of t v) v). inr (own_completed b c))
          (λ (c : Leaving s.ring q v).
          ⊎_elim (λ (z : at s.ring.rest s.ring.token ≡ 0). absurd (omega (arith, H.held, ap (at s.ring.rest) b)))
          (λ (z : 0 < at q.rest s.ring.token). inl (own_left b z))
          c.left)
          (message_parts t a P s (S.common s k) ask go).completing

      visit_more : StillHeld m q (told s ask ∷ since) ⊎ Done v (records_in since)
      visit_more =
          ⊎_elim own_visit (λ (b : m.station.0 ≢ s.ring.token). inl (other_visit b)) (same_or_not m.station.0 s.ring.token)

    -- ---- another message more: not at this station, which still holds one

    message_more : (o : Message) → hand_in_number s.ring o ≡ 0 → StillHeld m (held_run s o).ring (a_message o ∷ since)
    message_more o h =
        let A = message_facts t a P s (S.common s k) o h in
        let other : m.station.0 ≢ o.station.0 = λ e. absurd (omega (arith, H.held, A.free, ap (at s.ring.rest) e)) in
        record {
          held = rw (A.rest_there m.station.0 other) H.held;
          arrival = A.arrival_there m.station.0 other ∙ H.arrival;
          parts = omega (arith, A.rest_there m.station.0 other, H.parts);
          unmarked = H.unmarked;
        }

    -- ---- a mark set: of another station, or of its own, which takes it back

    module _ (p : Station) where
      abbrev answer : MarkAnswer
      answer = (marked s.ring p).answer

      other_mark : (marked s.ring p).answer.number ≡ 0 → p.0 ≢ m.station.0 → StillHeld m (marked_run s p).ring (a_marking p answer ∷ since)
      other_mark e b =
          let T = mark_takes s.ring (S.common s k).places p e in
          let W = mark_switching s.ring (S.common s k).places p in
          let same = T.there m.station.0 (λ x. b (sym x)) in
          record {
            held = rw same H.held;
            arrival = rw W.arrival H.arrival;
            parts = omega (arith, same, H.parts);
            unmarked = (b, H.unmarked);
          }

      own_mark : (marked s.ring p).answer.number ≡ 0 → p.0 ≡ m.station.0 → WithdrawnBy m p answer since
      own_mark e b =
          let T = mark_takes s.ring (S.common s k).places p e in
          let held : 0 < at s.ring.rest p.0 = rw b H.held in
          let off = (S.common s k).clear p.0 held in
          record {
            station = b;
            flag = T.flag off held;
            arrival = T.arrival off held ∙ ap (at s.ring.arrival) b ∙ H.arrival;
            unsent = omega (arith, T.rest off held, held);
            parts = omega (arith, T.rest off held, ap (at s.ring.rest) b, H.parts);
            first = H.unmarked;
          }

      -- ---- a mark taken off

      unmark_more : StillHeld m (unmarked_run s p).ring (an_unmarking p ∷ since)
      unmark_more =
          let W = unmark_switching s.ring (S.common s k).places p in
          let same = ap (λ (xs : List ℕ). at xs m.station.0) (unmark_rest s.ring (S.common s k).places p) in
          record {
            held = rw same H.held;
            arrival = rw W.arrival H.arrival;
            parts = omega (arith, same, H.parts);
            unmarked = H.unmarked;
          }

  -- ---- one call more

  abbrev Follow : Run → Run → Type 0
  Follow then now = Followed t m Waiting Finished then now

  -- what was over stays over
  abbrev Over : List Event → Type 0
  Over since = Somewhere Done (records_in since) ⊎ Withdrawn m since

  follow_visit : (then s : Run) (k : K s) (ask : Ask) → visit_number s.ring ask ≡ 0 → K (moved_run s ask) → Follow then s → Follow then (moved_run s ask)
  follow_visit then s k ask go n W =
      record {
        since = told s ask ∷ W.since;
        happened = ap (λ (l : List Event). told s ask ∷ l) W.happened;
        either =
            ⊎_elim (λ (H : Held s.ring W.since).
            ⊎_elim (λ (x : StillHeld m (moved_run s ask).ring (told s ask ∷ W.since)). inl (still_held_lem (moved_run s ask) n (told s ask ∷ W.since) x))
            (λ (x : Done (made s ask) (records_in W.since)). inr (inl (inl x)))
            (visit_more s k W.since H.0 ask go))
            (λ (x : Over W.since).
            ⊎_elim (λ (y : Somewhere Done (records_in W.since)). inr (inl (inr y))) (λ (y : Withdrawn m W.since). inr (inr y)) x)
            W.either;
      }

  follow_message : (then s : Run) (k : K s) (o : Message) → hand_in_number s.ring o ≡ 0 → K (held_run s o) → Follow then s → Follow then (held_run s o)
  follow_message then s k o h n W =
      record {
        since = a_message o ∷ W.since;
        happened = ap (λ (l : List Event). a_message o ∷ l) W.happened;
        either =
            ⊎_elim (λ (H : Held s.ring W.since). inl (still_held_lem (held_run s o) n (a_message o ∷ W.since) (message_more s k W.since H.0 o h)))
            (λ (x : Over W.since). inr x)
            W.either;
      }

  -- the marking of its own station ends it
  taken_back_lem : (then s : Run) (k : K s) (since : List Event) → s.events ≡ since ++ a_message m ∷ then.events → StillHeld m s.ring since
      → (p : Station) → (marked s.ring p).answer.number ≡ 0 → p.0 ≡ m.station.0 → Followed t m Waiting Finished then (marked_run s p)
  taken_back_lem then s k since happened H p h b =
      let event = a_marking p (marked s.ring p).answer in
      let back : Withdrawn m (event ∷ since) = inl (own_mark s k since H p h b) in
      record { since = event ∷ since; happened = ap (λ (l : List Event). event ∷ l) happened; either = inr (inr back) }

  follow_mark : (then s : Run) (k : K s) (p : Station) → (marked s.ring p).answer.number ≡ 0 → K (marked_run s p) → Follow then s → Follow then (marked_run s p)
  follow_mark then s k p h n W =
      let event = a_marking p (marked s.ring p).answer in
      let on : Held (marked_run s p).ring (event ∷ W.since) ⊎ Over (event ∷ W.since) → Follow then (marked_run s p) = λ x. record {
        since = event ∷ W.since;
        happened = ap (λ (l : List Event). event ∷ l) W.happened;
        either = x;
      } in
      ⊎_elim (λ (H : Held s.ring W.since).
      ⊎_elim (λ (b : p.0 ≡ m.station.0). taken_back_lem then s k W.since W.happened H.0 p h b)
      (λ (b : p.0 ≢ m.station.0). on (inl (still_held_lem (marked_run s p) n (event ∷ W.since) (other_mark s k W.since H.0 p h b))))
      (same_or_not p.0 m.station.0))
      (λ (x : Over W.since).
      on (inr (⊎_elim (λ (y : Somewhere Done (records_in W.since)). inl y) (λ (y : Withdrawn m W.since). inr (inr y)) x)))
      W.either

  follow_unmark : (then s : Run) (k : K s) (p : Station) → K (unmarked_run s p) → Follow then s → Follow then (unmarked_run s p)
  follow_unmark then s k p n W =
      record {
        since = an_unmarking p ∷ W.since;
        happened = ap (λ (l : List Event). an_unmarking p ∷ l) W.happened;
        either =
            ⊎_elim (λ (H : Held s.ring W.since). inl (still_held_lem (unmarked_run s p) n (an_unmarking p ∷ W.since) (unmark_more s k W.since H.0 p)))
            (λ (x : Over W.since). inr x)
            W.either;
      }

  follow_after : (then s : Run) → K s → (c : Call) → Follow then s → Follow then (after s c)
  follow_after then s k (visit ask) W =
      ⊎_elim (λ (h : (visit_number s.ring ask ≡ 0) × (after s (visit ask) ≡ moved_run s ask)).
      rw h.1 (follow_visit then s k ask h.0 (S.moves s k ask h.0) W))
      (λ (e : after s (visit ask) ≡ s). rw e W)
      (after_visit t a P s (S.common s k) ask)
  follow_after then s k (message o) W =
      ⊎_elim (λ (h : (hand_in_number s.ring o ≡ 0) × (after s (message o) ≡ held_run s o)).
      rw h.1 (follow_message then s k o h.0 (S.takes s k o h.0) W))
      (λ (e : after s (message o) ≡ s). rw e W)
      (after_message t a P s (S.common s k) o)
  follow_after then s k (mark p) W =
      ⊎_elim (λ (h : ((marked s.ring p).answer.number ≡ 0) × (after s (mark p) ≡ marked_run s p)).
      rw h.1 (follow_mark then s k p h.0 (S.marks s k p h.0) W))
      (λ (e : after s (mark p) ≡ s). rw e W)
      (after_mark s p)
  follow_after then s k (unmark p) W =
      ⊎_elim (λ (h : ((unmarked s.ring p).number ≡ 0) × (after s (unmark p) ≡ unmarked_run s p)).
      rw h.1 (follow_unmark then s k p (S.unmarks s k p h.0) W))
      (λ (e : after s (unmark p) ≡ s). rw e W)
      (after_unmark s p)

  follow_run : (then s : Run) → K s → (calls : List Call) → Follow then s → Follow then (run s calls)
  unfolding run
  follow_run then s k [] W = W
  follow_run then s k (c ∷ cs) W = follow_run then (after s c) (steady_after t a P K S s k c) cs (follow_after then s k c W)

  -- ---- from the handing in on

  module _ (s : Run) (k : K s) (taken : hand_in_number s.ring m ≡ 0) where
    followed_held : Follow s (held_run s m)
    followed_held =
        let A = message_facts t a P s (S.common s k) m taken in
        record {
          since = [];
          happened = refl;
          either =
              inl
              (still_held_lem (held_run s m) (S.takes s k m taken) []
              (record {
                held = rw A.rest_here A.length.0;
                arrival = A.arrival_here;
                parts = omega (arith, A.rest_here, sent_none m.station.0);
                unmarked = tt;
              }));
        }

    pub followed_from : (later : List Call) → Follow s (run (after s (message m)) later)
    followed_from later =
        let e = after_held t a P s (S.common s k) m taken in
        follow_run s (after s (message m)) (steady_after t a P K S s k (message m)) later (rw e followed_held)
