-- What every kind of ring promises, read off what every run keeps.
use Prim.Native.Nat.{ℕ, ◌≤◌, ◌<◌, min}
use mathlib.Core.Path.{◌≡◌, sym, ap, ◌∙◌}
use mathlib.Core.List.{List}
use mathlib.Core.Logic.{◌≢◌, ◌↔◌, ⊎_elim}
use mathlib.Core.Option.{none, some}
use native.Mathlib.Omega.{arith}
use Rattle.units.specs.Numbers.{most_clock}
use Rattle.units.specs.Places.{at}
use Rattle.sets.specs.declared.Set.{Set}
use Rattle.plans.specs.declared.Alloc.{Alloc}
use Rattle.rings.specs.Steps.{Ask, visit_number, visited}
use Rattle.rings.specs.HandingIn.{handed_in}
use Rattle.rings.proofs.RingLaws.{sound_sentences}
use Rattle.rings.specs.declared.Message.{Message}
use Rattle.rings.specs.declared.VisitRecord.{VisitRecord}
use Rattle.ring_rules.proofs.NumberLaws.{visited_number}
use Rattle.ring_rules.proofs.Promised.{promised as rules}
use Rattle.promises.specs.Run.{Call, Run, run_of, ring_of, records, messages}
use Rattle.promises.specs.History.{sync_start_of, latest_of, latest_for}
use Rattle.promises.specs.Facts.{timing, Sending, Silent}
use Rattle.promises.specs.Valid.{FramesNamed, Common}
use Rattle.promises.proofs.Course.{Plan, Unvisited, Since}
use Rattle.promises.proofs.Stores.{Latest, Never}
use Rattle.promises.proofs.Runs.{Kept, Steady, made, visit_goes, course_facts, message_parts, message_number_lem}
use Rattle.promises.proofs.Followed.{Follows, followed_from}

module _ (t : Set) (a : Alloc) (s : Run) (K : Kept t a s) where
  -- ---- visits

  never_8 : (ask : Ask) → (visited s.ring ask).answer.number ≢ 8
  never_8 ask e = (rules.visit_eight s.ring ask).0 e (sound_sentences s.ring K.sound)

  goes_exactly : (ask : Ask) → ((visited s.ring ask).answer.number ≡ 0) ↔ (FramesNamed t ask × (s.ring.clock ≤ most_clock))
  goes_exactly ask =
      let F = ap (λ (x : Set). x.head.frame) K.course.set in
      let exactly = rules.visit_none s.ring ask in (
        λ e. let g = (exactly.0 e).1 in ((g.0.0, omega (arith, g.0.1, F)), g.1),
        λ g. exactly.1 (sound_sentences s.ring K.sound, ((g.0.0, omega (arith, g.0.1, F)), g.1)),
      )

  -- ---- messages

  message_never_8 : (m : Message) → (handed_in s.ring m).number ≢ 8
  message_never_8 m e = (rules.message_eight s.ring m).0 e (sound_sentences s.ring K.sound)

  -- ---- the last start and the last message of a station

  pub last_is : (i : ℕ) → i < t.n → (u : VisitRecord) → latest_of i (records s) ≡ some u → (i < s.ring.visits) × (at s.ring.last i ≡ sync_start_of t u)
  last_is i l u e =
      ⊎_elim (λ (x : Unvisited (timing s.ring) (records s) i). let z : ◌≡◌ {A = ℕ} 0 1 = cc (e, x.latest) in absurd (omega arith))
      (λ (x : (w : VisitRecord) × Since t (timing s.ring) (records s) i w).
      let same : x.0 ≡ u = cc (e, x.1.latest) in
      (x.1.counted, x.1.last ∙ ap (sync_start_of t) same))
      (K.course.arrived i l)

  last_is_not : (i : ℕ) → i < t.n → latest_of i (records s) ≡ none → s.ring.visits ≤ i
  last_is_not i l e =
      ⊎_elim (λ (x : Unvisited (timing s.ring) (records s) i). x.early)
      (λ (x : (w : VisitRecord) × Since t (timing s.ring) (records s) i w). let z : ◌≡◌ {A = ℕ} 0 1 = cc (e, x.1.latest) in absurd (omega arith))
      (K.course.arrived i l)

  message_is : (i : ℕ) (m : Message) → latest_for i (messages s) ≡ some m → (at s.ring.had i ≢ 0) × (at s.ring.arrival i ≡ m.arrival.0)
  message_is i m e =
      ⊎_elim (λ (x : Never s.ring (messages s) i). let z : ◌≡◌ {A = ℕ} 0 1 = cc (e, x.latest) in absurd (omega arith))
      (λ (x : (o : Message) × Latest s.ring (messages s) i o).
      let same : x.0 ≡ m = cc (e, x.1.latest) in
      (x.1.had, x.1.arrival ∙ ap (λ (o : Message). o.arrival.0) same))
      (K.told i)

  message_is_not : (i : ℕ) → latest_for i (messages s) ≡ none → at s.ring.had i ≡ 0
  message_is_not i e =
      ⊎_elim (λ (x : Never s.ring (messages s) i). x.had)
      (λ (x : (o : Message) × Latest s.ring (messages s) i o). let z : ◌≡◌ {A = ℕ} 0 1 = cc (e, x.1.latest) in absurd (omega arith))
      (K.told i)

-- ---- what is held is served

module _ (t : Set) (a : Alloc) (P : Plan t a) (s : Run) (K : Kept t a s) where
  -- what is held has arrived, so nothing is sent only where none is held
  made_serves : (ask : Ask) → visit_number s.ring ask ≡ 0 → (made s ask).synchronous.0 ≡ min (at a.s s.ring.token) (at s.ring.rest s.ring.token)
  made_serves ask go =
      let r = s.ring in
      let v = made s ask in
      let C = course_facts t a P s K ask go in
      ⊎_elim (λ (x : Sending a r (sync_start_of t v) v). x.amount)
      (λ (x : Silent r (sync_start_of t v) v).
      ⊎_elim (λ (none : at r.rest r.token ≡ 0). omega (arith, x.nothing))
      (λ (late : sync_start_of t v < at r.arrival r.token). absurd (omega (arith, C.start, K.passed.arrived r.token)))
      x.reason)
      (message_parts t a P s K ask go).sending

  visit_serves : (ask : Ask) → (visited s.ring ask).answer.number ≡ 0
      → (visited s.ring ask).answer.«record».synchronous.0 ≡ min (at a.s s.ring.token) (at s.ring.rest s.ring.token)
  visit_serves ask e =
      let go : visit_number s.ring ask ≡ 0 = sym (visited_number (visit_number s.ring ask) s.ring ask) ∙ e in
      rw (visit_goes s.ring ask go) (made_serves ask go)

-- ---- all of it

module _ (t : Set) (a : Alloc) (P : Plan t a) (K : Run → Type 0) (S : Steady t a K) (every : (calls : List Call) → K (run_of t a calls)) where
  to_the_end : (m : Message) → Follows t m K (λ r. Unit {0}) (λ v. Unit {0})
  to_the_end m = record { waits = λ s k h e. tt; ends = λ s k ask go b e c. tt }

  kept : (calls : List Call) → Kept t a (run_of t a calls)
  kept calls = S.common (run_of t a calls) (every calls)

  pub common : Common t a
  common =
      record {
        in_turn = λ calls. (kept calls).turns;
        share_kept = λ calls. (kept calls).shares;
        marks = λ calls. (kept calls).marks;
        marks_told = λ calls. (kept calls).marks_told;
        walked_through = λ calls. (kept calls).walked;
        clear = λ calls. (kept calls).clear;
        arrived = λ calls i _. (kept calls).passed.arrived i;
        serves = λ calls. visit_serves t a P (run_of t a calls) (kept calls);
        no_15 = λ calls m come e. ((rules.message_fifteen (ring_of t a calls) m).0 e).1.1.1.1 come;
        followed = λ calls m h later.
            followed_from t a P K S m (λ r. Unit {0}) (λ v. Unit {0}) (to_the_end m) (run_of t a calls) (every calls) (sym (message_number_lem (ring_of t a calls) m) ∙ h) later;
        sound = λ calls. sound_sentences (ring_of t a calls) (kept calls).sound;
        no_visit_8 = λ calls. never_8 t a (run_of t a calls) (kept calls);
        no_message_8 = λ calls. message_never_8 t a (run_of t a calls) (kept calls);
        no_mark_8 = λ calls p e. (rules.mark_eight (ring_of t a calls) p).0 e (sound_sentences (ring_of t a calls) (kept calls).sound);
        no_unmark_8 = λ calls p e. (rules.mark_eight (ring_of t a calls) p).0 (sym (rules.unmark_number (ring_of t a calls) p) ∙ e) (sound_sentences (ring_of t a calls) (kept calls).sound);
        goes = λ calls. goes_exactly t a (run_of t a calls) (kept calls);
        counted = λ calls. (kept calls).course.counted;
        bounded = λ calls. omega (arith, (kept calls).course.counted, (kept calls).range.bounded);
        last_start = λ calls. last_is t a (run_of t a calls) (kept calls);
        no_start = λ calls. last_is_not t a (run_of t a calls) (kept calls);
        last_message = λ calls i _. message_is t a (run_of t a calls) (kept calls) i;
        no_message = λ calls i _. message_is_not t a (run_of t a calls) (kept calls) i;
      }
