-- What every visit keeps, whatever its timers are: the plan stays, the stations come in turn, s is within S, the count and the starts are those of the records, and the clock walks with every rotation.
-- Nothing of it asks where the clock stands: it holds of a ring that runs on past the last start too. What the clock's top ends is `InRange`.
use Prim.Native.Nat.{ℕ, zero, suc, ◌+◌, ◌*◌, ◌≤◌, ◌<◌}
use mathlib.Core.Path.{◌≡◌, sym, ap, ◌∙◌}
use mathlib.Core.Bool.{Bool, true, false}
use mathlib.Core.List.{List, ◌∷◌}
use mathlib.Core.Logic.{◌⊎◌, inl, inr, ◌≢◌, ⊎_elim}
use mathlib.Core.Option.{none, some}
use native.Mathlib.Nat.{mul-le-mul_left, le-mul_of_pos_right}
use native.Mathlib.Numerals.{add-one}
use native.Mathlib.Omega.{arith}
use borrow.Author.Tests.{lt-ltb, le-ltb, eq-eqb, ne_eqb}
use lib.ListN.{length}
use Rattle.units.specs.Numbers.{most_clock, most_ttrt, most_stations}
use Rattle.units.specs.Places.{at, sum_below}
use Rattle.units.proofs.PlaceLaws.{sum_step, sum_none}
use Rattle.units.proofs.SmallLaws.{below_or_not, one_more_lem}
use Rattle.sets.specs.Rules.{tau}
use Rattle.sets.specs.declared.Set.{Set}
use Rattle.plans.specs.Rules.{least_time}
use Rattle.plans.specs.Planned.{judged_plan}
use Rattle.plans.specs.declared.Alloc.{Alloc}
use Rattle.rings.specs.State.{following}
use Rattle.rings.specs.Timers.{Fddi}
use Rattle.rings.specs.declared.VisitRecord.{VisitRecord}
use Rattle.promises.specs.History.{overrun_of, sync_start_of, latest, visit_of, latest_of, due}
use Rattle.promises.specs.Facts.{Timing, VisitCourse, rises}

-- ---- what an accepted plan gives
pub record Plan (t : Set) (a : Alloc) : Type 0 where
  pub judged : judged_plan t a ≡ 0
  pub some : 1 ≤ t.n
  pub few : t.n ≤ 128
  pub rotation : (1 ≤ t.head.ttrt) × (t.head.ttrt ≤ most_ttrt)
  pub walk : 1 ≤ tau t
  pub token : sum_below t.n (at a.s) + tau t + overrun_of t ≤ t.head.ttrt
  pub deadlines : ¬ Fddi t → (i : ℕ) → i < t.n → at t.c i ≤ least_time t.head.ttrt (at t.d i) (at a.s i)
  pub gaps : (i : ℕ) → i < t.n → at t.d i ≤ at t.p i

-- ---- what is kept

-- station i has not been visited
pub record Unvisited (r : Timing) (h : List VisitRecord) (i : ℕ) : Type 0 where
  pub latest : latest_of i h ≡ none
  pub early : r.visits ≤ i
  pub nothing : at r.sent i ≡ 0

-- station i was visited, by u at last
pub record Since (t : Set) (r : Timing) (h : List VisitRecord) (i : ℕ) (u : VisitRecord) : Type 0 where
  pub latest : latest_of i h ≡ some u
  pub counted : i < r.visits
  pub last : at r.last i ≡ sync_start_of t u

abbrev pub Arrived : Set → Timing → List VisitRecord → ℕ → Type 0
Arrived t r h i = Unvisited r h i ⊎ ((u : VisitRecord) × Since t r h i u)

-- k whole rotations, and the visits since: the clock has moved by their walk times at least
pub record Rounds (t : Set) (r : Timing) (k : ℕ) : Type 0 where
  pub visits : r.visits ≡ k * t.n + r.token
  pub walked : k * tau t + sum_below r.token (at t.w) ≤ r.clock

pub record Course (t : Set) (a : Alloc) (r : Timing) (h : List VisitRecord) : Type 0 where
  pub set : r.set ≡ t
  pub alloc : r.alloc ≡ a
  pub token : r.token < t.n
  pub turn : r.token ≡ due t.n h
  pub counted : r.visits ≡ length h
  pub rounds : (k : ℕ) × Rounds t r k
  pub sents : (i : ℕ) → i < t.n → at r.sent i ≤ at a.s i
  pub arrived : (i : ℕ) → i < t.n → Arrived t r h i

-- the clock and the count of a ring whose visits all started by the clock's top
pub record InRange (t : Set) (r : Timing) : Type 0 where
  pub bounded : r.visits ≤ most_stations * (most_clock + 1)
  pub clock : r.clock ≤ most_clock + 2 * t.head.ttrt

-- ---- the station after

following_next : (n i : ℕ) → i + 1 < n → following n i ≡ i + 1
unfolding following
following_next n i l = rw (lt-ltb (i + 1) n l)

following_wraps : (n i : ℕ) → n ≤ i + 1 → following n i ≡ 0
unfolding following
following_wraps n i l = rw (le-ltb (i + 1) n l)

-- from station i the token goes to the next
abbrev pub ToNext : ℕ → ℕ → Type 0
ToNext n i = (i + 1 < n) × (following n i ≡ i + 1)

-- or from the last to station 0
abbrev pub ToFirst : ℕ → ℕ → Type 0
ToFirst n i = (i + 1 ≡ n) × (following n i ≡ 0)

pub following_is : (n i : ℕ) → i < n → ToNext n i ⊎ ToFirst n i
following_is n i l =
    ⊎_elim (λ (b : i + 1 < n). inl (b, following_next n i b))
    (λ (b : n ≤ i + 1). inr (omega arith, following_wraps n i b))
    (below_or_not (i + 1) n)

-- ---- the latest of a list that is so

pub latest_here : {A : Type 0} (is : A → Bool) (x : A) (before : List A) → is x ≡ true → latest is (x ∷ before) ≡ some x
unfolding latest
latest_here is x before e = rw e

pub latest_there : {A : Type 0} (is : A → Bool) (x : A) (before : List A) → is x ≡ false → latest is (x ∷ before) ≡ latest is before
unfolding latest
latest_there is x before e = rw e

-- ---- two stations are the same, or they are not

pub same_or_not : (i j : ℕ) → (i ≡ j) ⊎ (i ≢ j)
same_or_not i j =
    ⊎_elim (λ (b : i < j). inr (omega arith))
    (λ (b : j ≤ i). ⊎_elim (λ (d : j < i). inr (omega arith)) (λ (d : i ≤ j). inl (omega arith)) (below_or_not j i))
    (below_or_not i j)

-- no visit was yet where the count has not passed the station's number
first_rotation : (t : Set) (r : Timing) (i k : ℕ) → Rounds t r k → i < t.n → r.visits ≡ i → r.token ≡ i
first_rotation t r i zero g l e = omega (arith, g.visits)
first_rotation t r i (suc k) g l e = absurd (omega (arith, g.visits))

-- ---- one visit more

module _ (t : Set) (a : Alloc) (r q : Timing) (v : VisitRecord) (h : List VisitRecord) (P : Plan t a) (C : Course t a r h) (F : VisitCourse t a r q v) where
  -- the walk time is the station's
  pub at_token : at t.w v.station.0 ≡ at t.w r.token
  at_token = ap (at t.w) F.station

  -- it is the latest visit of its own station, and no other station's
  pub latest_own : latest_of r.token (v ∷ h) ≡ some v
  latest_own = latest_here (visit_of r.token) v h (eq-eqb v.station.0 r.token F.station)

  pub latest_other : (i : ℕ) → i ≢ r.token → latest_of i (v ∷ h) ≡ latest_of i h
  latest_other i b = latest_there (visit_of i) v h (ne_eqb v.station.0 i (λ e. b (sym e ∙ F.station)))

  token_known : q.token < t.n
  token_known =
      ⊎_elim (λ (b : ToNext t.n r.token). omega (arith, F.token, b.0, b.1))
      (λ (b : ToFirst t.n r.token). omega (arith, F.token, b.1, C.token))
      (following_is t.n r.token C.token)

  rounds_kept : (k : ℕ) × Rounds t q k
  rounds_kept =
      let k = C.rounds.0 in
      let g = C.rounds.1 in
      ⊎_elim (λ (b : ToNext t.n r.token).
      let e : q.token ≡ r.token + 1 = F.token ∙ b.1 in
      (k, record { visits = omega (arith, g.visits, F.visits); walked = rw e (omega (arith, g.walked, F.clock, at_token, sum_step r.token (at t.w))) }))
      (λ (b : ToFirst t.n r.token).
      let e : q.token ≡ 0 = F.token ∙ b.1 in (
        k + 1,
        record {
          visits = omega (arith, g.visits, F.visits, one_more_lem k t.n);
          walked = rw e (omega (arith, g.walked, F.clock, at_token, one_more_lem k (tau t), sum_none (at t.w), sum_step r.token (at t.w), ap (λ (z : ℕ). sum_below z (at t.w)) b.0));
        },
      ))
      (following_is t.n r.token C.token)

  -- the visits before this one made k rotations, each of a tick at least, by a clock at which a visit may start
  bounded_kept : r.clock ≤ most_clock → q.visits ≤ most_stations * (most_clock + 1)
  bounded_kept early =
      let k = C.rounds.0 in
      let g = C.rounds.1 in
      omega
      (arith, g.visits, g.walked, C.token, F.visits, P.few, mul-le-mul_left k P.few, le-mul_of_pos_right k P.walk)

  sents_kept : (i : ℕ) → i < t.n → at q.sent i ≤ at a.s i
  sents_kept i l =
      ⊎_elim (λ (b : i ≡ r.token). rw (b, F.sent_here) F.within)
      (λ (b : i ≢ r.token). rw (F.sent_there i b) (C.sents i l))
      (same_or_not i r.token)

  arrived_kept : (i : ℕ) → i < t.n → Arrived t q (v ∷ h) i
  arrived_kept i l =
      ⊎_elim (λ (b : i ≡ r.token).
      rw b
      (inr (v, record { latest = latest_own; counted = omega (arith, F.visits, C.rounds.1.visits); last = F.last_here })))
      (λ (b : i ≢ r.token).
      let other : r.visits ≢ i = λ e. b (sym (first_rotation t r i C.rounds.0 C.rounds.1 l e)) in
      ⊎_elim (λ (u : Unvisited r h i).
      inl
      (record {
        latest = latest_other i b ∙ u.latest;
        early = omega (arith, u.early, F.visits);
        nothing = F.sent_there i b ∙ u.nothing;
      }))
      (λ (u : (w : VisitRecord) × Since t r h i w).
      inr (
        u.0,
        record {
          latest = latest_other i b ∙ u.1.latest;
          counted = omega (arith, u.1.counted, F.visits);
          last = F.last_there i b ∙ u.1.last;
        },
      ))
      (C.arrived i l))
      (same_or_not i r.token)

  pub range_kept : rises t v ≤ 2 * t.head.ttrt → r.clock ≤ most_clock → InRange t q
  range_kept short early = record { bounded = bounded_kept early; clock = omega (arith, F.clock) }

  pub course_kept : Course t a q (v ∷ h)
  unfolding due
  course_kept =
      record {
        set = F.set;
        alloc = F.alloc;
        token = token_known;
        turn = F.token ∙ ap (following t.n) (sym F.station);
        counted = F.visits ∙ add-one r.visits ∙ ap suc C.counted;
        rounds = rounds_kept;
        sents = sents_kept;
        arrived = arrived_kept;
      }
