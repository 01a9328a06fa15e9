-- What a mark does to the visits behind it: its own station's are offered and send nothing, and to those of other stations nothing. The ring has each station's last mark, since a mark sets its own place alone.
use Prim.Native.Nat.{ℕ, zero, suc, ◌≤◌, ◌<◌}
use mathlib.Core.Path.{◌≡◌, refl, ap, ◌∙◌}
use mathlib.Core.Bool.{cond}
use mathlib.Core.List.{List, [], ◌∷◌, map}
use mathlib.Core.Logic.{◌≢◌, ⊎_elim}
use native.Mathlib.Omega.{arith}
use borrow.Author.Tests.{eq-eqb, ne_eqb}
use lib.Dec.{eqb}
use lib.ListN.{set}
use lib.Seq.{get_or-set_same, get_or-set_other}
use Rattle.units.specs.Places.{at}
use Rattle.units.proofs.PlaceLaws.{zero_at}
use Rattle.sets.specs.declared.Set.{Set}
use Rattle.plans.specs.Planned.{judged_plan}
use Rattle.plans.specs.declared.Alloc.{Alloc}
use Rattle.log_records.specs.declared.VisitEntry.{VisitEntry}
use Rattle.log_records.specs.declared.MarkEntry.{MarkEntry}
use Rattle.log_records.specs.declared.Entry.{Entry}
use Rattle.log_records.specs.declared.Entry.TheVariants.{Visit, Mark}
use Rattle.rings.specs.State.{share, Marked, Unmarked, Shaped, Messages, with_messages}
use Rattle.rings.specs.Timers.{timers_offer, limit}
use Rattle.rings.proofs.TimerLaws.{marked_or_not, limit_marked, limit_unmarked}
use Rattle.rings.specs.Opening.{opened_ring}
use Rattle.rings.specs.Steps.{most_sent, moved}
use Rattle.rings.proofs.RingLaws.{most_marked, most_unmarked}
use Rattle.rings.proofs.FrameLaws.{frames_none}
use Rattle.rings.specs.Marking.{switched_through, switched_in}
use Rattle.rings.proofs.MarkLaws.{ring_marked, ring_unmarked}
use Rattle.rings.specs.declared.Ring.{Ring}
use Rattle.promises.proofs.Course.{same_or_not}
use Rattle.promises.proofs.Opening.{plan_of_lem}
use Rattle.inspection_rules.specs.Gives.{CouldVisit, switched, ring_with, ring_after, GivesFrom, Gives}
use Rattle.inspection_rules.specs.Broken.{mark_from, mark_after}
use Rattle.inspection_rules.proofs.Reaching.{Reached, reached_opened}
use Rattle.inspection_rules.proofs.Following.{reached_with}
use Rattle.inspection_rules.proofs.Finding.{set_is, reaches}

-- ---- the last mark of a station

module _ (i mark : ℕ) (inside : i < 128) (r : Ring) (L : Shaped r) (was : at r.mark i ≡ mark) (small : mark ≤ 1) where
  set_mark : (p now : ℕ) → at (set r.mark p now) i ≡ cond (eqb p i) now mark
  set_mark p now =
      ⊎_elim (λ (q : p ≡ i). rw (eq-eqb p i q, q) (get_or-set_same r.mark i now 0 (omega (arith, inside, L.mark))))
      (λ (d : p ≢ i). rw (ne_eqb p i d) (get_or-set_other r.mark p i now 0 (λ e. omega (arith, d, e)) ∙ was))
      (same_or_not p i)

  -- a mark that is there stays, and is 1
  kept_mark : (p : ℕ) → Marked r p → at r.mark i ≡ cond (eqb p i) 1 mark
  kept_mark p on =
      ⊎_elim (λ (q : p ≡ i). let here : 0 < at r.mark i = rw q at on in rw (eq-eqb p i q) (omega (arith, here, was, small)))
      (λ (d : p ≢ i). rw (ne_eqb p i d) was)
      (same_or_not p i)

  switched_mark : (p now : ℕ) → now < 2 → at (switched r p now).mark i ≡ cond (eqb p i) now mark
  unfolding switched switched_in switched_through
  switched_mark p zero l = set_mark p 0
  switched_mark p (suc k) l =
      let one : suc k ≡ 1 = omega arith in
      rw one
      (⊎_elim (λ (on : Marked r p). rw (ring_marked r p on) (kept_mark p on)) (λ (off : Unmarked r p). rw (ring_unmarked r p off) (set_mark p 1)) (marked_or_not r p))

  small_mark : (p now : ℕ) → now < 2 → cond (eqb p i) now mark ≤ 1
  small_mark p now l =
      ⊎_elim (λ (q : p ≡ i). rw (eq-eqb p i q) (omega arith)) (λ (d : p ≢ i). rw (ne_eqb p i d) small) (same_or_not p i)

marks_from : (counter i : ℕ) → i < 128 → (r : Ring) (es : List Entry) (mark : ℕ) → Reached r → GivesFrom counter r es → at r.mark i ≡ mark → mark ≤ 1
    → at (ring_after r es).mark i ≡ mark_from i mark es
unfolding ring_after moved mark_from
marks_from counter i inside r [] mark K g was small = was
marks_from counter i inside r (Visit v ∷ es) mark K g was small =
    marks_from counter i inside (moved r v.synchronous v.asynchronous) es mark (reached_with counter r (Visit v) K g.0) g.1 was small
marks_from counter i inside r (Mark m ∷ es) mark K g was small =
    marks_from counter i inside (switched r m.station m.mark) es (cond (eqb m.station i) m.mark mark) (reached_with counter r (Mark m) K g.0) g.1
    (switched_mark i mark inside r K.goes.shaped was small m.station m.mark g.0.1)
    (small_mark i mark inside r K.goes.shaped was small m.station m.mark g.0.1)

module _ (t : Set) (a : Alloc) (before : List Entry) where
  abbrev now : Ring
  now = ring_after (opened_ring t a) before

  module _ (h : judged_plan t a ≡ 0) (g : Gives t a before) where
    pub marks_after : (i : ℕ) → i < t.n → at now.mark i ≡ mark_after i before
    unfolding opened_ring
    marks_after i l = marks_from g.0 i (omega (arith, l, (plan_of_lem t a h).few)) (opened_ring t a) before 0 (reached_opened t a h) g.1 (zero_at i) (omega arith)

    -- the station that has the token
    token_mark : at now.mark now.token ≡ mark_after now.token before
    token_mark = marks_after now.token (omega (arith, (reaches t a h g.0 before g.1).goes.course.token, ap (λ (x : Set). x.n) (set_is t a h before)))

    pub judged_in : mark_after now.token before ≡ 0 → (limit now ≡ timers_offer now) × (most_sent now ≡ share now now.token)
    judged_in z = (limit_unmarked now (token_mark ∙ z), most_unmarked now (token_mark ∙ z))

  pub walks_through : (counter : ℕ) (v : VisitEntry) → judged_plan t a ≡ 0 → Gives t a before → 0 < mark_after now.token before → CouldVisit counter now v
      → (v.limit ≡ 0) × ((v.synchronous ≡ 0) × (v.asynchronous ≡ 0))
  walks_through counter v h g last C =
      let on : Marked now now.token = omega (arith, token_mark h g, last) in
      let shut = limit_marked now on in (
        C.offered ∙ shut,
        (omega (arith, C.synchronous, most_marked now on), C.asynchronous.sent ∙ rw shut (frames_none C.asynchronous.ask)),
      )

-- ---- other stations

module _ (r : Ring) where
  abbrev Alike : Ring → Type 0
  Alike q = (limit q ≡ limit r) × (most_sent q ≡ most_sent r)

  -- only the mark of the token's station is looked at
  messages_alike : (m : Messages) → at m.mark r.token ≡ at r.mark r.token → Alike (with_messages m r)
  unfolding timers_offer limit most_sent
  messages_alike m e = (rw e refl, rw e refl)

  switched_alike : (i on : ℕ) → i ≢ r.token → Alike (switched r i on)
  unfolding switched switched_in switched_through
  switched_alike i zero other = messages_alike _ (get_or-set_other r.mark i r.token 0 0 (λ e. omega (arith, other, e)))
  switched_alike i (suc k) other =
      ⊎_elim (λ (on : Marked r i). rw (ring_marked r i on) (refl, refl))
      (λ (off : Unmarked r i). rw (ring_unmarked r i off) (messages_alike _ (get_or-set_other r.mark i r.token 1 0 (λ e. omega (arith, other, e)))))
      (marked_or_not r i)

pub marks_alone : (r : Ring) (m : MarkEntry) → m.station ≢ r.token → (limit (ring_with r (Mark m)) ≡ limit r) × (most_sent (ring_with r (Mark m)) ≡ most_sent r)
marks_alone r m other = switched_alike r m.station m.mark other

-- ---- no marks

plain : (r : Ring) (vs : List VisitEntry) → ((i : ℕ) → Unmarked r i) → (i : ℕ) → Unmarked (ring_after r (map Visit vs)) i
unfolding ring_after moved
plain r [] none i = none i
plain r (v ∷ vs) none i = plain (moved r v.synchronous v.asynchronous) vs none i

pub nothing_new : (t : Set) (a : Alloc) (vs : List VisitEntry) → let r = ring_after (opened_ring t a) (map Visit vs) in (limit r ≡ timers_offer r) × (most_sent r ≡ share r r.token)
unfolding opened_ring
nothing_new t a vs =
    let r = ring_after (opened_ring t a) (map Visit vs) in
    let off : Unmarked r r.token = plain (opened_ring t a) vs zero_at r.token in
    (limit_unmarked r off, most_unmarked r off)
