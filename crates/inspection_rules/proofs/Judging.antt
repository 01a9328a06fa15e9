-- Each test of a record decides the rule that it is for, and the first test that fails is that of the first rule that is broken.
use Prim.Native.Nat.{ℕ, zero, suc, ◌+◌, ◌-◌, ◌*◌, ◌/◌, ◌%◌, ◌^◌, ◌≤◌, ◌<◌}
use mathlib.Core.Path.{◌≡◌, refl, sym, ap, ◌∙◌}
use mathlib.Core.Bool.{Bool, true, false, ◌||◌}
use mathlib.Core.List.{List, [], ◌∷◌}
use mathlib.Core.Logic.{◌≢◌, ⊎_elim, ◌↔◌}
use mathlib.Core.Option.{none, some}
use native.Mathlib.Nat.{mul-mod_left, mul_comm, div-add-mod', div-le_self, mul-le-mul_right}
use native.Mathlib.Omega.{arith}
use borrow.Author.Tests.{eqb-true, eq-eqb, ne_eqb, ltb-true, lt-ltb}
use lib.Dec.{eqb}
use lib.ListN.{length, get_or}
use Rattle.units.specs.Small.{rounded_up}
use Rattle.units.proofs.SmallLaws.{below_or_not, one_more_lem, shares_enough}
use Rattle.units.proofs.JudgingLaws.{true_or_false, and-true, true_and, decides_le, held, failed, passed}
use Rattle.units.specs.Judging.{Decides}
use Rattle.plans.proofs.PlanLaws.{given_none}
use Rattle.log_records.specs.declared.VisitEntry.{VisitEntry}
use Rattle.log_records.specs.declared.MarkEntry.{MarkEntry}
use Rattle.log_records.specs.declared.Entry.{Entry}
use Rattle.log_records.specs.declared.Entry.TheVariants.{Visit, Mark}
use Rattle.rings.specs.Timers.{limit}
use Rattle.rings.specs.Frames.{frames_from, frames_sent, frames_time}
use Rattle.rings.proofs.FrameLaws.{frames_sent_lem, frames_within}
use Rattle.rings.specs.Steps.{Ask}
use Rattle.rings.specs.declared.Ring.{Ring}
use Rattle.inspection.specs.Counter.{ticks_later, ticks_between}
use Rattle.inspection.specs.Frames.{given_by, frames_fit}
use Rattle.inspection.specs.Rules.{expected, rules_kept, first_failed}
use Rattle.inspection.specs.declared.Inspection.{Inspection}
use Rattle.inspection.proofs.FrameLaws.{any_of, any_at}
use Rattle.inspection_rules.specs.Gives.{Asked}
use Rattle.inspection_rules.specs.Broken.{StartRule, VisitRule, OnlyRule, RuleOf, last_of, took}
use Rattle.inspection_rules.specs.Promised.{Started}
use Rattle.inspection_rules.proofs.Reaching.{Reached, plan, limit_small}
use Rattle.inspection_rules.proofs.Standing.{due_between, Stands, place_is, limit_is, most_is}
use Rattle.inspection_rules.proofs.Following.{some_or_none}

-- ---- frames

module _ (limit longest amount : ℕ) where
  -- frames that some request sends are whole ones of one length, the last one begun below the limit
  pub sent_fits : (ask : Ask) → 1 ≤ ask.length → ask.length ≤ longest → amount ≡ frames_time limit ask → frames_fit limit longest amount ≡ true
  unfolding frames_fit
  sent_fits ask low high is =
      let l = ask.length in
      let e : l - 1 + 1 ≡ l = omega arith in
      let whole : amount % l ≡ 0 = ap (λ (x : ℕ). x % l) is ∙ mul-mod_left (frames_sent limit ask) l in
      let short : amount < limit + l = omega (arith, frames_within limit ask low) in
      or_second (eqb amount 0) _
      (any_of longest (λ k. given_by limit amount (k + 1)) (l - 1) (omega arith) (rw e (true_and _ _ (eq-eqb (amount % l) 0 whole) (lt-ltb amount (limit + l) short))))
    where
      or_second : (a b : Bool) → b ≡ true → (a || b) ≡ true
      or_second true b h = refl
      or_second false b h = h

  -- and such frames can be asked for
  pub fits_sent : 1 ≤ longest → frames_fit limit longest amount ≡ true
      → (ask : Ask) × ((ask.frames ≤ amount) × ((1 ≤ ask.length) × (ask.length ≤ longest)) × (amount ≡ frames_time limit ask))
  unfolding frames_fit frames_from
  fits_sent one h =
      ⊎_elim (λ (z : eqb amount 0 ≡ true).
      let nothing : amount ≡ 0 = eqb-true amount 0 z in
      (record { frames = 0; length = 1 }, (omega arith, (omega arith, one), nothing)))
      (λ (z : eqb amount 0 ≡ false).
      let w = any_at longest (λ k. given_by limit amount (k + 1)) (rw z at h) in
      let l = w.0 + 1 in
      let both = and-true _ _ w.1.1 in
      let whole : amount % l ≡ 0 = eqb-true _ _ both.0 in
      let short : amount < limit + l = ltb-true _ _ both.1 in
      let frames = amount / l in
      let ask : Ask = record { frames = frames; length = l } in
      let is : amount ≡ frames * l = omega (arith, div-add-mod' amount l) in
      let most = rounded_up limit l in
      let few : frames ≤ most =
      ⊎_elim (λ (b : most < frames). absurd (omega (arith, mul-le-mul_right l b, one_more_lem most l, shares_enough limit l (omega arith), mul_comm l most)))
      (λ (b : frames ≤ most). b)
      (below_or_not most frames) in
      let sent : frames_sent limit ask ≡ frames = frames_sent_lem limit ask (omega arith) ∙ omega arith in
      (ask, (div-le_self amount l, (omega arith, omega (arith, w.1.0)), is ∙ ap (λ (x : ℕ). x * l) (sym sent))))
      (true_or_false (eqb amount 0))

-- an amount fits exactly if some request sends it
pub asked_decides : (r : Ring) → Reached r → (amount : ℕ) → Decides (frames_fit (limit r) r.set.head.frame amount) (Asked r amount)
asked_decides r K amount =
    let frame = ((given_none r.set r.alloc).0 K.goes.judged).1.0.0.header.frame in (
      λ h.
          let w = fits_sent (limit r) r.set.head.frame amount frame.0 h in
          let short = frames_within (limit r) w.0 w.1.1.0 in
          record {
            ask = w.0;
            frames = omega (arith, w.1.0, w.1.1.1, w.1.2, frame.1, limit_small r K, (plan r K).rotation.1);
            named = w.1.1;
            sent = w.1.2;
          },
      λ A. sent_fits (limit r) r.set.head.frame amount A.ask A.named.0 A.named.1 A.sent,
    )

-- ---- the tests of a record

module _ (counter : ℕ) (r : Ring) (K : Reached r) (s : Inspection) (S : Stands counter r s) (before : List Entry) where
  -- the last visit before, if there is one, and what it took lead to the ring's clock
  pub record Behind : Type 0 where
    pub visited : (b : VisitEntry) → last_of before ≡ some b → 0 < r.visits
    pub unvisited : last_of before ≡ none → r.visits ≡ 0
    pub led : (b : VisitEntry) → last_of before ≡ some b → (counter + r.clock) % 2 ^ 32 ≡ (b.start + took r.set b) % 2 ^ 32

  module _ (B : Behind) where
    start_decides : (v : VisitEntry) → v.start < 2 ^ 32 → Decides (s.course.first || eqb (ticks_between s.course.start v.start) s.course.span) (StartRule r.set before v)
    start_decides v small =
        ⊎_elim (λ (w : (b : VisitEntry) × (last_of before ≡ some b)).
        let some_visits = B.visited w.0 w.1 in
        let due : ticks_later s.course.start s.course.span ≡ (w.0.start + took r.set w.0) % 2 ^ 32 = S.due some_visits ∙ B.led w.0 w.1 in
        let both = due_between s.course.start s.course.span v.start S.last S.span small in
        rw (S.first, ne_eqb r.visits 0 (λ z. omega (arith, some_visits, z))) (
          λ h b is. let same : w.0 ≡ b = cc (w.1, is) in both.1 (eqb-true _ _ h) ∙ due ∙ ap (λ (x : VisitEntry). (x.start + took r.set x) % 2 ^ 32) same,
          λ rule. eq-eqb _ _ (both.0 (rule w.0 w.1 ∙ sym due)),
        ))
        (λ (n : last_of before ≡ none).
        rw (S.first, eq-eqb r.visits 0 (B.unvisited n))
        (λ h b is. let z : ◌≡◌ {A = ℕ} 0 1 = cc (is, n) in absurd (omega arith), λ rule. refl))
        (some_or_none (last_of before))

    -- the tests of a visit, from the first on, decide its rules, from number 1 on
    visit_decides : (v : VisitEntry) → v.start < 2 ^ 32 → (k : ℕ) → Decides (get_or (rules_kept (expected s r.set r.alloc) (Visit v)) k true) (VisitRule r.set r before v (suc k))
    visit_decides v small zero = rw (place_is r K counter s S) (eqb-true _ _, eq-eqb _ _)
    visit_decides v small (suc zero) = start_decides v small
    visit_decides v small (suc (suc zero)) = rw (limit_is r K counter s S) (eqb-true _ _, eq-eqb _ _)
    visit_decides v small (suc (suc (suc zero))) = rw (most_is r K counter s S) (decides_le _ _)
    visit_decides v small (suc (suc (suc (suc zero)))) = rw (limit_is r K counter s S) (asked_decides r K v.asynchronous)
    visit_decides v small (suc (suc (suc (suc (suc k))))) = (λ _. tt, λ _. refl)

    -- the one test of a mark decides its one rule
    mark_decides : (m : MarkEntry) (k : ℕ) → Decides (get_or (rules_kept (expected s r.set r.alloc) (Mark m)) k true) (OnlyRule r m (suc k))
    mark_decides m zero = (
      λ h. let both = and-true _ _ h in (ltb-true _ _ both.0, ltb-true _ _ both.1),
      λ rule. true_and _ _ (lt-ltb _ _ rule.0) (lt-ltb _ _ rule.1),
    )
    mark_decides m (suc k) = (λ _. tt, λ _. refl)

    pub rules_decide : (e : Entry) → Started e → (k : ℕ) → Decides (get_or (rules_kept (expected s r.set r.alloc) e) k true) (RuleOf r.set r before e (suc k))
    rules_decide (Visit v) small = visit_decides v small
    rules_decide (Mark m) small = mark_decides m

-- ---- the first test that fails

-- of tests numbered from k on, it is this one: those before it hold
pub record Fails (k : ℕ) (tests : List Bool) (m : ℕ) : Type 0 where
  pub from : k ≤ m
  pub below : m < k + length tests
  pub before : (j : ℕ) → k ≤ j → j < m → get_or tests (j - k) true ≡ true
  pub here : get_or tests (m - k) true ≡ false

pub fails_first : (k : ℕ) (tests : List Bool) (m : ℕ) → 1 ≤ k → m ≢ 0 → first_failed k tests ≡ m → Fails k tests m
unfolding first_failed
fails_first k [] m low n h = absurd (n (sym h))
fails_first k (true ∷ tests) m low n h =
    let F = fails_first (k + 1) tests m (omega arith) n (sym (held true k _ refl) ∙ h) in
    record {
      from = omega (arith, F.from);
      below = omega (arith, F.below);
      before = λ j l b.
          ⊎_elim (λ (q : k < j).
          let d : j - k ≡ suc (j - (k + 1)) = omega arith in
          rw d (F.before j (omega arith) b))
          (λ (q : j ≤ k). let z : j - k ≡ 0 = omega arith in rw z refl)
          (below_or_not k j);
      here = let d : m - k ≡ suc (m - (k + 1)) = omega (arith, F.from) in rw d F.here;
    }
fails_first k (false ∷ tests) m low n h =
    let e : k ≡ m = sym (failed false k _ refl) ∙ h in
    let z : m - k ≡ 0 = omega arith in
    record { from = omega arith; below = omega arith; before = λ j l b. absurd (omega arith); here = rw z refl }

-- none does where all hold, and then all hold
pub fails_none : (k : ℕ) (tests : List Bool) → 1 ≤ k → ((j : ℕ) → get_or tests j true ≡ true) ↔ (first_failed k tests ≡ 0)
unfolding first_failed
fails_none k [] low = (λ _. refl, λ _ j. refl)
fails_none k (test ∷ tests) low =
    let rest = fails_none (k + 1) tests (omega arith) in (
      λ all. held test k _ (all 0) ∙ rest.0 (λ j. all (suc j)),
      λ h j. let w = passed test k _ (λ z. omega arith) h in each w.0 (rest.1 w.1) j,
    )
  where
    each : test ≡ true → ((j : ℕ) → get_or tests j true ≡ true) → (j : ℕ) → get_or (test ∷ tests) j true ≡ true
    each first later zero = first
    each first later (suc j) = later j
