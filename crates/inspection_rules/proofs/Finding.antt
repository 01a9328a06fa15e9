-- The inspection of a whole log: it stands for the ring that the records lead to, or it has stopped at the first record that breaks a rule, with that rule.
use Prim.Native.Nat.{ℕ, zero, suc, ◌+◌, ◌-◌, ◌%◌, ◌^◌, ◌≤◌, ◌<◌}
use mathlib.Core.Path.{◌≡◌, refl, sym, ap, subst, subst₂, ◌∙◌}
use mathlib.Core.Bool.{true, false}
use mathlib.Core.List.{List, [], ◌∷◌, ◌++◌, append-nil}
use mathlib.Core.Logic.{◌⊎◌, inl, inr, ◌≢◌, ⊎_elim}
use mathlib.Core.Option.{none, some}
use native.Mathlib.Nat.{mod-eq_of_lt, mod-add-mod}
use native.Mathlib.Omega.{arith}
use lib.ListN.{length, get_or, length-append}
use lib.Seq.{append_snoc}
use Rattle.units.proofs.JudgingLaws.{decides_not}
use Rattle.units.specs.Places.{at}
use Rattle.units.specs.Judging.{Decides}
use Rattle.sets.specs.declared.Set.{Set}
use Rattle.plans.specs.Planned.{judged_plan}
use Rattle.plans.specs.declared.Alloc.{Alloc}
use Rattle.log_records.specs.declared.VisitEntry.{VisitEntry}
use Rattle.log_records.specs.declared.Entry.{Entry}
use Rattle.log_records.specs.declared.Entry.TheVariants.{Visit, Mark}
use Rattle.rings.specs.Opening.{opened_ring}
use Rattle.rings.specs.declared.Ring.{Ring}
use Rattle.promises.proofs.Course.{same_or_not}
use Rattle.inspection.specs.Opening.{begun}
use Rattle.inspection.specs.Rules.{expected, rules_kept, broken_rule}
use Rattle.inspection.specs.Records.{visited_on, switched_on, moved_on, stopped_at, inspected, inspected_all}
use Rattle.inspection.specs.declared.Inspection.{Inspection}
use Rattle.inspection.proofs.RecordLaws.{inspected_stops, inspected_moves, all_stays}
use Rattle.inspection_rules.specs.Gives.{CouldVisit, Could, ring_with, ring_after, GivesFrom}
use Rattle.inspection_rules.specs.Broken.{RuleOf, Rule, FirstBroken, last_from, last_of, took}
use Rattle.inspection_rules.specs.Promised.{Started, Starts}
use Rattle.inspection.proofs.RuleLaws.{five_at_most}
use Rattle.inspection_rules.proofs.Reaching.{Reached, reached_opened}
use Rattle.inspection_rules.proofs.Standing.{Stands, stands_next, span_next, stands_switched, stands_opened, recounted}
use Rattle.inspection_rules.proofs.Judging.{rules_decide, fails_first, fails_none}
use Rattle.inspection_rules.proofs.Following.{ring_none, ring_one, ring_set, ring_alloc, last_some, last_none, last_visit, last_mark, some_or_none, gives_join, gives_reaches, gives_last, gives_recounted}

-- ---- pieces do not matter

pub all_join : (s : Inspection) (t : Set) (a : Alloc) (es fs : List Entry) → inspected_all s t a (es ++ fs) ≡ inspected_all (inspected_all s t a es) t a fs
unfolding inspected_all
all_join s t a [] fs = refl
all_join s t a (e ∷ es) fs = all_join (inspected s t a e) t a es fs

-- ---- of a plan that meets the rules

module _ (t : Set) (a : Alloc) (h : judged_plan t a ≡ 0) where
  abbrev start : Ring
  start = opened_ring t a

  pub opened_set : (opened_ring t a).set ≡ t
  unfolding opened_ring
  opened_set = refl

  opened_alloc : (opened_ring t a).alloc ≡ a
  unfolding opened_ring
  opened_alloc = refl

  opened_visits : (opened_ring t a).visits ≡ 0
  unfolding opened_ring
  opened_visits = refl

  opened_clock : (opened_ring t a).clock ≡ 0
  unfolding opened_ring
  opened_clock = refl

  pub set_is : (es : List Entry) → (ring_after (opened_ring t a) es).set ≡ t
  set_is es = ring_set (opened_ring t a) es ∙ opened_set

  pub alloc_is : (es : List Entry) → (ring_after (opened_ring t a) es).alloc ≡ a
  alloc_is es = ring_alloc (opened_ring t a) es ∙ opened_alloc

  -- it has visits exactly if one of the records is a visit
  pub some_visits : (es : List Entry) (b : VisitEntry) → last_of es ≡ some b → 0 < (ring_after (opened_ring t a) es).visits
  some_visits es b is =
      ⊎_elim (λ (before : none ≡ some b). let z : ◌≡◌ {A = ℕ} 0 1 = cc before in absurd (omega arith))
      (λ (l : (opened_ring t a).visits < (ring_after (opened_ring t a) es).visits). omega (arith, l))
      (last_some (opened_ring t a) none es b is)

  pub no_visits : (es : List Entry) → last_of es ≡ none → (ring_after (opened_ring t a) es).visits ≡ 0
  no_visits es is = (last_none (opened_ring t a) none es is).1.0 ∙ opened_visits

  pub reaches : (counter : ℕ) (es : List Entry) → GivesFrom counter (opened_ring t a) es → Reached (ring_after (opened_ring t a) es)
  reaches counter es g = gives_reaches counter (opened_ring t a) es (reached_opened t a h) g

  -- the start that the last visit leads to
  pub leads : (counter : ℕ) (es : List Entry) → GivesFrom counter (opened_ring t a) es → (b : VisitEntry) → last_of es ≡ some b
      → (counter + (ring_after (opened_ring t a) es).clock) % 2 ^ 32 ≡ (b.start + took t b) % 2 ^ 32
  leads counter es g b is =
      gives_last counter (opened_ring t a) none es (λ c before. let z : ◌≡◌ {A = ℕ} 0 1 = cc before in absurd (omega arith)) g b is ∙
      ap (λ (x : Set). (b.start + took x b) % 2 ^ 32) (set_is es)

  -- ---- the rules and what could be given

  -- a record that could be given keeps them
  pub could_keeps : (counter : ℕ) (before : List Entry) (e : Entry) → GivesFrom counter (opened_ring t a) before → Could counter (ring_after (opened_ring t a) before) e
      → (k : ℕ) → Rule t a before e k
  could_keeps counter before (Visit v) g C zero = tt
  could_keeps counter before (Visit v) g C (suc zero) = C.station
  could_keeps counter before (Visit v) g C (suc (suc zero)) = λ b is. C.start ∙ leads counter before g b is
  could_keeps counter before (Visit v) g C (suc (suc (suc zero))) = C.offered
  could_keeps counter before (Visit v) g C (suc (suc (suc (suc zero)))) = C.synchronous
  could_keeps counter before (Visit v) g C (suc (suc (suc (suc (suc zero))))) = C.asynchronous
  could_keeps counter before (Visit v) g C (suc (suc (suc (suc (suc (suc k)))))) = tt
  could_keeps counter before (Mark m) g C zero = tt
  could_keeps counter before (Mark m) g C (suc zero) = C
  could_keeps counter before (Mark m) g C (suc (suc k)) = tt

  -- one that keeps them could be given, on the same recorder or, where it is the first visit, on one that began with its start
  pub keeps_could : (counter : ℕ) (before : List Entry) (e : Entry) → GivesFrom counter (opened_ring t a) before → Started e → ((k : ℕ) → Rule t a before e k)
      → (other : ℕ) × ((GivesFrom other (opened_ring t a) before × Could other (ring_after (opened_ring t a) before) e) × ((other ≡ counter) ⊎ ((ring_after (opened_ring t a) before).visits ≡ 0)))
  keeps_could counter before (Visit v) g small rules =
      let could : (other : ℕ) → v.start ≡ (other + (ring_after (opened_ring t a) before).clock) % 2 ^ 32 → CouldVisit other (ring_after (opened_ring t a) before) v =
      λ other is. record { station = rules 1; start = is; offered = rules 3; synchronous = rules 4; asynchronous = rules 5 } in
      ⊎_elim (λ (w : (b : VisitEntry) × (last_of before ≡ some b)).
      (counter, ((g, could counter (rules 2 w.0 w.1 ∙ sym (leads counter before g w.0 w.1))), inl refl)))
      (λ (n : last_of before ≡ none).
      let clock : (ring_after (opened_ring t a) before).clock ≡ 0 = (last_none (opened_ring t a) none before n).1.1 ∙ opened_clock in
      let zero-on : (v.start + (ring_after (opened_ring t a) before).clock) % 2 ^ 32 ≡ v.start = rw clock (ap (λ (x : ℕ). x % 2 ^ 32) (add_nothing v.start) ∙ mod-eq_of_lt small) in
      (v.start, ((gives_recounted counter v.start (opened_ring t a) before n g, could v.start (sym zero-on)), inr (no_visits before n))))
      (some_or_none (last_of before))
    where
      add_nothing : (x : ℕ) → x + 0 ≡ x
      add_nothing x = omega arith
  keeps_could counter before (Mark m) g small rules = (counter, ((g, rules 1), inl refl))

  -- ---- the inspection behind records that could have been given

  pub record At (before : List Entry) (s : Inspection) : Type 0 where
    pub counter : ℕ
    pub given : GivesFrom counter (opened_ring t a) before
    pub stands : Stands counter (ring_after (opened_ring t a) before) s
    -- they are counted, in 64 bits
    pub counted : s.records ≡ length before % 2 ^ 64
    -- the start of the last visit, and what it took
    pub last : (b : VisitEntry) → last_of before ≡ some b → (s.course.start ≡ b.start) × (s.course.span ≡ took t b)

  pub at_first : At [] (begun t a)
  unfolding begun last_from
  at_first =
      record {
        counter = 0;
        given = tt;
        stands = subst (λ (r : Ring). Stands 0 r (begun t a)) (sym (ring_none (opened_ring t a))) (stands_opened t a h 0);
        counted = refl;
        last = λ b is. let z : ◌≡◌ {A = ℕ} 0 1 = cc is in absurd (omega arith);
      }

  counted_on : (x n : ℕ) → x ≡ n % 2 ^ 64 → (x + 1) % 2 ^ 64 ≡ (n + 1) % 2 ^ 64
  counted_on x n is = ap (λ (y : ℕ). (y + 1) % 2 ^ 64) is ∙ mod-add-mod n (2 ^ 64) 1

  module _ (before : List Entry) (s : Inspection) (A : At before s) where
    K : Reached (ring_after (opened_ring t a) before)
    K = reaches A.counter before A.given

    -- its tests decide the rules
    pub decides : (e : Entry) → Started e → (k : ℕ) → Decides (get_or (rules_kept (expected s t a) e) k true) (Rule t a before e (suc k))
    decides e small k =
        let r = ring_after (opened_ring t a) before in
        subst₂ (λ (x : Set) (y : Alloc). Decides (get_or (rules_kept (expected s x y) e) k true) (RuleOf x r before e (suc k))) (set_is before) (alloc_is before)
        (rules_decide A.counter r K s A.stands before
        (record {
          visited = some_visits before;
          unvisited = no_visits before;
          led = λ b is. leads A.counter before A.given b is ∙ ap (λ (x : Set). (b.start + took x b) % 2 ^ 32) (sym (set_is before));
        })
        e small k)

    long_next : (e : Entry) → length (before ++ (e ∷ [])) ≡ length before + 1
    long_next e = length-append before (e ∷ [])

    -- what keeps every rule could be given
    kept_could : (e : Entry) → Started e → broken_rule (expected s t a) e ≡ 0
        → (other : ℕ) × ((GivesFrom other (opened_ring t a) before × Could other (ring_after (opened_ring t a) before) e) × ((other ≡ A.counter) ⊎ ((ring_after (opened_ring t a) before).visits ≡ 0)))
    kept_could e small clean =
        let all = (fails_none 1 (rules_kept (expected s t a) e) (omega arith)).1 clean in
        keeps_could A.counter before e A.given small (λ k. rules k (λ j. (decides e small j).0 (all j)))
      where
        rules : (k : ℕ) → ((j : ℕ) → Rule t a before e (suc j)) → Rule t a before e k
        rules zero f = norule e
          where
            norule : (e : Entry) → Rule t a before e zero
            norule (Visit v) = tt
            norule (Mark m) = tt
        rules (suc k) f = f k

    stands_on : (other : ℕ) → (other ≡ A.counter) ⊎ ((ring_after (opened_ring t a) before).visits ≡ 0) → Stands other (ring_after (opened_ring t a) before) s
    stands_on other w =
        ⊎_elim (λ (q : other ≡ A.counter). rw q A.stands)
        (λ (n : (ring_after (opened_ring t a) before).visits ≡ 0). recounted A.counter other (ring_after (opened_ring t a) before) s A.stands n)
        w

    -- no rule is broken: the record could be given, and the inspection stands for the ring behind it
    at_next : (e : Entry) → Started e → broken_rule (expected s t a) e ≡ 0 → At (before ++ (e ∷ [])) (moved_on s t a e)
    unfolding visited_on switched_on
    at_next (Visit v) small clean =
        let w = kept_could (Visit v) small clean in
        let r = ring_after (opened_ring t a) before in
        let other = w.0 in
        let S : Stands other (ring_after (opened_ring t a) before) s = stands_on other w.1.1 in
        let N : Stands other (ring_with r (Visit v)) (visited_on s r.set r.alloc v) = stands_next r K other s S v w.1.0.1 in
        let took-is : (visited_on s r.set r.alloc v).course.span ≡ took r.set v =
        span_next r K other s S v w.1.0.1 ∙ ap (λ (p : ℕ). v.synchronous + v.asynchronous + at r.set.w p) (sym w.1.0.1.station) in
        record {
          counter = other;
          given = gives_join other (opened_ring t a) before (Visit v ∷ []) w.1.0.0 (w.1.0.1, tt);
          stands =
              rw (ring_one (opened_ring t a) before (Visit v))
              (subst₂ (λ (x : Set) (y : Alloc). Stands other (ring_with r (Visit v)) (visited_on s x y v)) (set_is before) (alloc_is before) N);
          counted = rw (long_next (Visit v)) (counted_on s.records (length before) A.counted);
          last = λ b is.
              let same : v ≡ b = cc (is, last_visit none before v) in
              rw (← same) (refl, subst₂ (λ (x : Set) (y : Alloc). (visited_on s x y v).course.span ≡ took x v) (set_is before) (alloc_is before) took-is);
        }
    at_next (Mark m) small clean =
        let w = kept_could (Mark m) small clean in
        let r = ring_after (opened_ring t a) before in
        let other = w.0 in
        record {
          counter = other;
          given = gives_join other (opened_ring t a) before (Mark m ∷ []) w.1.0.0 (w.1.0.1, tt);
          stands = rw (ring_one (opened_ring t a) before (Mark m)) (stands_switched r K other s (stands_on other w.1.1) m w.1.0.1);
          counted = rw (long_next (Mark m)) (counted_on s.records (length before) A.counted);
          last = λ b is. A.last b (sym (last_mark none before m) ∙ is);
        }

    -- rule k is the first that is broken
    pub broken_here : (e : Entry) → Started e → (k : ℕ) → k ≢ 0 → broken_rule (expected s t a) e ≡ k → (behind : List Entry) → FirstBroken t a (before ++ e ∷ behind) (length before + 1) k
    broken_here e small k n is behind =
        let F = fails_first 1 (rules_kept (expected s t a) e) k (omega arith) n is in
        record {
          before = before;
          entry = e;
          behind = behind;
          place = refl;
          counted = refl;
          given = (A.counter, A.given);
          known = (F.from, omega (arith, F.below, five_at_most (expected s t a) e));
          kept = λ j low b. holds j low (F.before j low b);
          broken = fails k F.from F.here;
        }
      where
        holds : (j : ℕ) → 1 ≤ j → get_or (rules_kept (expected s t a) e) (j - 1) true ≡ true → Rule t a before e j
        holds zero low test = absurd (omega arith)
        holds (suc j) low test = let d : suc j - 1 ≡ j = omega arith in (decides e small j).0 (rw d at test)

        fails : (j : ℕ) → 1 ≤ j → get_or (rules_kept (expected s t a) e) (j - 1) true ≡ false → ¬ Rule t a before e j
        fails zero low test = absurd (omega arith)
        fails (suc j) low test = let d : suc j - 1 ≡ j = omega arith in (decides_not _ _ (decides e small j)).0 (rw d at test)

  -- ---- all records

  -- it has stopped at the first record that breaks a rule, behind those that are counted in 64 bits
  pub record Stopped (es : List Entry) (s : Inspection) : Type 0 where
    pub rule : s.rule ≢ 0
    pub number : ℕ
    pub first : FirstBroken t a es number s.rule
    pub counted : s.records ≡ (number - 1) % 2 ^ 64

  -- it stands behind them all, or it has stopped
  abbrev pub Ends : List Entry → Inspection → Type 0
  Ends es s = At es s ⊎ Stopped es s

  all_none : (s : Inspection) → inspected_all s t a [] ≡ s
  unfolding inspected_all
  all_none s = refl

  all_more : (s next : Inspection) (e : Entry) (es : List Entry) → inspected s t a e ≡ next → inspected_all s t a (e ∷ es) ≡ inspected_all next t a es
  unfolding inspected_all
  all_more s next e es is = ap (λ (x : Inspection). inspected_all x t a es) is

  one_less : (x : ℕ) → x ≡ x + 1 - 1
  one_less x = omega arith

  walk : (es before : List Entry) (s : Inspection) → At before s → Starts es → Ends (before ++ es) (inspected_all s t a es)
  walk [] before s A small = inl (rw (append-nil before, all_none s) A)
  walk (e ∷ es) before s A small =
      let k = broken_rule (expected s t a) e in
      ⊎_elim (λ (clean : k ≡ 0).
      let next = at_next before s A e small.0 clean in
      let rest = walk es (before ++ (e ∷ [])) (moved_on s t a e) next small.1 in
      let on = all_more s (moved_on s t a e) e es (inspected_moves s t a e A.stands.rule clean) in
      subst₂ Ends (append_snoc before e es) (sym on) rest)
      (λ (some : k ≢ 0).
      let stops = all_more s (stopped_at s k) e es (inspected_stops s t a e A.stands.rule k refl some) ∙ all_stays (stopped_at s k) t a es some in
      let F = broken_here before s A e small.0 k some refl es in
      subst (Ends (before ++ e ∷ es)) (sym stops) (inr (record { rule = some; number = length before + 1; first = F; counted = A.counted ∙ ap (λ (x : ℕ). x % 2 ^ 64) (one_less (length before)) })))
      (same_or_not k 0)

  pub ends : (es : List Entry) → Starts es → Ends es (inspected_all (begun t a) t a es)
  ends es small = walk es [] (begun t a) at_first small
