-- The laws of the rules of a vector, once for all modes.
use Prim.Native.Nat.{ℕ, ◌+◌, ◌≤◌, ◌<◌}
use mathlib.Core.Path.{◌≡◌, sym, ap, ◌∙◌}
use mathlib.Core.Bool.{Bool, true, false, ◌&&◌, and-true}
use mathlib.Core.List.{List}
use mathlib.Core.Logic.{⊎_elim}
use native.Mathlib.Omega.{arith}
use lib.Seq.{ext_get_or}
use Rattle.units.specs.Grid.{all_on_grid}
use Rattle.units.proofs.GridLaws.{decides_grids}
use Rattle.units.specs.Places.{at, sum_below}
use Rattle.units.proofs.PlaceLaws.{decides_all, sum_same, sum_part_lem}
use Rattle.units.proofs.SmallLaws.{below_or_not}
use Rattle.units.proofs.JudgingLaws.{decides_le, decides_both, decides_not, same_test}
use Rattle.units.specs.Vectors.{Terms, DeadlinesKept, TokenKept, RulesKept, LeastPlaces, SameTerms, deadline_kept_at, deadlines_kept, token_kept, rules_kept}
use Rattle.units.specs.Judging.{Decides}

-- ---- each test decides its rule

pub decides_token : (ttrt lost n : ℕ) (s : ℕ → ℕ) → Decides (token_kept ttrt lost n s) (TokenKept ttrt lost n s)
decides_token ttrt lost n s = decides_le (sum_below n s + lost) ttrt

module _ (t : Terms) (s : ℕ → ℕ) where
  pub decides_deadlines : Decides (deadlines_kept t s) (DeadlinesKept t s)
  decides_deadlines =
      decides_all t.n (deadline_kept_at t s) (λ i. t.longest i ≤ t.time s i) (λ i. decides_le (t.longest i) (t.time s i))

  pub decides_rules : Decides (rules_kept t s) (RulesKept t s)
  decides_rules =
      let token = token_kept t.ttrt t.lost t.n s in
      let both = decides_both (deadlines_kept t s) token _ _ decides_deadlines (decides_token t.ttrt t.lost t.n s) in
      let all = decides_both (deadlines_kept t s && token) (all_on_grid t.grid t.n s) _ _ both (decides_grids t.grid t.n s) in (
        λ h. let f = all.0 h in record { deadlines = f.0.0; token = f.0.1; grid = f.1 },
        λ m. all.1 ((m.deadlines, m.token), m.grid),
      )

  -- where the token rule is broken, the rules are
  pub token_broken : token_kept t.ttrt t.lost t.n s ≡ false → rules_kept t s ≡ false
  token_broken h =
      (decides_not _ _ decides_rules).1 (λ m. (decides_not _ _ (decides_token t.ttrt t.lost t.n s)).0 h m.token)

  -- where it is kept, the other two are left
  pub token_held : token_kept t.ttrt t.lost t.n s ≡ true → rules_kept t s ≡ (deadlines_kept t s && all_on_grid t.grid t.n s)
  token_held h = ap (λ (b : Bool). (deadlines_kept t s && b) && all_on_grid t.grid t.n s) h ∙ ap (λ (b : Bool). b && all_on_grid t.grid t.n s) (and-true (deadlines_kept t s))

  -- no S that keeps the token rule is above TTRT
  pub within_ttrt : TokenKept t.ttrt t.lost t.n s → (i : ℕ) → i < t.n → s i ≤ t.ttrt
  within_ttrt h i l = omega (arith, sum_part_lem t.n s i l)

-- ---- places from n on are never looked at

pub terms_back : (a b : Terms) → SameTerms a b → SameTerms b a
terms_back a b same =
    let inside : (i : ℕ) → i < b.n → i < a.n = λ i l. rw same.count l in
    record {
      count = sym same.count;
      ttrt = sym same.ttrt;
      lost = sym same.lost;
      grid = sym same.grid;
      longest = λ i l. sym (same.longest i (inside i l));
      time = λ s v each i l. sym (same.time v s (λ j k. sym (each j (rw (← same.count) k))) i (inside i l));
    }

pub rules_same : (a b : Terms) → SameTerms a b → (s v : ℕ → ℕ) → ((i : ℕ) → i < a.n → s i ≡ v i) → RulesKept a s → RulesKept b v
rules_same a b same s v each m =
    let inside : (i : ℕ) → i < b.n → i < a.n = λ i l. rw same.count l in
    record {
      deadlines = λ i l. rw (← same.longest i (inside i l), ← same.time s v each i (inside i l)) (m.deadlines i (inside i l));
      token = rw (← same.count, ← same.lost, ← same.ttrt, ← sum_same a.n s v each) m.token;
      grid = λ i l. rw (← same.grid, ← each i (inside i l)) (m.grid i (inside i l));
    }

pub test_same : (a b : Terms) → SameTerms a b → (s v : ℕ → ℕ) → ((i : ℕ) → i < a.n → s i ≡ v i) → rules_kept a s ≡ rules_kept b v
test_same a b same s v each =
    same_test _ _ _ _ (decides_rules a s) (decides_rules b v) (rules_same a b same s v each)
    (rules_same b a (terms_back a b same) v s (λ i l. sym (each i (rw same.count l))))

-- ---- there is one least vector: of two, each is at most the other

pub least_one : (t : Terms) (a b : List ℕ) → LeastPlaces t a → LeastPlaces t b → a ≡ b
least_one t a b p q =
    ext_get_or 0 a b (p.places ∙ sym q.places) (λ i _.
    ⊎_elim (λ (inside : i < t.n).
    omega (arith, p.least.least (at b) q.least.meets i inside, q.least.least (at a) p.least.meets i inside))
    (λ (past : t.n ≤ i). p.past i past ∙ sym (q.past i past))
    (below_or_not i t.n))
