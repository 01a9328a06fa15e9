-- `rules_fit` is right because FDDI's test decides the same sentence over the set's load, and a timely-token set's X looks at the stations' own S; the grid is one test for both.
use Prim.Native.Nat.{ℕ, min}
use mathlib.Core.Path.{◌≡◌, refl, ap, ◌∙◌}
use mathlib.Core.List.{List}
use native.Mathlib.Omega.{arith}
use borrow.Author.Tests.{eq-eqb, ne_eqb}
use Rattle.units.specs.Grid.{all_on_grid}
use Rattle.units.specs.Places.{at, sum_below}
use Rattle.units.specs.Vectors.{rules_kept, lost_time}
use Rattle.sets.specs.Lent.{set_of}
use Rattle.sets.specs.declared.Set.{Set}
use Rattle.fddi.specs.Rules as fddi-rules
use Rattle.fddi.specs.Lent.{lent_load}
use Rattle.plans.specs.Rules.{lost, token_fits}
use Rattle.plans.proofs.LeastLaws.{timely_deadlines, load_rules}
use Rattle.plans.proofs.rules_fit.Goals as goal

pub returns-then-h-eq-FDDI : goal.returns-then-h-eq-FDDI
returns-then-h-eq-FDDI c =
    let lent : List ℕ → Set = λ p. let args = c.args in set_of args.h args.n args.w.now args.c.now args.d.now p in
    let few : min c.args.n 128 ≡ c.args.n = omega (arith, c.requires) in
    let lost_said : (p : List ℕ) → c.lost_lent-lost.result ≡ lost (lent p) = λ p. let args = c.args in
    c.lost_lent-lost.ensures.is ∙ ap (λ (n : ℕ). lost_time (sum_below n (at args.w.now)) args.h.frame) (few) in
    let args = c.args in
    λ p.
    c.meets_rules.ensures
    ∙ ap (λ (x : ℕ). rules_kept (fddi-rules.terms_of (lent_load args.n args.h.ttrt args.h.grid x args.c.now args.d.now)) (at args.s.now)) (lost_said p)
    ∙ load_rules (lent p) (eq-eqb _ _ c.if-h-eq-FDDI.true) c.requires (at args.s.now)

pub returns : goal.returns
returns c =
    let lent : List ℕ → Set = λ p. let args = c.args in set_of args.h args.n args.w.now args.c.now args.d.now p in
    let few : min c.args.n 128 ≡ c.args.n = omega (arith, c.requires) in
    let lost_said : (p : List ℕ) → c.lost_lent-lost.result ≡ lost (lent p) = λ p. let args = c.args in
    c.lost_lent-lost.ensures.is ∙ ap (λ (n : ℕ). lost_time (sum_below n (at args.w.now)) args.h.frame) (few) in
    let args = c.args in
    let s = at args.s.now in
    λ p.
    let t = lent p in
    let deadlines = c.deadlines_fit-deadlines.ensures ∙ timely_deadlines t s (ne_eqb _ _ c.if-h-eq-FDDI.false) in
    let token : c.token_kept-token.result ≡ token_fits t s = c.token_kept-token.ensures ∙ rw (few, lost_said p) refl in
    let grid = c.all_on_grid.ensures ∙ ap (λ (n : ℕ). all_on_grid args.h.grid n s) few in
    rw (deadlines, token, grid) refl
