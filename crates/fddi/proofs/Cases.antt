-- The cases hold because the test of a given vector decides the rules, and computes to what the table says.
use mathlib.Core.Path.{◌≡◌, refl}
use mathlib.Core.Bool.{Bool, true, not, ◌&&◌}
use mathlib.Core.List.{List, [], ◌∷◌}
use borrow.Author.Tests.{not-true}
use Rattle.units.specs.Places.{at, sum_below, all_below}
use Rattle.units.proofs.JudgingLaws.{and-true, decides_not}
use Rattle.units.specs.Vectors.{rules_kept}
use Rattle.units.proofs.VectorLaws.{decides_rules}
use Rattle.fddi.specs.Rules.{time_with, terms_of}
use Rattle.fddi.specs.Cases.{Case, Meets, Breaks, Every, Cases, meeting, breaking}

-- the test of every case of a list
abbrev all : (Case → Bool) → List Case → Bool
all test [] = true
all test (r ∷ rs) = test r && all test rs

every : (P : Case → Type 0) (test : Case → Bool) → ((r : Case) → test r ≡ true → P r) → (rs : List Case) → all test rs ≡ true → Every P rs
every P test one [] h = tt
every P test one (r ∷ rs) h = let both = and-true (test r) (all test rs) h in (one r both.0, every P test one rs both.1)

abbrev kept : Case → Bool
kept r = rules_kept (terms_of r.load) (at r.given)

meets : (r : Case) → kept r ≡ true → Meets r
meets r = (decides_rules (terms_of r.load) (at r.given)).0

breaks : (r : Case) → not (kept r) ≡ true → Breaks r
breaks r h = (decides_not _ _ (decides_rules (terms_of r.load) (at r.given))).0 (not-true _ h)

pub cases_hold : Cases
unfolding sum_below all_below time_with
cases_hold =
    record {
      meet = every Meets kept meets meeting refl;
      break = every Breaks (λ r. not (kept r)) breaks breaking refl;
    }
