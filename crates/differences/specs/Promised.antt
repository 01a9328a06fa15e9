-- What is promised of the differences of two plans (02, No. 9); `proofs/Promised.antt` proves it.
use Rattle.std.specs.Prelude.{ℕ, ◌≤◌, ◌<◌, ◌≡◌, true, List, [], ◌↔◌}
use Rattle.units.specs.Places.{at}
use Rattle.sets.specs.Rules.{SameSet}
use Rattle.sets.specs.declared.Set.{Set}
use Rattle.plans.specs.declared.Alloc.{Alloc}
use Rattle.differences.specs.Views.{view_of, SamePlan}
use Rattle.differences.specs.Differences.{Difference, differences, is_same_plan, apply_all, Differs, In, Rising}

-- a list of differences of two plans
pub record Lists (t : Set) (a : Alloc) (u : Set) (b : Alloc) (ds : List Difference) : Type 0 where
  -- applying it to the first plan gives the second
  pub gives : SamePlan (apply_all ds (view_of t a)) (view_of u b)
  -- nothing is listed that does not differ, and the old numbers are the first plan's, the new ones the second's
  pub differs : (d : Difference) → In d ds → Differs (view_of t a) (view_of u b) d
  -- in the order of 02, and nothing twice
  pub rising : Rising ds

pub record Promised : Type 0 where
  -- what is listed is such a list
  pub lists : (t : Set) (a : Alloc) (u : Set) (b : Alloc)
      → t.n ≤ 128 → u.n ≤ 128 → Lists t a u b (differences t a u b)
  -- and there is no other
  pub one_list : (t : Set) (a : Alloc) (u : Set) (b : Alloc) (ds : List Difference)
      → t.n ≤ 128 → u.n ≤ 128 → Lists t a u b ds → ds ≡ differences t a u b
  -- all that differs is listed
  pub all_listed : (t : Set) (a : Alloc) (u : Set) (b : Alloc) (d : Difference)
      → t.n ≤ 128 → u.n ≤ 128 → Differs (view_of t a) (view_of u b) d → In d (differences t a u b)
  -- equal plans and only they give none
  pub none_listed : (t : Set) (a : Alloc) (u : Set) (b : Alloc)
      → t.n ≤ 128 → u.n ≤ 128 → (differences t a u b ≡ []) ↔ SamePlan (view_of t a) (view_of u b)
  -- so what is answered of two plans tells whether they are the same
  pub same_told : (t : Set) (a : Alloc) (u : Set) (b : Alloc)
      → t.n ≤ 128 → (is_same_plan t a u b ≡ true) ↔ SamePlan (view_of t a) (view_of u b)
  -- and equal plans are those with the same set and the same S, over the first N stations
  pub same_plan : (t : Set) (a : Alloc) (u : Set) (b : Alloc)
      → SamePlan (view_of t a) (view_of u b) ↔ (SameSet t u × ((i : ℕ) → i < t.n → at a.s i ≡ at b.s i))
