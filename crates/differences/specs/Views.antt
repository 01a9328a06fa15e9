-- A plan as it is compared: the numbers of its header by their tags, which stations it has, and their numbers.
use Rattle.std.specs.Prelude.{ℕ, zero, suc, ◌≤◌, ◌<◌, ◌≡◌, Bool, true, cond, ◌⊎◌, ltb, eqb}
use Rattle.units.specs.Places.{at}
use Rattle.sets.specs.declared.Head.{Head}
use Rattle.sets.specs.declared.Set.{Set}
use Rattle.plans.specs.declared.Alloc.{Alloc}
use Rattle.fields.specs.Fields.{head_tag}
use Rattle.sets.specs.Header.{head_number}

pub record View : Type 0 where
  -- by its tag: 1 TTRT, 4 the mode, 5 F, 6 g
  pub header : ℕ → ℕ
  -- whether there is a station with this number
  pub has : ℕ → Bool
  -- of a station: 0 is w, 1 is C, 2 is D, 3 is P, 4 is S
  pub number : ℕ → ℕ → ℕ

-- the tags of the header's fields
abbrev pub HeaderTag : ℕ → Type 0
HeaderTag tag = (tag ≡ 1) ⊎ ((4 ≤ tag) × (tag ≤ 6))

-- five numbers in a row, by their places
unfoldable pub nth_of : ℕ → ℕ → ℕ → ℕ → ℕ → ℕ → ℕ
nth_of w c d p s zero = w
nth_of w c d p s (suc zero) = c
nth_of w c d p s (suc (suc zero)) = d
nth_of w c d p s (suc (suc (suc zero))) = p
nth_of w c d p s (suc (suc (suc (suc j)))) = s

-- the number of a header's field; an absent mode, F or g counts as 1, as reading hands it out
unfoldable pub header_of : Head → ℕ → ℕ
header_of h tag = cond (eqb tag head_tag) h.ttrt (head_number h tag)

abbrev pub number_of : Set → Alloc → ℕ → ℕ → ℕ
number_of t a i = nth_of (at t.w i) (at t.c i) (at t.d i) (at t.p i) (at a.s i)

-- the plan of a set and an allocation: the stations below N
abbrev pub view_of : Set → Alloc → View
view_of t a = record { header = header_of t.head; has = λ i. ltb i t.n; number = number_of t a }

-- the same plan: the same header, the same stations, and the same numbers of each
pub record SamePlan (v w : View) : Type 0 where
  pub header : (tag : ℕ) → HeaderTag tag → v.header tag ≡ w.header tag
  pub stations : (i : ℕ) → v.has i ≡ w.has i
  pub numbers : (i j : ℕ) → w.has i ≡ true → j < 5 → v.number i j ≡ w.number i j
