-- What may stand at a place is one of the kinds that are tried: each row of the table of tags has its kind, and any other tag is a further field of the header.
use Prim.Native.Nat.{ℕ, ◌≤◌, ◌<◌}
use mathlib.Core.Path.{◌≡◌, refl, sym, ◌∙◌}
use mathlib.Core.Bool.{Bool, true, false, not, ◌&&◌}
use mathlib.Core.Logic.{⊎_elim}
use native.Mathlib.Omega.{arith}
use lib.Dec.{leb, ltb, eqb}
use borrow.Author.Tests.{eqb-true}
use Rattle.units.specs.Numbers.{most_stations}
use Rattle.units.proofs.JudgingLaws.{true_or_false, and-true, decides_between}
use Rattle.units.proofs.SmallLaws.{below_or_not}
use Rattle.fields.specs.Fields.{head_tag, station_tag, allocation_tag, end_tag, due, headed, further_size, is_further, in_header, is_allowed}
use Rattle.fields.specs.declared.Passed.{Passed}
use Rattle.command_explain.specs.First.{kind_at}

-- a kind has this tag and this length
abbrev Has : ℕ → ℕ → Type 0
Has tag size = (k : ℕ) × ((k < 7) × (((kind_at k).tag ≡ tag) × ((kind_at k).size ≡ size)))

-- a row: where its tag is named, its length is the kind's
by_row : (k tag its size : ℕ) → k < 7 → (kind_at k).tag ≡ its → eqb tag its ≡ true → eqb size (kind_at k).size ≡ true → Has tag size
by_row k tag its size few e t h = (k, (few, (e ∙ sym (eqb-true _ _ t), sym (eqb-true _ _ h))))

-- the first of several tests
first_of : (a b c d : Bool) → (a && b && c && d) ≡ true → a ≡ true
first_of true b c d h = refl
first_of false b c d h = h

first_of_three : (a b c : Bool) → (a && b && c) ≡ true → a ≡ true
first_of_three true b c h = refl
first_of_three false b c h = h

further : (p : Passed) (tag size : ℕ) → (is_further tag size && in_header p tag) ≡ true → Has tag size
unfolding further_size
further p tag size h =
    let f = (and-true (is_further tag size) _ h).0 in
    let b = and-true (leb 4 tag && leb tag 6) (eqb size (further_size tag)) f in
    let range = (decides_between 4 6 tag).0 b.0 in
    let long = eqb-true size (further_size tag) b.1 in
    ⊎_elim (λ (l : tag < 5). let i : tag ≡ 4 = omega (arith, range.0) in (3, (omega arith, (sym i, sym (rw i at long)))))
    (λ (l : 5 ≤ tag).
    ⊎_elim (λ (m : tag < 6). let i : tag ≡ 5 = omega arith in (4, (omega arith, (sym i, sym (rw i at long)))))
    (λ (m : 6 ≤ tag). let i : tag ≡ 6 = omega (arith, range.1) in (5, (omega arith, (sym i, sym (rw i at long)))))
    (below_or_not tag 6))
    (below_or_not tag 5)

pub kinds_all : (p : Passed) (tag size : ℕ) → is_allowed p tag size ≡ true → Has tag size
unfolding is_allowed
kinds_all p tag size h =
    ⊎_elim (λ (t : eqb tag head_tag ≡ true). by_row 0 tag head_tag size (omega arith) refl t (and-true (eqb size 4) (not (headed p)) (rw t at h)).0)
    (λ (a : eqb tag head_tag ≡ false).
    ⊎_elim (λ (t : eqb tag station_tag ≡ true). by_row 1 tag station_tag size (omega arith) refl t (first_of (eqb size 16) (headed p) (ltb p.stations most_stations) (eqb p.allocations 0) (rw (a, t) at h)))
    (λ (b : eqb tag station_tag ≡ false).
    ⊎_elim (λ (t : eqb tag allocation_tag ≡ true). by_row 2 tag allocation_tag size (omega arith) refl t (first_of_three (eqb size 4) (headed p) (ltb p.allocations (due p)) (rw (a, b, t) at h)))
    (λ (c : eqb tag allocation_tag ≡ false).
    ⊎_elim (λ (t : eqb tag end_tag ≡ true). by_row 6 tag end_tag size (omega arith) refl t (first_of (eqb size 0) (headed p) (leb 1 p.stations) (eqb p.allocations (due p)) (rw (a, b, c, t) at h)))
    (λ (d : eqb tag end_tag ≡ false). further p tag size (rw (a, b, c, d) at h))
    (true_or_false (eqb tag end_tag)))
    (true_or_false (eqb tag allocation_tag)))
    (true_or_false (eqb tag station_tag)))
    (true_or_false (eqb tag head_tag))
