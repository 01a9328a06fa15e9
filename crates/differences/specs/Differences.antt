-- The differences of two plans: header fields first in tag order, then stations in number order, within a station w, C, D, P, S; stations on one side only come last.
use Rattle.std.specs.Prelude.{ℕ, zero, suc, ◌+◌, ◌-◌, ◌*◌, ◌<◌, min, ◌≡◌, Bool, true, false, cond, ◌&&◌, List, [], ◌∷◌, ◌++◌, ◌⊎◌, ◌≢◌, eqb, leb}
use Rattle.units.specs.Numbers.{most_stations}
use Rattle.sets.specs.declared.Set.{Set}
use Rattle.plans.specs.declared.Alloc.{Alloc}
use Rattle.differences.specs.Views.{View, HeaderTag, nth_of, view_of}

pub data Difference : Type 0 where
  -- a number of the header: its tag, old and new
  in_header : ℕ → ℕ → ℕ → Difference
  -- a number of a station that both plans have: the station, which of its numbers, old and new
  in_station : ℕ → ℕ → ℕ → ℕ → Difference
  -- a station that one plan alone has: whether it is the new one, the station, and its w, C, D, P, S
  one_sided : Bool → ℕ → ℕ → ℕ → ℕ → ℕ → ℕ → Difference

-- ---- what is listed

-- of two numbers: nothing where they are the same
unfoldable pub changed : (ℕ → ℕ → Difference) → ℕ → ℕ → List Difference
changed make old new = cond (eqb old new) [] (make old new ∷ [])

-- list 0, then list 1, up to list n − 1
unfoldable pub gathered : ℕ → (ℕ → List Difference) → List Difference
gathered zero f = []
gathered (suc n) f = gathered n f ++ f n

-- the header's field with this tag, of two headers by their tags
abbrev pub header_changed : (ℕ → ℕ) → (ℕ → ℕ) → ℕ → List Difference
header_changed f g tag = changed (in_header tag) (f tag) (g tag)

-- tag 1, then 4, 5 and 6
abbrev pub headers_changed : (ℕ → ℕ) → (ℕ → ℕ) → List Difference
headers_changed f g = header_changed f g 1 ++ gathered 3 (λ k. header_changed f g (4 + k))

-- station i, which both plans have, by its numbers on both sides
abbrev pub station_changed : (ℕ → ℕ → ℕ) → (ℕ → ℕ → ℕ) → ℕ → List Difference
station_changed f g i = gathered 5 (λ j. changed (in_station i j) (f i j) (g i j))

-- station i, which one plan alone has
abbrev pub alone : Bool → (ℕ → ℕ → ℕ) → ℕ → Difference
alone new f i = one_sided new i (f i 0) (f i 1) (f i 2) (f i 3) (f i 4)

-- k stations from station i on, which one plan alone has
abbrev pub alone_from : Bool → (ℕ → ℕ → ℕ) → ℕ → ℕ → List Difference
alone_from new f i k = gathered k (λ j. alone new f (i + j) ∷ [])

-- of plans with n and m stations; of the last two lists one at least is empty
abbrev pub listed : ℕ → ℕ → View → View → List Difference
listed n m v w =
    headers_changed v.header w.header
    ++ (gathered (min n m) (station_changed v.number w.number)
    ++ (alone_from true w.number n (m - n) ++ alone_from false v.number m (n - m)))

-- the differences of the old plan, t and a, and the new plan, u and b
abbrev pub differences : Set → Alloc → Set → Alloc → List Difference
differences t a u b = listed t.n u.n (view_of t a) (view_of u b)

-- nothing is listed
unfoldable pub is_none : List Difference → Bool
is_none [] = true
is_none (d ∷ ds) = false

-- the plans do not differ; a plan with more stations than there can be is the same as no plan, not even as itself
abbrev pub is_same_plan : Set → Alloc → Set → Alloc → Bool
is_same_plan t a u b = leb t.n most_stations && is_none (differences t a u b)

-- ---- what it is to apply them

-- the new number takes the old one's place; a station of the new plan comes, and one of the old plan goes
unfoldable pub apply : Difference → View → View
apply (in_header tag old new) v =
    record { header = λ k. cond (eqb k tag) new (v.header k); has = v.has; number = v.number }
apply (in_station i j old new) v =
    record { header = v.header; has = v.has; number = λ k l. cond (eqb k i && eqb l j) new (v.number k l) }
apply (one_sided new i w c d p s) v =
    record {
      header = v.header;
      has = λ k. cond (eqb k i) new (v.has k);
      number = λ k l. cond (new && eqb k i) (nth_of w c d p s l) (v.number k l);
    }

-- one after another
unfoldable pub apply_all : List Difference → View → View
apply_all [] v = v
apply_all (d ∷ ds) v = apply_all ds (apply d v)

-- ---- what a listed difference says

-- it stands at a place at which the plans differ, its old numbers are those of v and its new ones those of w
abbrev pub Differs : View → View → Difference → Type 0
Differs v w (in_header tag old new) = HeaderTag tag × ((old ≡ v.header tag) × (new ≡ w.header tag)) × (old ≢ new)
Differs v w (in_station i j old new) =
    ((v.has i ≡ true) × (w.has i ≡ true)) × (j < 5) × ((old ≡ v.number i j) × (new ≡ w.number i j)) × (old ≢ new)
Differs v w (one_sided true i a b c d e) =
    ((v.has i ≡ false) × (w.has i ≡ true)) × (one_sided true i a b c d e ≡ alone true w.number i)
Differs v w (one_sided false i a b c d e) =
    ((v.has i ≡ true) × (w.has i ≡ false)) × (one_sided false i a b c d e ≡ alone false v.number i)

-- where it stands in the order: the header by its tags, 1 to 6; the stations of both from 10 to 649, at most 128 of them with five numbers each; those of one side from 1,000 on
unfoldable pub position : Difference → ℕ
position (in_header tag old new) = tag
position (in_station i j old new) = 10 + (5 * i + j)
position (one_sided new i a b c d e) = 1_000 + i

-- it is one of the list
abbrev pub In : Difference → List Difference → Type 0
In d [] = ⊥
In d (e ∷ ds) = (d ≡ e) ⊎ In d ds

-- each stands behind the one before
abbrev pub Rising : List Difference → Type 0
Rising [] = Unit {0}
Rising (d ∷ ds) = ((e : Difference) → In e ds → position d < position e) × Rising ds
