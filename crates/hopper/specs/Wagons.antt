-- A wagon and a list of wagons: the ranges as sentences and as tests, the judgement of any list whatever, and a list with one wagon changed, more or less.
use Rattle.std.specs.Prelude.{ℕ, ◌+◌, ◌-◌, ◌≤◌, ◌<◌, ◌≡◌, Bool, cond, ◌&&◌, leb, length, set, replicate}
use Rattle.units.specs.Numbers.{accepted, wrong_shape, out_of_range}
use Rattle.units.specs.Places.{at, all_below}
use Rattle.units.specs.Judging.{or_else, between}
use Rattle.hopper.specs.declared.Wagon.{Wagon}
use Rattle.hopper.specs.declared.WagonList.{WagonList}

-- how many wagons a list may have, and how many axle boxes a wagon
abbrev pub most_wagons : ℕ
most_wagons = 12

abbrev pub most_boxes : ℕ
most_boxes = 8

-- ---- the sentences

-- axle boxes: 0 to 8; a brake unit and a door unit: 1 where fitted, 0 where not
pub record WagonFits (boxes brake door : ℕ) : Type 0 where
  pub axles : boxes ≤ most_boxes
  pub braked : brake ≤ 1
  pub doored : door ≤ 1

-- wagons: 1 to 12
abbrev pub CountFits : WagonList → Type 0
CountFits l = (1 ≤ l.n) × (l.n ≤ most_wagons)

-- every wagon of the list is in its ranges
abbrev pub WagonsFit : WagonList → Type 0
WagonsFit l = (i : ℕ) → i < l.n → WagonFits (at l.boxes i) (at l.brake i) (at l.door i)

-- the list is one of the product's
pub record ListFits (l : WagonList) : Type 0 where
  pub count : CountFits l
  pub wagons : WagonsFit l

-- ---- the shape of a list of the code

-- the arrays have twelve places each, as those of every list of the code have
pub record Shaped (l : WagonList) : Type 0 where
  pub boxes : length l.boxes ≡ 12
  pub brake : length l.brake ≡ 12
  pub door : length l.door ≡ 12

-- r is that count of places
pub record Placed (l : WagonList) (r : ℕ) : Type 0 where
  pub count : r ≡ 12
  pub all : Shaped l

-- ---- the same as tests

unfoldable pub wagon_fits : ℕ → ℕ → ℕ → Bool
wagon_fits boxes brake door = leb boxes most_boxes && leb brake 1 && leb door 1

abbrev pub wagon_fits_at : WagonList → ℕ → Bool
wagon_fits_at l i = wagon_fits (at l.boxes i) (at l.brake i) (at l.door i)

abbrev pub count_fits : WagonList → Bool
count_fits l = between 1 most_wagons l.n

abbrev pub wagons_fit : WagonList → Bool
wagons_fit l = all_below l.n (wagon_fits_at l)

-- ---- the judgement: 2 for a count that is not 1 to 12, 4 for a wagon out of its ranges, or 0

unfoldable pub judged_list : WagonList → ℕ
judged_list l = or_else (count_fits l) wrong_shape (or_else (wagons_fit l) out_of_range accepted)

-- ---- lists with one wagon changed, more or less

-- no wagon
abbrev pub blank_list : WagonList
blank_list = record { n = 0; boxes = replicate 12 0; brake = replicate 12 0; door = replicate 12 0 }

-- this wagon at a place; where an array has no such place, the list as it was
unfoldable pub with_wagon : WagonList → ℕ → Wagon → WagonList
with_wagon l i v =
    cond (leb 12 i) l
    (record {
      n = l.n;
      boxes = set l.boxes i v.boxes;
      brake = set l.brake i v.brake;
      door = set l.door i v.door;
    })

-- the same places with another count
abbrev pub with_count : WagonList → ℕ → WagonList
with_count l n = record { n = n; boxes = l.boxes; brake = l.brake; door = l.door }

-- one wagon more at the end; where there are twelve already the count alone rises, to thirteen, which no list may have
unfoldable pub with_more : WagonList → Wagon → WagonList
with_more l v = cond (leb most_wagons l.n) (with_count l (most_wagons + 1)) (with_count (with_wagon l l.n v) (l.n + 1))

-- the last one off
abbrev pub without_last : WagonList → WagonList
without_last l = with_count l (l.n - 1)
