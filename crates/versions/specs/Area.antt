-- What stands in an area, for any bytes whatever, and when it is a store. A place past the end of the bytes reads as 0.
use Rattle.std.specs.Prelude.{ℕ, zero, suc, ◌+◌, ◌-◌, Bool, cond, ◌&&◌, ◌||◌, List, leb, eqb, length, take, drop}
use Rattle.units.specs.Numbers.{accepted, wrong_shape}
use Rattle.units.specs.Places.{at, all_below}
use Rattle.units.specs.Judging.{or_else}
use Rattle.fields.specs.Bytes.{number_at}
use Rattle.fields.specs.Fields.{end_tag, end_size, left, tag_at, size_at, behind}
use Rattle.sheets.specs.Reading.{read_plan}
use Rattle.versions.specs.Layout.{store_size, most_kept, version_tag}

-- ---- a version at a place

-- a whole field of a version stands at the place a: tag 32, and a length that has room for a number and that ends inside the bytes
unfoldable pub version_fits : List ℕ → ℕ → Bool
version_fits bs a =
    leb 7 (left bs a) && (eqb (tag_at bs a) version_tag && leb 4 (size_at bs a) && leb (size_at bs a + 3) (left bs a))

-- the plan sheet of the version at the place a: the bytes behind its number
abbrev pub sheet_at : List ℕ → ℕ → List ℕ
sheet_at bs a = take (size_at bs a - 4) (drop (a + 7) bs)

-- plan reading accepts the sheet
unfoldable pub is_plan : List ℕ → Bool
is_plan sheet = eqb (read_plan sheet).number accepted

-- a version with this number stands at the place a, and its plan is accepted
unfoldable pub version_stands : List ℕ → ℕ → ℕ → Bool
version_stands bs a number = version_fits bs a && (eqb (number_at bs (a + 3)) number && is_plan (sheet_at bs a))

-- ---- the versions of an area

-- the place of version k, from 0 on: the first stands at the start, each next one behind the one before
unfoldable pub place_of : List ℕ → ℕ → ℕ
place_of bs zero = 0
place_of bs (suc k) = behind bs (place_of bs k)

-- how many numbers were given before the oldest version, whose number stands behind the first tag and length
abbrev pub before_in : List ℕ → ℕ
before_in bs = number_at bs 3 - 1

-- version k stands at its place: the numbers run on
abbrev pub kept_at : List ℕ → ℕ → Bool
kept_at bs k = version_stands bs (place_of bs k) (before_in bs + k + 1)

-- how many of the tests 0 to n − 1 hold before the first that does not
unfoldable pub leading : ℕ → (ℕ → Bool) → ℕ
leading zero f = 0
leading (suc n) f = cond (eqb (leading n f) n && f n) (suc n) (leading n f)

-- how many versions are kept, at most 16
abbrev pub count_in : List ℕ → ℕ
count_in bs = leading most_kept (kept_at bs)

-- the place behind them
abbrev pub end_in : List ℕ → ℕ
end_in bs = place_of bs (count_in bs)

-- the newest number; 0 where none was given
abbrev pub newest_in : List ℕ → ℕ
newest_in bs = before_in bs + count_in bs

-- ---- when it is a store

-- nothing but zeros stands from the place a on
unfoldable pub zeros_from : List ℕ → ℕ → Bool
zeros_from bs a = all_below (left bs a) (λ i. eqb (at bs (a + i)) 0)

-- the end field stands at the place a, and zeros behind it
unfoldable pub ends_at : List ℕ → ℕ → Bool
ends_at bs a = leb 3 (left bs a) && (eqb (tag_at bs a) end_tag && eqb (size_at bs a) end_size && zeros_from bs (a + 3))

-- the numbers run from 1, or sixteen versions are kept
abbrev pub none_missing : List ℕ → Bool
none_missing bs = eqb (before_in bs) 0 || eqb (count_in bs) most_kept

-- the area is a store: so many bytes; the versions, none missing; then the end and zeros
unfoldable pub is_store : List ℕ → Bool
is_store bs = eqb (length bs) store_size && (none_missing bs && ends_at bs (end_in bs))

-- 2 where it is not
abbrev pub area_number : List ℕ → ℕ
area_number bs = or_else (is_store bs) wrong_shape accepted
