-- What the calls on an area answer, and what the area then holds, for any bytes whatever.
use Rattle.std.specs.Prelude.{ℕ, zero, suc, ◌+◌, ◌-◌, ◌<◌, ◌^◌, ◌≡◌, Bool, true, cond, ◌&&◌, List, ◌++◌, leb, ltb, eqb, length, take, drop}
use Rattle.units.specs.Numbers.{accepted, wrong_shape, no_version, versions_used}
use Rattle.units.specs.Judging.{or_else}
use Rattle.fields.specs.Fields.{size_at}
use Rattle.fields.specs.Rows.{laid}
use Rattle.sheets.specs.Layout.{end_bytes}
use Rattle.sheets.specs.Reading.{then_number, read_plan}
use Rattle.versions.specs.Layout.{store_size, most_kept, last_version, version_bytes, zero_bytes, empty_store}
use Rattle.versions.specs.Area.{place_of, before_in, count_in, end_in, newest_in, is_store, area_number}
use Rattle.versions.specs.declared.Holding.{Holding}
use Rattle.versions.specs.declared.FoundVersion.{FoundVersion}
use Rattle.versions.specs.declared.VersionsIn.{VersionsIn}
use Rattle.versions.specs.declared.StoredPlan.{StoredPlan}

-- ---- judging an area

-- the area is a store, r is what it holds, and the newest number is one of 32 bits
pub record Held (bs : List ℕ) (r : Holding) : Type 0 where
  pub store : is_store bs ≡ true
  pub before : r.before ≡ before_in bs
  pub count : r.count ≡ count_in bs
  pub end : r.end ≡ end_in bs
  pub newest : r.before + r.count < 2 ^ 32

-- ---- emptying

-- 2 for another length; else the empty store
abbrev pub is_long : List ℕ → Bool
is_long bs = eqb (length bs) store_size

abbrev pub empty_number : List ℕ → ℕ
empty_number bs = or_else (is_long bs) wrong_shape accepted

unfoldable pub emptied_area : List ℕ → List ℕ
emptied_area bs = cond (is_long bs) empty_store bs

-- emptying: the area before and after, and the number
pub record Emptied (before after : List ℕ) (number : ℕ) : Type 0 where
  pub answer : number ≡ empty_number before
  pub area : after ≡ emptied_area before

-- ---- storing

-- sixteen are kept: the oldest goes when one more comes
abbrev pub is_full : List ℕ → Bool
is_full bs = eqb (count_in bs) most_kept

-- the place of the next version: behind those that stay
unfoldable pub next_place : List ℕ → ℕ
next_place bs = cond (is_full bs) (end_in bs - place_of bs 1) (end_in bs)

-- the versions from place `by` up to the place `end` move down to the start, and what is no longer used becomes zero, with the end field there
unfoldable pub moved_down : List ℕ → ℕ → ℕ → List ℕ
moved_down bs by end = laid bs 0 (take (end - by) (drop by bs) ++ zero_bytes (by + 3))

-- the area with room for one more: the oldest of sixteen goes
unfoldable pub with_room : List ℕ → List ℕ
with_room bs = cond (is_full bs) (moved_down bs (place_of bs 1) (end_in bs)) bs

-- the area with one more version: its field behind those that stay, then the end
abbrev pub with_version : List ℕ → List ℕ → List ℕ
with_version bs sheet = laid (with_room bs) (next_place bs) (version_bytes (newest_in bs + 1) sheet ++ end_bytes)

-- 2 of the area; then 1, 2, 3, 4, 5, 7 as reading the sheet gives them; then 18 where the newest number is the last
abbrev pub store_number : List ℕ → List ℕ → ℕ
store_number bs sheet =
    then_number (area_number bs)
    (then_number (read_plan sheet).number (or_else (ltb (newest_in bs) last_version) versions_used accepted))

-- accepted: the version's number, one more than the newest; refused: 0
unfoldable pub store_answer : ℕ → ℕ → StoredPlan
store_answer zero version = record { version = version; number = 0 }
store_answer (suc k) version = record { version = 0; number = suc k }

abbrev pub stored_answer : List ℕ → List ℕ → StoredPlan
stored_answer bs sheet = store_answer (store_number bs sheet) (newest_in bs + 1)

-- refused: no byte has changed
unfoldable pub area_after : ℕ → List ℕ → List ℕ → List ℕ
area_after zero next bs = next
area_after (suc k) next bs = bs

abbrev pub stored_area : List ℕ → List ℕ → List ℕ
stored_area bs sheet = area_after (store_number bs sheet) (with_version bs sheet) bs

-- storing: the area before and after, and the answer
pub record Stored (sheet before after : List ℕ) (r : StoredPlan) : Type 0 where
  pub answer : r ≡ stored_answer before sheet
  pub area : after ≡ stored_area before sheet

-- ---- finding

-- the number is one of the kept ones
abbrev pub is_kept : List ℕ → ℕ → Bool
is_kept bs version = ltb (before_in bs) version && leb version (newest_in bs)

-- 2 of the area; then 17 where the number is not one of the kept ones
abbrev pub find_number : List ℕ → ℕ → ℕ
find_number bs version = then_number (area_number bs) (or_else (is_kept bs version) no_version accepted)

-- where the version with this number stands
abbrev pub found_place : List ℕ → ℕ → ℕ
found_place bs version = place_of bs (version - before_in bs - 1)

-- the place of its plan's first byte, and how many bytes the plan has; refused: 0 and 0
unfoldable pub found_with : ℕ → List ℕ → ℕ → FoundVersion
found_with zero bs a = record { place = a + 7; length = size_at bs a - 4; number = 0 }
found_with (suc k) bs a = record { place = 0; length = 0; number = suc k }

abbrev pub found_version : List ℕ → ℕ → FoundVersion
found_version bs version = found_with (find_number bs version) bs (found_place bs version)

-- ---- which versions there are

-- the oldest and the newest kept number; 0 and 0 where none is kept, and for an area that is no store
unfoldable pub versions_with : ℕ → List ℕ → VersionsIn
versions_with zero bs =
    record {
      oldest = cond (eqb (count_in bs) 0) 0 (before_in bs + 1);
      newest = cond (eqb (count_in bs) 0) 0 (newest_in bs);
      number = 0;
    }
versions_with (suc k) bs = record { oldest = 0; newest = 0; number = suc k }

abbrev pub versions_in : List ℕ → VersionsIn
versions_in bs = versions_with (area_number bs) bs
