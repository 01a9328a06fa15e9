-- How a store is laid out (02, No. 12): for each kept version a field, oldest first; then the end field; then zeros to the end of the area.
use Rattle.std.specs.Prelude.{ℕ, ◌+◌, ◌-◌, ◌/◌, ◌%◌, List, [], ◌∷◌, ◌++◌, length, get_or}
use Rattle.fields.specs.Rows.{rows}
use Rattle.fields.specs.Bytes.{bytes_of}
use Rattle.sheets.specs.Layout.{end_bytes}

-- ---- the numbers of a store

-- how many bytes an area has
abbrev pub store_size : ℕ
store_size = 65_536

-- how many versions are kept at most
abbrev pub most_kept : ℕ
most_kept = 16

-- the last number that a version is given
abbrev pub last_version : ℕ
last_version = 4_294_967_295

-- tag 32: a version
abbrev pub version_tag : ℕ
version_tag = 32

-- ---- the field of a version

-- its start: tag 32, the length 4 + n in two bytes, n being that of the plan sheet
abbrev pub version_start : ℕ → List ℕ
version_start n = version_tag ∷ (n + 4) / 256 % 256 ∷ (n + 4) % 256 ∷ []

-- the field: its start, its number in four bytes, then the bytes of its plan sheet
unfoldable pub version_bytes : ℕ → List ℕ → List ℕ
version_bytes number sheet = version_start (length sheet) ++ bytes_of number ++ sheet

-- ---- the store

-- what a store keeps: how many numbers were given before the oldest version, and the plan sheets, oldest first
pub record Kept : Type 0 where
  pub before : ℕ
  pub sheets : List (List ℕ)

-- how many versions it keeps
abbrev pub count : Kept → ℕ
count v = length v.sheets

-- the number of version k, from 0 on: they run on from the numbers before
abbrev pub number_of : Kept → ℕ → ℕ
number_of v k = v.before + k + 1

-- its plan sheet
abbrev pub sheet_of : Kept → ℕ → List ℕ
sheet_of v k = get_or v.sheets k []

-- its field
abbrev pub field_of : Kept → ℕ → List ℕ
field_of v k = version_bytes (number_of v k) (sheet_of v k)

-- n zeros
unfoldable pub zero_bytes : ℕ → List ℕ
zero_bytes n = rows n (λ i. 0 ∷ [])

-- the bytes, and zeros behind them to the end of the area
unfoldable pub filled_up : List ℕ → List ℕ
filled_up bs = bs ++ zero_bytes (store_size - length bs)

-- the store: the fields of the versions, the end, and zeros
unfoldable pub store_of : Kept → List ℕ
store_of v = filled_up (rows (count v) (field_of v) ++ end_bytes)

-- the store without a version: the end, and zeros
abbrev pub empty_store : List ℕ
empty_store = filled_up end_bytes
