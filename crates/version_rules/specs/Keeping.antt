-- What a store may keep, what one more plan does to it, and what the bytes of an area keep.
use Rattle.std.specs.Prelude.{ℕ, zero, suc, ◌+◌, ◌-◌, ◌≤◌, ◌<◌, ◌≡◌, cond, List, [], ◌∷◌, ◌++◌, ◌⊎◌, eqb, length, take, drop}
use Rattle.sheets.specs.Reading.{read_plan}
use Rattle.versions.specs.Layout.{most_kept, last_version, Kept, count, number_of, sheet_of}
use Rattle.versions.specs.Area.{sheet_at, place_of, before_in, count_in}
use Rattle.versions.specs.Answers.{found_version}

-- ---- what a store may keep

-- no number was given yet
abbrev pub nothing : Kept
nothing = record { before = 0; sheets = [] }

-- the newest number; 0 where none was given
abbrev pub newest : Kept → ℕ
newest v = v.before + count v

-- the number is that of a version that is kept
abbrev pub Among : Kept → ℕ → Type 0
Among v version = (k : ℕ) × ((k < count v) × (version ≡ number_of v k))

-- at most sixteen; all that were ever given, or sixteen; no number above the last; and each plan is one that plan reading accepts
pub record Allowed (v : Kept) : Type 0 where
  pub few : count v ≤ most_kept
  pub none_missing_lem : (v.before ≡ 0) ⊎ (count v ≡ most_kept)
  pub numbered : newest v ≤ last_version
  pub plans : (k : ℕ) → k < count v → (read_plan (sheet_of v k)).number ≡ 0

-- ---- one more plan

-- it is the newest; of sixteen the oldest goes
unfoldable pub with_plan : Kept → List ℕ → Kept
with_plan v sheet =
    cond (eqb (count v) most_kept) (record { before = v.before + 1; sheets = drop 1 v.sheets ++ (sheet ∷ []) })
    (record { before = v.before; sheets = v.sheets ++ (sheet ∷ []) })

-- of plans stored one after another on the empty store, the sixteen newest
abbrev pub last_kept : List (List ℕ) → Kept
last_kept plans = record { before = length plans - most_kept; sheets = drop (length plans - most_kept) plans }

-- ---- what an area keeps

-- the plan sheets of its first n versions, oldest first
unfoldable pub sheets_up_to : List ℕ → ℕ → List (List ℕ)
sheets_up_to bs zero = []
sheets_up_to bs (suc k) = sheets_up_to bs k ++ (sheet_at bs (place_of bs k) ∷ [])

-- all of them
abbrev pub kept_in : List ℕ → Kept
kept_in bs = record { before = before_in bs; sheets = sheets_up_to bs (count_in bs) }

-- the version is found, and these are the bytes that stand where it is said to stand
pub record Finds (area : List ℕ) (version : ℕ) (sheet : List ℕ) : Type 0 where
  pub found : (found_version area version).number ≡ 0
  pub long : (found_version area version).length ≡ length sheet
  pub bytes : take (found_version area version).length (drop (found_version area version).place area) ≡ sheet
