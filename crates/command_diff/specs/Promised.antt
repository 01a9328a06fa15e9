-- What is promised of what `diff` prints; `proofs/Promised.antt` proves it.
use Rattle.std.specs.Prelude.{ℕ, ◌^◌, ◌≤◌, ◌<◌, ◌≡◌, true, List, [], ◌∷◌, ◌≢◌, ◌↔◌, take}
use Rattle.fields.specs.Bytes.{AllBytes}
use Rattle.sets.specs.declared.Set.{Set}
use Rattle.plans.specs.declared.Alloc.{Alloc}
use Rattle.sheets.specs.Layout.{plan_read}
use Rattle.sheets.specs.Reading.{read_plan}
use Rattle.sheet_rules.specs.Promised.{There}
use Rattle.text.specs.Text.{line, decimal_of, refused_word}
use Rattle.differences.specs.Views.{View, view_of, SamePlan}
use Rattle.differences.specs.Differences.{Difference, in_header, in_station, one_sided, differences, Differs, In}
use Rattle.differences.specs.Promised.{Lists}
use Rattle.command_diff.specs.declared.Diffed.{Diffed}
use Rattle.command_diff.specs.DiffText.{old_word, new_word, same_word, line_of, diff_text, diff_printed, LinesPut, DiffedOn}

-- each of its numbers is below 2 ^ 64, and the letter is one of five
abbrev pub Writable : Difference → Type 0
Writable (in_header tag old new) = (tag < 2 ^ 64) × (old < 2 ^ 64) × (new < 2 ^ 64)
Writable (in_station i j old new) = ((i < 2 ^ 64) × (j < 5)) × (old < 2 ^ 64) × (new < 2 ^ 64)
Writable (one_sided new i w c d p s) =
    ((i < 2 ^ 64) × (w < 2 ^ 64)) × ((c < 2 ^ 64) × (d < 2 ^ 64)) × (p < 2 ^ 64) × (s < 2 ^ 64)

abbrev pub AllWritable : List Difference → Type 0
AllWritable ds = (d : Difference) → In d ds → Writable d

-- the plan in a file, as it is compared
abbrev pub plan_in : List ℕ → View
plan_in bs = view_of (read_plan bs).set (read_plan bs).alloc

-- the differences of the plans in two files
abbrev pub differences_in : List ℕ → List ℕ → List Difference
differences_in old new = differences (read_plan old).set (read_plan old).alloc (read_plan new).set (read_plan new).alloc

-- a list of differences of these plans: applied to the first it gives the second, nothing is listed that does not differ, and the order is that of 02
abbrev pub ListsIn : List ℕ → List ℕ → List Difference → Type 0
ListsIn old new ds = Lists (read_plan old).set (read_plan old).alloc (read_plan new).set (read_plan new).alloc ds

-- both files hold plan sheets that are accepted
abbrev pub BothPlans : List ℕ → List ℕ → Type 0
BothPlans old new = ((read_plan old).number ≡ 0) × ((read_plan new).number ≡ 0)

-- `same` is printed
abbrev pub SaysSame : List ℕ → Type 0
SaysSame text = text ≡ line (same_word ∷ [])

-- two plan sheets: TTRT 100 and stations 2 20 100 100 20 and 1 20 100 100 20; with F 3, the stations 1 10 200 200 5, 1 20 100 100 20 and 0 10 100 100 10
abbrev pub left_sheet : List ℕ
left_sheet =
    1 ∷ 0 ∷ 4 ∷ 0 ∷ 0 ∷ 0 ∷ 100 ∷ 2 ∷ 0 ∷ 16 ∷ 0 ∷ 0 ∷ 0 ∷ 2 ∷ 0 ∷ 0 ∷ 0 ∷ 20 ∷ 0 ∷ 0 ∷ 0 ∷ 100 ∷ 0 ∷ 0 ∷
    0 ∷ 100 ∷ 2 ∷ 0 ∷ 16 ∷ 0 ∷ 0 ∷ 0 ∷ 1 ∷ 0 ∷ 0 ∷ 0 ∷ 20 ∷ 0 ∷ 0 ∷ 0 ∷ 100 ∷ 0 ∷ 0 ∷ 0 ∷ 100 ∷ 3 ∷ 0 ∷ 4 ∷
    0 ∷ 0 ∷ 0 ∷ 20 ∷ 3 ∷ 0 ∷ 4 ∷ 0 ∷ 0 ∷ 0 ∷ 20 ∷ 255 ∷ 0 ∷ 0 ∷ []

abbrev pub back_sheet : List ℕ
back_sheet =
    1 ∷ 0 ∷ 4 ∷ 0 ∷ 0 ∷ 0 ∷ 100 ∷ 5 ∷ 0 ∷ 4 ∷ 0 ∷ 0 ∷ 0 ∷ 3 ∷ 2 ∷ 0 ∷ 16 ∷ 0 ∷ 0 ∷ 0 ∷ 1 ∷ 0 ∷ 0 ∷ 0 ∷
    10 ∷ 0 ∷ 0 ∷ 0 ∷ 200 ∷ 0 ∷ 0 ∷ 0 ∷ 200 ∷ 2 ∷ 0 ∷ 16 ∷ 0 ∷ 0 ∷ 0 ∷ 1 ∷ 0 ∷ 0 ∷ 0 ∷ 20 ∷ 0 ∷ 0 ∷ 0 ∷ 100 ∷
    0 ∷ 0 ∷ 0 ∷ 100 ∷ 2 ∷ 0 ∷ 16 ∷ 0 ∷ 0 ∷ 0 ∷ 0 ∷ 0 ∷ 0 ∷ 0 ∷ 10 ∷ 0 ∷ 0 ∷ 0 ∷ 100 ∷ 0 ∷ 0 ∷ 0 ∷ 100 ∷ 3 ∷
    0 ∷ 4 ∷ 0 ∷ 0 ∷ 0 ∷ 5 ∷ 3 ∷ 0 ∷ 4 ∷ 0 ∷ 0 ∷ 0 ∷ 20 ∷ 3 ∷ 0 ∷ 4 ∷ 0 ∷ 0 ∷ 0 ∷ 10 ∷ 255 ∷ 0 ∷ 0 ∷ []

-- `5 1 3`, `0 w 2 1`, `0 C 20 10`, `0 D 100 200`, `0 P 100 200`, `0 S 20 5`, `2 new 0 10 100 100 10`
abbrev pub left_to_back : List ℕ
left_to_back =
    53 ∷ 32 ∷ 49 ∷ 32 ∷ 51 ∷ 10 ∷ 48 ∷ 32 ∷ 119 ∷ 32 ∷ 50 ∷ 32 ∷ 49 ∷ 10 ∷ 48 ∷ 32 ∷ 67 ∷ 32 ∷ 50 ∷ 48 ∷ 32 ∷ 49 ∷ 48 ∷
    10 ∷
    48 ∷ 32 ∷ 68 ∷ 32 ∷ 49 ∷ 48 ∷ 48 ∷ 32 ∷ 50 ∷ 48 ∷ 48 ∷ 10 ∷ 48 ∷ 32 ∷ 80 ∷ 32 ∷ 49 ∷ 48 ∷ 48 ∷ 32 ∷ 50 ∷ 48 ∷ 48 ∷
    10 ∷
    48 ∷ 32 ∷ 83 ∷ 32 ∷ 50 ∷ 48 ∷ 32 ∷ 53 ∷ 10 ∷ 50 ∷ 32 ∷ 110 ∷ 101 ∷ 119 ∷ 32 ∷ 48 ∷ 32 ∷ 49 ∷ 48 ∷ 32 ∷ 49 ∷ 48 ∷
    48 ∷ 32 ∷
    49 ∷ 48 ∷ 48 ∷ 32 ∷ 49 ∷ 48 ∷ 10 ∷ []

-- `5 3 1`, `0 w 1 2`, `0 C 10 20`, `0 D 200 100`, `0 P 200 100`, `0 S 5 20`, `2 old 0 10 100 100 10`
abbrev pub back_to_left : List ℕ
back_to_left =
    53 ∷ 32 ∷ 51 ∷ 32 ∷ 49 ∷ 10 ∷ 48 ∷ 32 ∷ 119 ∷ 32 ∷ 49 ∷ 32 ∷ 50 ∷ 10 ∷ 48 ∷ 32 ∷ 67 ∷ 32 ∷ 49 ∷ 48 ∷ 32 ∷ 50 ∷ 48 ∷
    10 ∷
    48 ∷ 32 ∷ 68 ∷ 32 ∷ 50 ∷ 48 ∷ 48 ∷ 32 ∷ 49 ∷ 48 ∷ 48 ∷ 10 ∷ 48 ∷ 32 ∷ 80 ∷ 32 ∷ 50 ∷ 48 ∷ 48 ∷ 32 ∷ 49 ∷ 48 ∷ 48 ∷
    10 ∷
    48 ∷ 32 ∷ 83 ∷ 32 ∷ 53 ∷ 32 ∷ 50 ∷ 48 ∷ 10 ∷ 50 ∷ 32 ∷ 111 ∷ 108 ∷ 100 ∷ 32 ∷ 48 ∷ 32 ∷ 49 ∷ 48 ∷ 32 ∷ 49 ∷ 48 ∷
    48 ∷ 32 ∷
    49 ∷ 48 ∷ 48 ∷ 32 ∷ 49 ∷ 48 ∷ 10 ∷ []

pub record Promised : Type 0 where
  -- the lines of 02: `5 1 40`, `3 S 20 25`, `4 new 0 20 100 100 20`
  pub header_line : line_of (in_header 5 1 40) ≡ 53 ∷ 32 ∷ 49 ∷ 32 ∷ 52 ∷ 48 ∷ 10 ∷ []
  pub station_line_lem : line_of (in_station 3 4 20 25) ≡ 51 ∷ 32 ∷ 83 ∷ 32 ∷ 50 ∷ 48 ∷ 32 ∷ 50 ∷ 53 ∷ 10 ∷ []
  pub alone_line : line_of (one_sided true 4 0 20 100 100 20)
      ≡ 52 ∷ 32 ∷ 110 ∷ 101 ∷ 119 ∷ 32 ∷ 48 ∷ 32 ∷ 50 ∷ 48 ∷ 32 ∷ 49 ∷ 48 ∷ 48 ∷ 32 ∷ 49 ∷ 48 ∷ 48 ∷ 32 ∷ 50 ∷ 48 ∷
      10 ∷ []
  -- two plans with every kind of line, to the byte, from the bytes of two files
  pub worked : diff_printed left_sheet back_sheet ≡ left_to_back
  pub worked_back : diff_printed back_sheet left_sheet ≡ back_to_left
  -- `old refused 1`, `new refused 1`
  pub refusal_line : diff_printed [] []
      ≡ 111 ∷ 108 ∷ 100 ∷ 32 ∷ 114 ∷ 101 ∷ 102 ∷ 117 ∷ 115 ∷ 101 ∷ 100 ∷ 32 ∷ 49 ∷ 10 ∷ []
  pub new_refusal_line : diff_printed left_sheet []
      ≡ 110 ∷ 101 ∷ 119 ∷ 32 ∷ 114 ∷ 101 ∷ 102 ∷ 117 ∷ 115 ∷ 101 ∷ 100 ∷ 32 ∷ 49 ∷ 10 ∷ []
  -- the lines can be read back: two lists with the same text are the same
  pub read_back : (ds es : List Difference) → AllWritable ds → AllWritable es → diff_text ds ≡ diff_text es → ds ≡ es
  -- of two plans that are accepted the text of their differences is printed, it is such a list, and it can be read back
  pub compared : (old new : List ℕ) → BothPlans old new
      → (diff_printed old new ≡ diff_text (differences_in old new))
      × ListsIn old new (differences_in old new)
      × AllWritable (differences_in old new)
  -- what is printed is the text of one list only, and that is the list of the differences
  pub only_list : (old new : List ℕ) (ds : List Difference)
      → BothPlans old new → AllWritable ds → (diff_printed old new ≡ diff_text ds) ↔ ListsIn old new ds
  -- all that differs is listed
  pub all_listed : (old new : List ℕ) (d : Difference)
      → Differs (plan_in old) (plan_in new) d → In d (differences_in old new)
  -- an absent mode, F or g counts as 1
  pub absent_one : (bs : List ℕ) (tag : ℕ)
      → (read_plan bs).number ≡ 0 → 4 ≤ tag → tag ≤ 6 → ¬ There bs tag → (plan_in bs).header tag ≡ 1
  -- a refused sheet prints which side and the number, the first side's if both are
  pub old_refused_lem : (old new : List ℕ)
      → (read_plan old).number ≢ 0
      → diff_printed old new ≡ line (old_word ∷ refused_word ∷ decimal_of (read_plan old).number ∷ [])
  pub new_refused_lem : (old new : List ℕ) → (read_plan old).number ≡ 0 → (read_plan new).number ≢ 0
      → diff_printed old new ≡ line (new_word ∷ refused_word ∷ decimal_of (read_plan new).number ∷ [])
  -- `same` is printed exactly if both files hold accepted plans, and these are the same in every number of the header and of each station
  pub same_files : (old new : List ℕ)
      → SaysSame (diff_printed old new) ↔ (BothPlans old new × SamePlan (plan_in old) (plan_in new))
  -- that is: the old file holds an accepted plan, and the new one the same bytes
  pub same_bytes_lem : (old new : List ℕ)
      → AllBytes old → AllBytes new → SaysSame (diff_printed old new) ↔ (((read_plan old).number ≡ 0) × (old ≡ new))
  -- what is handed back tells `same`, by which the status goes, exactly where it is printed, whatever the page
  pub same_told : (old new before after : List ℕ) (r : Diffed) → DiffedOn (read_plan old) (read_plan new) before after r
      → (r.same ≡ true) ↔ SaysSame (take r.length after)
  -- wherever the lines are put, and whether or not there is room for them, the contract leaves no second page and no second answer
  pub lines_decided : (t : Set) (a : Alloc) (u : Set) (b : Alloc) (before : List ℕ) (place : ℕ) (after after' : List ℕ)
      (r r' : ℕ)
      → LinesPut t a u b before place after r → LinesPut t a u b before place after' r' → (after ≡ after') × (r ≡ r')
  -- the first 3,357 bytes of each file, or more, are enough: what is printed is what is printed of all the bytes
  pub enough_read : (old new : List ℕ) (n m : ℕ)
      → plan_read ≤ n → plan_read ≤ m → diff_printed (take n old) (take m new) ≡ diff_printed old new
