-- What is promised of plan versions beside the contracts; `proofs/Promised.antt` proves it. `AllBytes` holds of any slice that is lent: `fields::count_bytes` ensures it.
use Rattle.std.specs.Prelude.{ℕ, ◌+◌, ◌≤◌, ◌<◌, ◌^◌, ◌≡◌, true, false, List, [], ◌↔◌, ◌≢◌, length, drop, get_or}
use Rattle.units.specs.Places.{at}
use Rattle.fields.specs.Bytes.{number_at, AllBytes}
use Rattle.fields.specs.Fields.{tag_at, size_at}
use Rattle.sheets.specs.Reading.{read_plan}
use Rattle.versions.specs.Layout.{store_size, most_kept, last_version, version_bytes, Kept, count, store_of, empty_store}
use Rattle.versions.specs.Area.{before_in, newest_in, is_store}
use Rattle.versions.specs.Answers.{empty_number, emptied_area, is_full, store_number, stored_answer, stored_area, found_version, versions_in}
use Rattle.version_rules.specs.Keeping.{nothing, newest, Among, Allowed, with_plan, last_kept, kept_in, Finds}
use Rattle.version_rules.specs.Runs.{after_stores, given, Reached}

-- ---- the field of a version

-- tag 32, length 4 + n, its number in four bytes, then the n bytes of its plan sheet and nothing behind them
pub record FieldOf (number : ℕ) (sheet field : List ℕ) : Type 0 where
  pub tag : tag_at field 0 ≡ 32
  pub size : size_at field 0 ≡ 4 + length sheet
  pub numbered : number_at field 3 ≡ number
  pub plan : drop 7 field ≡ sheet
  pub long : length field ≡ 7 + length sheet

-- ---- the promises

pub record Promised : Type 0 where
  -- the layout: a version's field; a store has 65,536 bytes; the one without a version is the end and zeros
  pub field : (number : ℕ) (sheet : List ℕ)
      → number < 2 ^ 32 → length sheet ≤ 65_531 → FieldOf number sheet (version_bytes number sheet)
  pub long : (v : Kept) → Allowed v → length (store_of v) ≡ store_size
  pub none : store_of nothing ≡ empty_store
  -- what is laid out is a store, and is read back as it was
  pub laid_out : (v : Kept) → Allowed v → is_store (store_of v) ≡ true
  pub back : (v : Kept) → Allowed v → kept_in (store_of v) ≡ v
  -- what is read is allowed, and laid out again gives the same bytes
  pub read : (bs : List ℕ) → AllBytes bs → is_store bs ≡ true → Allowed (kept_in bs)
  pub again : (bs : List ℕ) → AllBytes bs → is_store bs ≡ true → store_of (kept_in bs) ≡ bs
  -- so an area is a store exactly if it is laid out from what a store may keep
  pub exactly : (bs : List ℕ) → AllBytes bs → (is_store bs ≡ true) ↔ ((v : Kept) × (Allowed v × (bs ≡ store_of v)))
  -- and exactly if storing leads to it from an empty store
  pub reached : (bs : List ℕ) → AllBytes bs → (is_store bs ≡ true) ↔ Reached bs
  -- plans stored one after another on the empty store: the sixteen newest are kept
  pub newest_kept : (plans : List (List ℕ))
      → ((k : ℕ) → k < length plans → (read_plan (get_or plans k [])).number ≡ 0) → length plans ≤ last_version
      → after_stores empty_store plans ≡ store_of (last_kept plans)
  -- the newest number that is read in an area is the newest of what it keeps
  pub newest_in_lem : (bs : List ℕ) → newest_in bs ≡ newest (kept_in bs)
  -- storing: the number is one more than the newest; what is kept is what was, with this plan behind it and without the oldest of sixteen
  pub stored : (bs sheet : List ℕ)
      → AllBytes bs → store_number bs sheet ≡ 0 → stored_area bs sheet ≡ store_of (with_plan (kept_in bs) sheet)
  pub kept_after : (bs sheet : List ℕ)
      → AllBytes bs → store_number bs sheet ≡ 0 → kept_in (stored_area bs sheet) ≡ with_plan (kept_in bs) sheet
  pub stays_store : (bs sheet : List ℕ) → AllBytes bs → is_store bs ≡ true → is_store (stored_area bs sheet) ≡ true
  pub one_more_lem : (bs sheet : List ℕ)
      → store_number bs sheet ≡ 0 → stored_answer bs sheet ≡ record { version = newest_in bs + 1; number = 0 }
  pub newest_is : (bs sheet : List ℕ)
      → AllBytes bs → store_number bs sheet ≡ 0 → newest_in (stored_area bs sheet) ≡ newest_in bs + 1
  -- the version just stored is found, and its bytes are the sheet's
  pub just_stored : (bs sheet : List ℕ)
      → AllBytes bs → store_number bs sheet ≡ 0 → Finds (stored_area bs sheet) (newest_in bs + 1) sheet
  -- and it is found with these bytes after any later calls, while fewer than sixteen numbers were given after its own; from then on it is 17
  pub while_newest : (bs sheet : List ℕ)
      → AllBytes bs → store_number bs sheet ≡ 0 → (later : List (List ℕ))
      → length (given (stored_area bs sheet) later) < most_kept
      → Finds (after_stores (stored_area bs sheet) later) (newest_in bs + 1) sheet
  pub no_longer : (bs sheet : List ℕ)
      → AllBytes bs → store_number bs sheet ≡ 0 → (later : List (List ℕ))
      → most_kept ≤ length (given (stored_area bs sheet) later)
      → (found_version (after_stores (stored_area bs sheet) later) (newest_in bs + 1)).number ≡ 17
  -- every other one that was found is found with the bytes it had, but for the oldest of sixteen
  pub others : (bs sheet : List ℕ)
      → AllBytes bs → store_number bs sheet ≡ 0 → (version : ℕ) (plan : List ℕ) → Finds bs version plan
      → (is_full bs ≡ true → version ≢ before_in bs + 1) → Finds (stored_area bs sheet) version plan
  -- which is 17 from then on, whatever is stored
  pub dropped : (bs sheet : List ℕ)
      → AllBytes bs → store_number bs sheet ≡ 0 → is_full bs ≡ true → (later : List (List ℕ))
      → (found_version (after_stores (stored_area bs sheet) later) (before_in bs + 1)).number ≡ 17
  -- numbers over any plans handed in between two emptyings: the first that is given is one more than the newest, and each next one is one more than the one before; so none is given twice; from an empty store on they are 1, 2, 3 and so on
  pub rising : (bs : List ℕ)
      → AllBytes bs → (sheets : List (List ℕ)) (i : ℕ) → i < length (given bs sheets)
      → at (given bs sheets) i ≡ newest_in bs + 1 + i
  pub from_one : (sheets : List (List ℕ)) (i : ℕ)
      → i < length (given empty_store sheets) → at (given empty_store sheets) i ≡ 1 + i
  pub never_twice : (bs : List ℕ)
      → AllBytes bs → (sheets : List (List ℕ)) (i j : ℕ) → i < j → j < length (given bs sheets)
      → at (given bs sheets) i < at (given bs sheets) j
  -- finding: 2 exactly if the area is no store, 17 exactly if it is one and the number is not that of a kept version, else the version's plan
  pub find_two : (bs : List ℕ) (version : ℕ) → ((found_version bs version).number ≡ 2) ↔ (is_store bs ≡ false)
  pub find_seventeen : (bs : List ℕ) (version : ℕ)
      → ((found_version bs version).number ≡ 17) ↔ ((is_store bs ≡ true) × (Among (kept_in bs) version → ⊥))
  pub finds : (bs : List ℕ)
      → is_store bs ≡ true → (k : ℕ) → k < count (kept_in bs)
      → Finds bs ((kept_in bs).before + k + 1) (get_or (kept_in bs).sheets k [])
  pub find_refused : (bs : List ℕ) (version : ℕ)
      → (found_version bs version).number ≢ 0
      → ((found_version bs version).place ≡ 0) × ((found_version bs version).length ≡ 0)
  -- whatever is asked, the bytes that are found lie inside the area; and no version has the number 0
  pub find_inside : (bs : List ℕ) (version : ℕ)
      → (found_version bs version).place + (found_version bs version).length ≤ length bs
  pub find_zero : (bs : List ℕ) → is_store bs ≡ true → (found_version bs 0).number ≡ 17
  -- which versions there are
  pub versions_two : (bs : List ℕ) → is_store bs ≡ false → versions_in bs ≡ record { oldest = 0; newest = 0; number = 2 }
  pub versions_none : (bs : List ℕ)
      → is_store bs ≡ true → count (kept_in bs) ≡ 0 → versions_in bs ≡ record { oldest = 0; newest = 0; number = 0 }
  pub versions_some : (bs : List ℕ)
      → is_store bs ≡ true → count (kept_in bs) ≢ 0
      → versions_in bs ≡ record { oldest = (kept_in bs).before + 1; newest = newest (kept_in bs); number = 0 }
  -- storing's numbers: 2 of the area; then what plan reading says of the sheet; then 18, exactly where the newest number is the last
  pub store_two : (bs sheet : List ℕ) → is_store bs ≡ false → store_number bs sheet ≡ 2
  pub store_sheet : (bs sheet : List ℕ)
      → is_store bs ≡ true → (read_plan sheet).number ≢ 0 → store_number bs sheet ≡ (read_plan sheet).number
  pub eighteen : (bs sheet : List ℕ)
      → AllBytes bs
      → (store_number bs sheet ≡ 18)
      ↔ ((is_store bs ≡ true) × (((read_plan sheet).number ≡ 0) × (newest_in bs ≡ last_version)))
  pub store_zero : (bs sheet : List ℕ)
      → (store_number bs sheet ≡ 0)
      ↔ ((is_store bs ≡ true) × (((read_plan sheet).number ≡ 0) × (newest_in bs < last_version)))
  -- for ever after: no plan is given a number, and no byte changes
  pub used_up : (bs : List ℕ)
      → newest_in bs ≡ last_version → (later : List (List ℕ)) → (after_stores bs later ≡ bs) × (given bs later ≡ [])
  -- a refused call changes no byte
  pub store_refused : (bs sheet : List ℕ)
      → store_number bs sheet ≢ 0
      → (stored_area bs sheet ≡ bs) × (stored_answer bs sheet ≡ record { version = 0; number = store_number bs sheet })
  pub empty_refused : (bs : List ℕ) → length bs ≢ store_size → (empty_number bs ≡ 2) × (emptied_area bs ≡ bs)
  -- emptying any area of that length gives the empty store, whose next number is 1
  pub emptied : (bs : List ℕ) → length bs ≡ store_size → (empty_number bs ≡ 0) × (emptied_area bs ≡ empty_store)
  pub empty_is_store : is_store empty_store ≡ true
  pub empty_keeps : kept_in empty_store ≡ nothing
  pub empty_next : (sheet : List ℕ)
      → (read_plan sheet).number ≡ 0 → stored_answer empty_store sheet ≡ record { version = 1; number = 0 }
