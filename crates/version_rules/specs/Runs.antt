-- Calls between two emptyings: plans handed in to be stored one after another. Finding and asking for the versions write nothing: the area is lent to them for reading.
use Rattle.std.specs.Prelude.{ℕ, ◌≤◌, ◌<◌, ◌≡◌, cond, List, [], ◌∷◌, eqb, length, get_or}
use Rattle.sheets.specs.Reading.{read_plan}
use Rattle.versions.specs.Layout.{last_version, empty_store}
use Rattle.versions.specs.Answers.{store_number, stored_answer, stored_area}

-- the area after them, whether each was accepted or refused
unfoldable pub after_stores : List ℕ → List (List ℕ) → List ℕ
after_stores bs [] = bs
after_stores bs (sheet ∷ sheets) = after_stores (stored_area bs sheet) sheets

-- the numbers that were given, in their order; a refused plan is given none
unfoldable pub given : List ℕ → List (List ℕ) → List ℕ
given bs [] = []
given bs (sheet ∷ sheets) =
    cond (eqb (store_number bs sheet) 0) ((stored_answer bs sheet).version ∷ given (stored_area bs sheet) sheets)
    (given (stored_area bs sheet) sheets)

-- storing leads to the area from an empty store: by plans that plan reading accepts, one after another, as many as there are numbers or fewer
pub record Reached (bs : List ℕ) : Type 0 where
  pub plans : List (List ℕ)
  pub read : (k : ℕ) → k < length plans → (read_plan (get_or plans k [])).number ≡ 0
  pub few : length plans ≤ last_version
  pub gives : bs ≡ after_stores empty_store plans
