-- What is promised of the texts of `hopper`, `hopper-sheet` and `refit`; `proofs/Promised.antt` proves it.
use Rattle.std.specs.Prelude.{ℕ, ◌≡◌, true, false, None, Some, is_some, List, [], ◌∷◌, ◌++◌, ◌≢◌, replicate}
use Rattle.text.specs.Text.{refused_line}
use Rattle.hopper.specs.Wagons.{ListFits}
use Rattle.hopper.specs.Requests.{set_of, list_sheet, list_planned}
use Rattle.hopper.specs.declared.WagonList.{WagonList}
use Rattle.hopper.specs.declared.Train.{Train}
use Rattle.hopper_rules.specs.Changes.{Change, new_wagon, one_more, last_off, after, PlanInForce}
use Rattle.line_reader.specs.Scan.{is_empty_line}
use Rattle.line_reader.specs.declared.Scan.{Scan}
use Rattle.command_plan.specs.PlanText.{plan_lines, plan_printed}
use Rattle.command_hopper.specs.Lists.{is_wagon, line_listed, list_over, list_in}
use Rattle.command_hopper.specs.Refits.{hopper_text, hopper_number, line_changed, answered_text, refit_from, refit_over, refit_text}
use Rattle.command_hopper.specs.declared.Change.TheVariants.{Answered}
use Rattle.command_hopper.specs.declared.Listing.{Listing}
use Rattle.command_hopper.specs.declared.Refit.{Refit}

-- a text of two wagons, a comment between them, the second without its newline: `wagon 8 1 1`, `# x`, `wagon 0 0 1`
abbrev pub two_wagons : List ℕ
two_wagons =
    119 ∷ 97 ∷ 103 ∷ 111 ∷ 110 ∷ 32 ∷ 56 ∷ 32 ∷ 49 ∷ 32 ∷ 49 ∷ 10 ∷ 35 ∷ 32 ∷ 120 ∷ 10 ∷
    119 ∷ 97 ∷ 103 ∷ 111 ∷ 110 ∷ 32 ∷ 48 ∷ 32 ∷ 48 ∷ 32 ∷ 49 ∷ []

-- the list that it says
abbrev pub two_listed : WagonList
two_listed =
    record { n = 2; boxes = 8 ∷ 0 ∷ replicate 10 0; brake = 1 ∷ 0 ∷ replicate 10 0; door = 1 ∷ 1 ∷ replicate 10 0 }

-- a text of three changes: `change 1 8 1 0`, `couple 4 0 1`, `uncouple`
abbrev pub three_changes : List ℕ
three_changes =
    99 ∷ 104 ∷ 97 ∷ 110 ∷ 103 ∷ 101 ∷ 32 ∷ 49 ∷ 32 ∷ 56 ∷ 32 ∷ 49 ∷ 32 ∷ 48 ∷ 10 ∷
    99 ∷ 111 ∷ 117 ∷ 112 ∷ 108 ∷ 101 ∷ 32 ∷ 52 ∷ 32 ∷ 48 ∷ 32 ∷ 49 ∷ 10 ∷
    117 ∷ 110 ∷ 99 ∷ 111 ∷ 117 ∷ 112 ∷ 108 ∷ 101 ∷ 10 ∷ []

-- what it asks for
abbrev pub three_asked : List Change
three_asked =
    new_wagon (record { 0 = 1 }) (record { boxes = 8; brake = 1; door = 0 }) ∷
    one_more (record { boxes = 4; brake = 0; door = 1 }) ∷ last_off ∷ []

pub record Promised : Type 0 where
  -- `hopper` prints of a list what `plan` prints of its sheet, byte for byte
  pub as_plan : (l : WagonList) → ListFits l → hopper_text l ≡ plan_printed (list_sheet l)
  -- and of a list without a sheet its refusal
  pub refused_list : (l : WagonList) → ¬ ListFits l → hopper_text l ≡ refused_line (list_planned l).number
  -- the number beside it is that of the list's answer
  pub list_number : (l : WagonList) → hopper_number l ≡ (list_planned l).number
  -- where it is 0 the text is the plan's
  pub list_plan : (l : WagonList)
      → (list_planned l).number ≡ 0 → hopper_text l ≡ plan_lines (set_of l) (list_planned l).alloc
  -- `refit` answers an accepted change with the plan in force
  pub in_force : (t : Train) → PlanInForce t → answered_text 0 t ≡ plan_lines (set_of t.list) t.plan
  -- and a refused one with its number
  pub refused_change : (t : Train) (number : ℕ) → number ≢ 0 → answered_text number t ≡ refused_line number
  -- a line that is refused, is empty or cannot be read leaves list and plan
  pub refused_line_lem : (t : Train) (s : Scan) → (line_changed t s).change ≢ Answered 0 → (line_changed t s).train ≡ t
  -- whatever the text of the changes is, the train then has the planner's plan for its list
  pub kept : (u : Refit) (text : List ℕ) → PlanInForce u.train → PlanInForce (refit_over u text).train
  -- a piece of a text may end anywhere: wagons
  pub list_pieces : (u : Listing) (first rest : List ℕ) → list_over u (first ++ rest) ≡ list_over (list_over u first) rest
  -- and changes, and what is printed of them
  pub refit_pieces : (u : Refit) (first rest : List ℕ)
      → refit_over u (first ++ rest) ≡ refit_over (refit_over u first) rest
  pub said_pieces : (u : Refit) (first rest : List ℕ)
      → refit_text u (first ++ rest) ≡ refit_text u first ++ refit_text (refit_over u first) rest
  -- the line that is named is the first that cannot be read: once there is one it stays
  pub first_unread_lem : (u : Listing) (text : List ℕ) → is_some u.unread ≡ true → (list_over u text).unread ≡ u.unread
  -- and where there is none yet, a line that is neither empty nor a wagon is it
  pub named_unread : (u : Listing)
      → u.unread ≡ None → is_empty_line u.scan ≡ false → is_wagon u.scan ≡ false → (line_listed u).unread ≡ Some u.line
  -- a text of two wagons says their list, and no line of it cannot be read
  pub two_wagons_lem : ((list_in two_wagons).list ≡ two_listed) × ((list_in two_wagons).unread ≡ None)
  -- a text of three changes asks of any train just what its lines say, one behind another
  pub three_changes_lem : (t : Train) → (refit_over (refit_from t) three_changes).train ≡ after t three_asked
