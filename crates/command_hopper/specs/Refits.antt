-- What is printed of a list; a text of changes, read byte after byte, and what is printed of each.
use Rattle.std.specs.Prelude.{ℕ, ◌≡◌, Bool, true, false, cond, List, [], ◌∷◌, ◌++◌, ltb, eqb, length}
use Rattle.units.specs.Places.{at}
use Rattle.hopper.specs.Wagons.{with_more, without_last}
use Rattle.hopper.specs.Requests.{list_request}
use Rattle.hopper.specs.Trains.{changed_train, changed_wagon}
use Rattle.hopper.specs.declared.WagonList.{WagonList}
use Rattle.hopper.specs.declared.Train.{Train}
use Rattle.hopper.specs.declared.Coupled.{Coupled}
use Rattle.text.specs.Text.{newline, page_size, text_or, unread_line, Printed}
use Rattle.line_reader.specs.Scan.{fresh_scan, stepped, is_empty_line, code_of, next_line}
use Rattle.line_reader.specs.declared.Scan.{Scan}
use Rattle.command_compose.specs.Compose.{is_line}
use Rattle.command_plan.specs.PlanText.{request_text}
use Rattle.command_plan.specs.PlanSheet.{planning_number}
use Rattle.command_hopper.specs.Lists.{wagon_in}
use Rattle.command_hopper.specs.declared.Change.{Change}
use Rattle.command_hopper.specs.declared.Change.TheVariants.{Nothing, Answered, Unread}
use Rattle.command_hopper.specs.declared.Changed.{Changed}
use Rattle.command_hopper.specs.declared.Refit.{Refit}
use Rattle.command_hopper.specs.declared.Refitted.{Refitted}

-- ---- what `hopper` prints

-- the plan of a list, or why there is none
abbrev pub hopper_text : WagonList → List ℕ
hopper_text l = request_text (list_request l)

-- its number
abbrev pub hopper_number : WagonList → ℕ
hopper_number l = planning_number (list_request l)

-- ---- the lines of `refit`

-- "change"
abbrev pub change_word : List ℕ
change_word = 99 ∷ 104 ∷ 97 ∷ 110 ∷ 103 ∷ 101 ∷ []

-- "couple"
abbrev pub couple_word : List ℕ
couple_word = 99 ∷ 111 ∷ 117 ∷ 112 ∷ 108 ∷ 101 ∷ []

-- "uncouple"
abbrev pub uncouple_word : List ℕ
uncouple_word = 117 ∷ 110 ∷ 99 ∷ 111 ∷ 117 ∷ 112 ∷ 108 ∷ 101 ∷ []

-- `change PLACE BOXES BRAKE DOOR`
abbrev pub is_change : Scan → Bool
is_change s = is_line s (code_of change_word) 4

-- `couple BOXES BRAKE DOOR`
abbrev pub is_couple : Scan → Bool
is_couple s = is_line s (code_of couple_word) 3

-- `uncouple`
abbrev pub is_uncouple : Scan → Bool
is_uncouple s = is_line s (code_of uncouple_word) 0

-- a change was asked for: the train then, and the number
abbrev pub told_of : Coupled → Changed
told_of c = record { train = c.train; change = Answered c.number }

-- what a line asks for, and the train then
unfoldable pub line_changed : Train → Scan → Changed
line_changed t s =
    cond (is_empty_line s) (record { train = t; change = Nothing })
    (cond (is_change s) (told_of (changed_wagon t (record { 0 = at s.values 0 }) (wagon_in s 1)))
    (cond (is_couple s) (told_of (changed_train t (with_more t.list (wagon_in s 0))))
    (cond (is_uncouple s) (told_of (changed_train t (without_last t.list)))
    (record { train = t; change = Unread }))))

-- the plan now in force, or the refusal
abbrev pub answered_text : ℕ → Train → List ℕ
answered_text number t = text_or number (hopper_text t.list)

-- what is printed of a line with this number
unfoldable pub change_text : Change → Train → ℕ → List ℕ
change_text Nothing t n = []
change_text (Answered number) t n = answered_text number t
change_text Unread t n = unread_line n

-- the line cannot be read
abbrev pub is_unread : Change → Bool
is_unread Nothing = false
is_unread (Answered number) = false
is_unread Unread = true

-- ---- byte after byte

-- the changes of a train begin on line 1
abbrev pub refit_from : Train → Refit
refit_from t = record { train = t; scan = fresh_scan; line = 1 }

-- a line ends: the changes on the next line, and what stands on the page
abbrev pub line_refit : Refit → Refit
line_refit u = record { train = (line_changed u.train u.scan).train; scan = fresh_scan; line = next_line u.line }

pub record EndedLine (u : Refit) (before after : List ℕ) (r : Refitted) : Type 0 where
  pub behind : r.refit ≡ line_refit u
  pub said : Printed
      (change_text (line_changed u.train u.scan).change (line_changed u.train u.scan).train u.line)
      before after r.length
  pub unread : r.unread ≡ is_unread (line_changed u.train u.scan).change

-- one byte more: a newline ends the line
unfoldable pub refit_on : Refit → ℕ → Refit
refit_on u b =
    cond (eqb b newline) (line_refit u)
    (record { train = u.train; scan = stepped u.scan b; line = u.line })

-- what is printed there
unfoldable pub refit_said : Refit → ℕ → List ℕ
refit_said u b =
    let c = line_changed u.train u.scan in
    cond (eqb b newline) (change_text c.change c.train u.line) []

-- a line ends there that cannot be read
unfoldable pub refit_unread : Refit → ℕ → Bool
refit_unread u b = cond (eqb b newline) (is_unread (line_changed u.train u.scan).change) false

-- the page has no room for every answer
abbrev pub is_small : List ℕ → Bool
is_small page = ltb (length page) page_size

-- a byte was read: where the changes stand, and what stands on the page; with a page that is too small all is as it was
pub record RefitRead (u : Refit) (b : ℕ) (before after : List ℕ) (r : Refitted) : Type 0 where
  pub behind : r.refit ≡ cond (is_small before) u (refit_on u b)
  pub said : Printed (refit_said u b) before after r.length
  pub unread : r.unread ≡ cond (is_small before) false (refit_unread u b)

-- ---- a whole text

-- the changes behind all bytes, and all that is printed at them
unfoldable pub refit_over : Refit → List ℕ → Refit
refit_over u [] = u
refit_over u (b ∷ bs) = refit_over (refit_on u b) bs

unfoldable pub refit_text : Refit → List ℕ → List ℕ
refit_text u [] = []
refit_text u (b ∷ bs) = refit_said u b ++ refit_text (refit_on u b) bs
