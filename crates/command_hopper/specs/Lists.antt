-- A text of wagons, read byte after byte: a line `wagon BOXES BRAKE DOOR` for each, from the head of the train on.
use Rattle.std.specs.Prelude.{ℕ, ◌+◌, ◌≤◌, ◌<◌, ◌^◌, Bool, cond, Option, None, Some, List, [], ◌∷◌, ◌++◌, eqb}
use Rattle.std.specs.Option.{option_or}
use Rattle.units.specs.Places.{at}
use Rattle.hopper.specs.Wagons.{blank_list, with_more}
use Rattle.hopper.specs.declared.Wagon.{Wagon}
use Rattle.hopper.specs.declared.WagonList.{WagonList}
use Rattle.text.specs.Text.{newline}
use Rattle.line_reader.specs.Scan.{fresh_scan, stepped, is_empty_line, code_of, next_line}
use Rattle.line_reader.specs.declared.Scan.{Scan}
use Rattle.command_compose.specs.Compose.{is_line}
use Rattle.command_hopper.specs.declared.Listing.{Listing}

-- "wagon"
abbrev pub wagon_word : List ℕ
wagon_word = 119 ∷ 97 ∷ 103 ∷ 111 ∷ 110 ∷ []

-- `wagon BOXES BRAKE DOOR`, each a 32-bit number
abbrev pub is_wagon : Scan → Bool
is_wagon s = is_line s (code_of wagon_word) 3

-- the wagon of three numbers of a line, from the k-th on
abbrev pub wagon_in : Scan → ℕ → Wagon
wagon_in s k = record { boxes = at s.values k; brake = at s.values (k + 1); door = at s.values (k + 2) }

-- these three are 32-bit numbers
pub record Narrow (s : Scan) (k : ℕ) : Type 0 where
  pub inside : k ≤ 2
  pub boxes : at s.values k < 2 ^ 32
  pub brake : at s.values (k + 1) < 2 ^ 32
  pub door : at s.values (k + 2) < 2 ^ 32

-- ---- one line

-- nothing was read: no wagon, on line 1
abbrev pub list_start : Listing
list_start = record { list = blank_list; scan = fresh_scan; line = 1; unread = None }

-- the next line, with this list and this first line that cannot be read
abbrev pub on_next_line : Listing → WagonList → Option ℕ → Listing
on_next_line u l unread = record { list = l; scan = fresh_scan; line = next_line u.line; unread = unread }

-- the first line that cannot be read, where this one cannot
abbrev pub first_unread : Listing → Option ℕ
first_unread u = option_or u.unread (Some u.line)

-- a line ends: it is empty, or a wagon more, or cannot be read
unfoldable pub line_listed : Listing → Listing
line_listed u =
    cond (is_empty_line u.scan) (on_next_line u u.list u.unread)
    (cond (is_wagon u.scan) (on_next_line u (with_more u.list (wagon_in u.scan 0)) u.unread)
    (on_next_line u u.list (first_unread u)))

-- one byte more: a newline ends the line
unfoldable pub list_on : Listing → ℕ → Listing
list_on u b =
    cond (eqb b newline) (line_listed u)
    (record { list = u.list; scan = stepped u.scan b; line = u.line; unread = u.unread })

-- all bytes of a text
unfoldable pub list_over : Listing → List ℕ → Listing
list_over u [] = u
list_over u (b ∷ bs) = list_over (list_on u b) bs

-- what a whole text says; its last line may lack its newline
abbrev pub list_in : List ℕ → Listing
list_in text = list_over list_start (text ++ (newline ∷ []))
