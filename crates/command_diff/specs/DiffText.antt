-- What `diff` prints of two plan sheets (02, No. 9): a line for each difference, each with its place, old and new; `same` where there is none; or which side is refused and the number.
use Rattle.std.specs.Prelude.{ℕ, zero, suc, ◌+◌, ◌≤◌, ◌<◌, ◌≡◌, Bool, true, false, ◌&&◌, List, [], ◌∷◌, ◌++◌, eqb, leb, length}
use Rattle.units.specs.Numbers.{most_stations}
use Rattle.sets.specs.declared.Set.{Set}
use Rattle.plans.specs.declared.Alloc.{Alloc}
use Rattle.sheets.specs.Reading.{read_plan}
use Rattle.sheets.specs.declared.ReadPlan.{ReadPlan}
use Rattle.text.specs.Text.{decimal_of, line, refused_word, page_size, PutShort, Printed}
use Rattle.text.specs.Pages.{Puts}
use Rattle.text.specs.declared.Page.{Page}
use Rattle.differences.specs.Differences.{Difference, in_header, in_station, one_sided, differences, is_none}
use Rattle.command_diff.specs.declared.Diffed.{Diffed}

-- ---- words

-- "w", "C", "D", "P", "S"
unfoldable pub letter_word : ℕ → List ℕ
letter_word zero = 119 ∷ []
letter_word (suc zero) = 67 ∷ []
letter_word (suc (suc zero)) = 68 ∷ []
letter_word (suc (suc (suc zero))) = 80 ∷ []
letter_word (suc (suc (suc (suc j)))) = 83 ∷ []

-- "new"
abbrev pub new_word : List ℕ
new_word = 110 ∷ 101 ∷ 119 ∷ []

-- "old"
abbrev pub old_word : List ℕ
old_word = 111 ∷ 108 ∷ 100 ∷ []

unfoldable pub side_word : Bool → List ℕ
side_word true = new_word
side_word false = old_word

-- "same"
abbrev pub same_word : List ℕ
same_word = 115 ∷ 97 ∷ 109 ∷ 101 ∷ []

-- ---- lines

-- w, C, D, P, S
abbrev pub five_words : ℕ → ℕ → ℕ → ℕ → ℕ → List (List ℕ)
five_words w c d p s = decimal_of w ∷ decimal_of c ∷ decimal_of d ∷ decimal_of p ∷ decimal_of s ∷ []

-- `5 1 40`; `3 S 20 25`; `4 new 0 20 100 100 20`
unfoldable pub words_of : Difference → List (List ℕ)
words_of (in_header tag old new) = decimal_of tag ∷ decimal_of old ∷ decimal_of new ∷ []
words_of (in_station i j old new) = decimal_of i ∷ letter_word j ∷ decimal_of old ∷ decimal_of new ∷ []
words_of (one_sided new i w c d p s) = decimal_of i ∷ side_word new ∷ five_words w c d p s

abbrev pub line_of : Difference → List ℕ
line_of d = line (words_of d)

unfoldable pub lines_of : List Difference → List ℕ
lines_of [] = []
lines_of (d ∷ ds) = line_of d ++ lines_of ds

-- how many bytes the lines of any two plans have at most
abbrev pub lines_size : ℕ
lines_size = 60_000

-- the lines of two plans were put into a page from the place on, if they have as many stations as there are and the page has room; else it is as it was, and r is the place itself
pub record LinesPut (t : Set) (a : Alloc) (u : Set) (b : Alloc) (before : List ℕ) (place : ℕ) (after : List ℕ) (r : ℕ) : Type 0 where
  pub put : t.n ≤ most_stations
      → u.n ≤ most_stations → place + lines_size ≤ length before
      → PutShort lines_size before place (lines_of (differences t a u b)) after r
  pub old_many : most_stations < t.n → (after ≡ before) × (r ≡ place)
  pub new_many : most_stations < u.n → (after ≡ before) × (r ≡ place)
  pub full : length before < place + lines_size → (after ≡ before) × (r ≡ place)
  -- how far the place moves at most, for whoever puts more behind it
  pub reach : r ≤ place + lines_size

-- the same of a page, which is as long as it was, and is the one that was lent
pub record LinesPutOn (t : Set) (a : Alloc) (u : Set) (b : Alloc) (before after : Page) : Type 0 where
  pub lines : LinesPut t a u b before.bytes.now before.at after.bytes.now after.at
  pub size : length after.bytes.now ≡ length before.bytes.now
  pub same : after.bytes.ghost_name ≡ before.bytes.ghost_name

-- the lines, or `same` where nothing differs
unfoldable pub diff_text : List Difference → List ℕ
diff_text [] = line (same_word ∷ [])
diff_text (d ∷ ds) = lines_of (d ∷ ds)

-- ---- two files

-- `old refused N` or `new refused N`
abbrev pub side_refused : List ℕ → ℕ → List ℕ
side_refused side number = line (side ∷ refused_word ∷ decimal_of number ∷ [])

-- the refusal if the number is not 0, else the text
unfoldable pub side_or : List ℕ → ℕ → List ℕ → List ℕ
side_or side zero text = text
side_or side (suc k) text = side_refused side (suc k)

-- of two sheets that were read: the old one's refusal, the new one's, or the differences
abbrev pub compared_text : ReadPlan → ReadPlan → List ℕ
compared_text p q =
    side_or old_word p.number
    (side_or new_word q.number (diff_text (differences p.set p.alloc q.set q.alloc)))

-- of the bytes of two files, whatever they are
abbrev pub diff_printed : List ℕ → List ℕ → List ℕ
diff_printed old new = compared_text (read_plan old) (read_plan new)

-- ---- when it is `same`

-- both sheets are read, and nothing differs
abbrev pub is_same : ReadPlan → ReadPlan → Bool
is_same p q = eqb p.number 0 && (eqb q.number 0 && is_none (differences p.set p.alloc q.set q.alloc))

-- what is put into a page of two sheets that were read, and whether it is `same`
pub record Compared (p q : ReadPlan) (before after : Page) (r : Bool) : Type 0 where
  pub put : Puts lines_size before (compared_text p q) after
  pub same : r ≡ is_same p q

-- what is handed back: the text stands at the start of the page, and whether it is `same`; a page that is too small gets nothing
pub record DiffedOn (p q : ReadPlan) (before after : List ℕ) (r : Diffed) : Type 0 where
  pub printed : Printed (compared_text p q) before after r.length
  pub same : r.same ≡ (leb page_size (length before) && is_same p q)
