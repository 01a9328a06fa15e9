-- What `show` prints: a request or plan sheet as text, which `compose` takes.
use Rattle.std.specs.Prelude.{ℕ, zero, suc, ◌+◌, Bool, true, false, cond, List, [], ◌∷◌, ◌++◌, leb, eqb}
use Rattle.units.specs.Numbers.{wrong_shape}
use Rattle.units.specs.Places.{at}
use Rattle.sets.specs.Header.{head_number}
use Rattle.sets.specs.declared.Head.{Head}
use Rattle.sets.specs.declared.Set.{Set}
use Rattle.plans.specs.Planned.{blank_alloc}
use Rattle.plans.specs.declared.Alloc.{Alloc}
use Rattle.fields.specs.Rows.{rows}
use Rattle.fields.specs.Fields.{mode_tag}
use Rattle.fields.specs.Header.{further_count, absent}
use Rattle.sheets.specs.Reading.{read_request, read_plan}
use Rattle.sheets.specs.declared.ReadRequest.{ReadRequest}
use Rattle.sheets.specs.declared.ReadPlan.{ReadPlan}
use Rattle.text.specs.Text.{decimal_of, line, text_or}
use Rattle.command_compose.specs.Compose.{ttrt_word, word_of, station_word}

-- `ttrt N`
abbrev pub ttrt_line : ℕ → List ℕ
ttrt_line ttrt = line (ttrt_word ∷ decimal_of ttrt ∷ [])

-- `mode M`, `frame F` or `grid G`, by the tag; no line where the number is what its absence means
unfoldable pub further_line : ℕ → ℕ → List ℕ
further_line tag number = cond (eqb number absent) [] (line (word_of tag ∷ decimal_of number ∷ []))

-- the line of number k of the header behind TTRT, the mode's being 0
abbrev pub number_line : Head → ℕ → List ℕ
number_line h k = further_line (mode_tag + k) (head_number h (mode_tag + k))

-- the lines of TTRT and of the first k numbers behind it
unfoldable pub head_lines : Head → ℕ → List ℕ
head_lines h zero = ttrt_line h.ttrt
head_lines h (suc k) = head_lines h k ++ number_line h k

-- S, in a plan
unfoldable pub share_words : Bool → ℕ → List (List ℕ)
share_words true s = decimal_of s ∷ []
share_words false s = []

-- `station W C D P`, in a plan `station W C D P S`
unfoldable pub station_line : Bool → Set → Alloc → ℕ → List ℕ
station_line plan t a i =
    line
    (station_word ∷ decimal_of (at t.w i) ∷ decimal_of (at t.c i) ∷ decimal_of (at t.d i) ∷ decimal_of (at t.p i)
    ∷ share_words plan (at a.s i))

-- the header's lines, then a line for each station in ring order
unfoldable pub sheet_text : Bool → Set → Alloc → List ℕ
sheet_text plan t a = head_lines t.head further_count ++ rows t.n (station_line plan t a)

-- the text of a plan, if it has no more stations than a plan may have
unfoldable pub plan_lines_of : Set → Alloc → List ℕ
plan_lines_of t a = cond (leb t.n 128) (sheet_text true t a) []

-- the plan that was read, or the refusal
abbrev pub plan_read_text : ReadPlan → List ℕ
plan_read_text p = text_or p.number (sheet_text true p.set p.alloc)

-- the request that was read, or the refusal
abbrev pub request_read_text : ReadRequest → List ℕ
request_read_text r = text_or r.number (sheet_text false r.set blank_alloc)

-- the text of a plan sheet
abbrev pub plan_shown : List ℕ → List ℕ
plan_shown sheet = plan_read_text (read_plan sheet)

-- what `show` prints of any bytes: the request; or, where a request's reading finds the wrong shape, the plan; or the refusal
unfoldable pub show_printed : List ℕ → List ℕ
show_printed sheet =
    cond (eqb (read_request sheet).number wrong_shape) (plan_shown sheet) (request_read_text (read_request sheet))

-- the number that goes with it: the request's; or, where that is the wrong shape, the plan's
unfoldable pub shown_number : List ℕ → ℕ
shown_number sheet =
    cond (eqb (read_request sheet).number wrong_shape) (read_plan sheet).number (read_request sheet).number
