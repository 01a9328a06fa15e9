-- What `inspect` prints of a log: `accepted N`, or `record K RULE` and a line for people, or `refused N`.
use Rattle.std.specs.Prelude.{ℕ, ◌≡◌, Bool, cond, ◌&&◌, ◌||◌, List, [], ◌∷◌, ◌++◌, eqb}
use Rattle.text.specs.Text.{newline, space, decimal_of, line, text_or, Printed}
use Rattle.log_records.specs.declared.Entry.{Entry}
use Rattle.log_records.specs.declared.Entry.TheVariants.{Visit, Mark}
use Rattle.inspection.specs.Findings.{compared, broken_record}
use Rattle.inspection.specs.declared.Compared.{Compared}
use Rattle.inspection_stream.specs.Inspecting.{inspect_number}
use Rattle.inspection_stream.specs.declared.Inspecting.{Inspecting}
use Rattle.command_inspect.specs.declared.Found.{Found}

-- ---- the first line

-- "accepted"
abbrev pub accepted_word : List ℕ
accepted_word = 97 ∷ 99 ∷ 99 ∷ 101 ∷ 112 ∷ 116 ∷ 101 ∷ 100 ∷ []

-- `accepted`, and how many records the log has, visits and marks
abbrev pub accepted_line : ℕ → List ℕ
accepted_line records = line (accepted_word ∷ decimal_of records ∷ [])

-- "record"
abbrev pub record_word : List ℕ
record_word = 114 ∷ 101 ∷ 99 ∷ 111 ∷ 114 ∷ 100 ∷ []

-- "station"
abbrev pub station_word : List ℕ
station_word = 115 ∷ 116 ∷ 97 ∷ 116 ∷ 105 ∷ 111 ∷ 110 ∷ []

-- "start"
abbrev pub start_word : List ℕ
start_word = 115 ∷ 116 ∷ 97 ∷ 114 ∷ 116 ∷ []

-- "limit"
abbrev pub limit_word : List ℕ
limit_word = 108 ∷ 105 ∷ 109 ∷ 105 ∷ 116 ∷ []

-- "synchronous"
abbrev pub synchronous_word : List ℕ
synchronous_word = 115 ∷ 121 ∷ 110 ∷ 99 ∷ 104 ∷ 114 ∷ 111 ∷ 110 ∷ 111 ∷ 117 ∷ 115 ∷ []

-- "asynchronous"
abbrev pub asynchronous_word : List ℕ
asynchronous_word = 97 ∷ 115 ∷ 121 ∷ 110 ∷ 99 ∷ 104 ∷ 114 ∷ 111 ∷ 110 ∷ 111 ∷ 117 ∷ 115 ∷ []

-- the word of a rule
unfoldable pub rule_word : ℕ → List ℕ
rule_word rule =
    cond (eqb rule 1) station_word
    (cond (eqb rule 2) start_word
    (cond (eqb rule 3) limit_word
    (cond (eqb rule 4) synchronous_word asynchronous_word)))

-- `record`, its number from 1 on, and the rule that it breaks
abbrev pub record_line : ℕ → ℕ → List ℕ
record_line number rule = line (record_word ∷ decimal_of number ∷ rule_word rule ∷ [])

-- ---- the second line, for people: `expected`, what is expected, the number, its unit, `, found`, and the number that the record has

-- "expected"
abbrev pub expected_word : List ℕ
expected_word = 101 ∷ 120 ∷ 112 ∷ 101 ∷ 99 ∷ 116 ∷ 101 ∷ 100 ∷ []

-- ", found"
abbrev pub found_part : List ℕ
found_part = 44 ∷ 32 ∷ 102 ∷ 111 ∷ 117 ∷ 110 ∷ 100 ∷ []

-- " limit"
abbrev pub limit_part : List ℕ
limit_part = 32 ∷ 108 ∷ 105 ∷ 109 ∷ 105 ∷ 116 ∷ []

-- " at most"
abbrev pub most_part : List ℕ
most_part = 32 ∷ 97 ∷ 116 ∷ 32 ∷ 109 ∷ 111 ∷ 115 ∷ 116 ∷ []

-- " whole frames of one"
abbrev pub whole_part : List ℕ
whole_part =
    32 ∷ 119 ∷ 104 ∷ 111 ∷ 108 ∷ 101 ∷ 32 ∷ 102 ∷ 114 ∷ 97 ∷ 109 ∷ 101 ∷ 115 ∷ 32 ∷ 111 ∷ 102 ∷ 32 ∷ 111 ∷ 110 ∷
    101 ∷ []

-- " length up to"
abbrev pub length_part : List ℕ
length_part = 32 ∷ 108 ∷ 101 ∷ 110 ∷ 103 ∷ 116 ∷ 104 ∷ 32 ∷ 117 ∷ 112 ∷ 32 ∷ 116 ∷ 111 ∷ []

-- ", begun below"
abbrev pub begun_part : List ℕ
begun_part = 44 ∷ 32 ∷ 98 ∷ 101 ∷ 103 ∷ 117 ∷ 110 ∷ 32 ∷ 98 ∷ 101 ∷ 108 ∷ 111 ∷ 119 ∷ []

-- " ticks after the"
abbrev pub ticks_part : List ℕ
ticks_part = 32 ∷ 116 ∷ 105 ∷ 99 ∷ 107 ∷ 115 ∷ 32 ∷ 97 ∷ 102 ∷ 116 ∷ 101 ∷ 114 ∷ 32 ∷ 116 ∷ 104 ∷ 101 ∷ []

-- " record before"
abbrev pub before_part : List ℕ
before_part = 32 ∷ 114 ∷ 101 ∷ 99 ∷ 111 ∷ 114 ∷ 100 ∷ 32 ∷ 98 ∷ 101 ∷ 102 ∷ 111 ∷ 114 ∷ 101 ∷ []

-- " visit before"
abbrev pub visit_part : List ℕ
visit_part = 32 ∷ 118 ∷ 105 ∷ 115 ∷ 105 ∷ 116 ∷ 32 ∷ 98 ∷ 101 ∷ 102 ∷ 111 ∷ 114 ∷ 101 ∷ []

-- " a station below"
abbrev pub below_part : List ℕ
below_part = 32 ∷ 97 ∷ 32 ∷ 115 ∷ 116 ∷ 97 ∷ 116 ∷ 105 ∷ 111 ∷ 110 ∷ 32 ∷ 98 ∷ 101 ∷ 108 ∷ 111 ∷ 119 ∷ []

-- " and mark 0 or 1"
abbrev pub mark_part : List ℕ
mark_part = 32 ∷ 97 ∷ 110 ∷ 100 ∷ 32 ∷ 109 ∷ 97 ∷ 114 ∷ 107 ∷ 32 ∷ 48 ∷ 32 ∷ 111 ∷ 114 ∷ 32 ∷ 49 ∷ []

-- ` whole frames of one length up to F, begun below`
abbrev pub frames_aim : ℕ → List ℕ
frames_aim longest = ((whole_part ++ length_part) ++ (space ∷ decimal_of longest)) ++ begun_part

-- what is expected, by the rule: a station; a number of ticks; a limit; at most S; at most the limit, or with F above 1 whole frames begun below it
unfoldable pub aim_of : ℕ → ℕ → List ℕ
aim_of rule longest =
    cond (eqb rule 1) (space ∷ station_word)
    (cond (eqb rule 2) []
    (cond (eqb rule 3) limit_part
    (cond (eqb rule 4 || eqb longest 1) most_part (frames_aim longest))))

-- what a start is counted from: the record before; where that is a mark, the visit before
abbrev pub before_of : Entry → List ℕ
before_of (Visit v) = before_part
before_of (Mark m) = visit_part

-- a start is counted in ticks, behind this record
unfoldable pub unit_of : ℕ → Entry → List ℕ
unit_of rule before = cond (eqb rule 2) (ticks_part ++ before_of before) []

-- of a visit
abbrev pub compared_line : ℕ → ℕ → Entry → Compared → List ℕ
compared_line rule longest before c =
    (((((expected_word ++ aim_of rule longest) ++ (space ∷ decimal_of c.expected)) ++ unit_of rule before) ++ found_part)
    ++ (space ∷ decimal_of c.found))
    ++ (newline ∷ [])

-- of a mark: `expected a station below N and mark 0 or 1, found STATION MARK`
abbrev pub mark_line : Compared → ℕ → List ℕ
mark_line c mark =
    ((((((expected_word ++ below_part) ++ (space ∷ decimal_of c.expected)) ++ mark_part) ++ found_part)
    ++ (space ∷ decimal_of c.found))
    ++ (space ∷ decimal_of mark))
    ++ (newline ∷ [])

-- of either, with the record before it
abbrev pub people_line : ℕ → ℕ → Entry → Entry → Compared → List ℕ
people_line rule longest before (Visit v) c = compared_line rule longest before c
people_line rule longest before (Mark m) c = mark_line c m.mark

-- ---- all of it

-- a record that breaks a rule: both lines
unfoldable pub broken_text : Inspecting → List ℕ
broken_text k =
    record_line (broken_record k.looked.inspection) k.looked.inspection.rule
    ++ people_line k.looked.inspection.rule k.start.set.head.frame k.looked.before k.looked.last
    (compared k.looked.inspection k.start.set k.start.alloc k.looked.last)

-- a log that was read: accepted, or broken
unfoldable pub read_text : Inspecting → List ℕ
read_text k = cond (eqb k.looked.inspection.rule 0) (accepted_line k.looked.inspection.records) (broken_text k)

-- any log: what was found, or the refusal
abbrev pub finding_text : Inspecting → List ℕ
finding_text k = text_or (inspect_number k) (read_text k)

-- it was read, and no record breaks a rule
abbrev pub is_accepted : Inspecting → Bool
is_accepted k = eqb (inspect_number k) 0 && eqb k.looked.inspection.rule 0

-- what was found stands on the page, and the answer tells whether the log is accepted
pub record FoundOn (k : Inspecting) (before after : List ℕ) (r : Found) : Type 0 where
  pub printed : Printed (finding_text k) before after r.length
  pub accepted : r.accepted ≡ is_accepted k
