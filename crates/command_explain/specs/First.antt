-- The phrases before the stations': the verdict, and behind it the first fault, the header's numbers that are out of their ranges, τ, or the header.
use Rattle.std.specs.Prelude.{ℕ, ◌-◌, Bool, cond, ◌||◌, Option, None, Some, List, [], ◌∷◌, ltb, eqb, get_or}
use Rattle.units.specs.Numbers.{accepted, runs_on, out_of_range, bad_walk_time}
use Rattle.units.specs.Judging.{between}
use Rattle.sets.specs.declared.Head.{Head}
use Rattle.fields.specs.Fields.{is_allowed}
use Rattle.fields.specs.Header.{absent}
use Rattle.fields.specs.declared.Passed.{Passed}
use Rattle.faults.specs.Ranges.{header_range}
use Rattle.text.specs.Phrases.{bare, one, two, three, four, either}
use Rattle.text.specs.declared.phrases.Phrase.{Phrase}
use Rattle.command_explain.specs.declared.Form.{Form}
use Rattle.command_explain.specs.declared.Form.TheVariants.{Refused, Planned, Accepted, Header, AsRequest, AsPlan, Start, Left, MayTtrt, MayStation, MayShare, MayMode, MayFrame, MayGrid, MayEnd, MayNothing, TtrtOut, ModeOut, FrameOut, GridOut, ModeOne, FrameOne, GridOne, TauOut}
use Rattle.command_explain.specs.declared.Place.{Place}
use Rattle.command_explain.specs.declared.Explained.{Explained}
use Rattle.command_explain.specs.declared.first.Kind.{Kind}
use Rattle.command_explain.specs.declared.first.Row.{Row}

-- ---- the verdict: the refusal, or N, TTRT, τ and A*

unfoldable pub verdict_form : Bool → Form
verdict_form plan = cond plan Accepted Planned

unfoldable pub verdict : Explained → Phrase Form
verdict e =
    cond (eqb e.number accepted)
    (four (verdict_form e.plan) e.set.n e.set.head.ttrt e.sums.tau e.sums.spare)
    (one Refused e.number)

-- ---- 1, 2, 3

-- the last kind of field is the end
abbrev pub end_kind : Kind
end_kind = record { tag = 255; size = 0; form = MayEnd }

-- the kinds of fields in the order of their tags, each with its length
abbrev pub kinds : List Kind
kinds =
    record { tag = 1; size = 4; form = MayTtrt }
    ∷ record { tag = 2; size = 16; form = MayStation }
    ∷ record { tag = 3; size = 4; form = MayShare }
    ∷ record { tag = 4; size = 1; form = MayMode }
    ∷ record { tag = 5; size = 4; form = MayFrame }
    ∷ record { tag = 6; size = 4; form = MayGrid }
    ∷ []

abbrev pub kind_at : ℕ → Kind
kind_at k = get_or kinds k end_kind

-- kind k, if it may stand behind the fields that passed: its tag and its length
unfoldable pub may_stand : Passed → ℕ → Option (Phrase Form)
may_stand p k =
    cond (is_allowed p (kind_at k).tag (kind_at k).size)
    (Some (two (kind_at k).form (kind_at k).tag (kind_at k).size)) None

-- behind the end field nothing may stand
unfoldable pub may_stand_by : ℕ → Passed → ℕ → Option (Phrase Form)
may_stand_by number p k = cond (eqb number runs_on) (cond (eqb k 0) (Some (bare MayNothing)) None) (may_stand p k)

abbrev pub read_as : Bool → Phrase Form
read_as plan = either plan AsPlan AsRequest

-- the byte, the tag and the length there, and how many bytes are left; only the first and the last behind the end field, and where fewer than three are left
unfoldable pub stands : ℕ → Place → Phrase Form
stands number place =
    cond (eqb number runs_on || ltb place.left 3) (two Left place.byte place.left)
    (four Start place.byte place.tag place.size place.left)

unfoldable pub fault_phrase : Explained → ℕ → Option (Phrase Form)
fault_phrase e j =
    cond (eqb j 0) (Some (read_as e.plan))
    (cond (eqb j 1) (Some (stands e.number e.place)) (may_stand_by e.number e.place.passed (j - 2)))

-- ---- 4

abbrev pub grid_row : Row
grid_row = record { tag = 6; low = 2; out = GridOut; one = GridOne }

-- the header's fields: TTRT, and those that may be absent, which mean 1 then and so may not say it
abbrev pub rows : List Row
rows =
    record { tag = 1; low = 1; out = TtrtOut; one = TtrtOut } ∷
    record { tag = 4; low = 2; out = ModeOut; one = ModeOne } ∷
    record { tag = 5; low = 2; out = FrameOut; one = FrameOne } ∷ []

abbrev pub row_at : ℕ → Row
row_at k = get_or rows k grid_row

unfoldable pub out_form : Row → ℕ → Form
out_form row value = cond (eqb value absent) row.one row.out

-- the header's field, if its number is out of range: the number that stands there, and the range
unfoldable pub header_out : Head → Head → ℕ → Option (Phrase Form)
header_out h said k =
    cond (header_range h (row_at k).tag).out
    (Some (three (out_form (row_at k) (header_range said (row_at k).tag).value)
    (header_range said (row_at k).tag).value (row_at k).low (header_range h (row_at k).tag).high))
    None

unfoldable pub header_phrase : Explained → ℕ → Option (Phrase Form)
header_phrase e j = cond (ltb j 4) (header_out e.set.head e.said j) None

-- ---- 5, and the header

-- τ, which is not 1 to TTRT
abbrev pub tau_out : Explained → Phrase Form
tau_out e = three TauOut e.sums.tau 1 e.set.head.ttrt

abbrev pub header : Head → Phrase Form
header h = four Header h.ttrt h.mode h.frame h.grid

unfoldable pub one_line : Explained → ℕ → Option (Phrase Form)
one_line e j =
    cond (eqb j 0) (cond (eqb e.number bad_walk_time) (Some (tau_out e)) (Some (header e.set.head))) None

-- ---- all of them

unfoldable pub second_phrase : Explained → ℕ → Option (Phrase Form)
second_phrase e j =
    cond (between 1 runs_on e.number) (fault_phrase e j)
    (cond (eqb e.number out_of_range) (header_phrase e j) (one_line e j))

unfoldable pub first_phrase : Explained → ℕ → Option (Phrase Form)
first_phrase e j = cond (eqb j 0) (Some (verdict e)) (second_phrase e (j - 1))
