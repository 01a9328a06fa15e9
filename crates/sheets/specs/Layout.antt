-- How a sheet is laid out (01, "Sheets"): the bytes of a request and of a plan.
use Rattle.std.specs.Prelude.{ℕ, zero, suc, ◌+◌, ◌*◌, Bool, true, false, cond, List, [], ◌∷◌, ◌++◌, eqb}
use Rattle.units.specs.Numbers.{last_mode, most_frame, most_grid}
use Rattle.units.specs.Places.{at, sum_below}
use Rattle.sets.specs.Header.{head_number}
use Rattle.sets.specs.declared.Head.{Head}
use Rattle.sets.specs.declared.Set.{Set}
use Rattle.plans.specs.Planned.{blank_alloc}
use Rattle.plans.specs.declared.Alloc.{Alloc}
use Rattle.fields.specs.Rows.{rows}
use Rattle.fields.specs.Bytes.{bytes_of, body_of}
use Rattle.fields.specs.Fields.{head_tag, head_size, station_tag, station_size, allocation_tag, allocation_size, mode_tag, frame_tag, end_tag, end_size, further_size, allocations_for}
use Rattle.fields.specs.Header.{further_count, absent}

-- the start of a field: one tag byte, two length bytes; no length here is above 255
abbrev pub mark : ℕ → ℕ → List ℕ
mark tag size = tag ∷ 0 ∷ size ∷ []

-- ---- the header

-- the highest number that a tag allows: 3, the last mode that has a name; 65,535; 1,000
unfoldable pub most_of : ℕ → ℕ
most_of tag = cond (eqb tag mode_tag) last_mode (cond (eqb tag frame_tag) most_frame most_grid)

-- its field: the tag, its length, the number; no field where the number is what its absence means
unfoldable pub further_bytes : ℕ → ℕ → List ℕ
further_bytes tag number = cond (eqb number absent) [] (mark tag (further_size tag) ++ body_of (further_size tag) number)

-- how many bytes it has
unfoldable pub further_length : ℕ → ℕ → ℕ
further_length tag number = cond (eqb number absent) 0 (3 + further_size tag)

-- field k of the header behind TTRT, the mode's being 0
abbrev pub further_field : Head → ℕ → List ℕ
further_field h k = further_bytes (mode_tag + k) (head_number h (mode_tag + k))

-- the header up to its first k fields behind TTRT: tag 1, length 4, TTRT; then these
unfoldable pub head_up_to : Head → ℕ → List ℕ
head_up_to h zero = mark head_tag head_size ++ bytes_of h.ttrt
head_up_to h (suc k) = head_up_to h k ++ further_field h k

-- the header: TTRT, the mode, F, g
abbrev pub head_bytes : Head → List ℕ
head_bytes h = head_up_to h further_count

-- how many bytes the first k fields behind TTRT have
abbrev pub length_up_to : Head → ℕ → ℕ
length_up_to h k = sum_below k (λ i. further_length (mode_tag + i) (head_number h (mode_tag + i)))

-- how many bytes the header has behind TTRT: 4 where the mode is not 1, 7 where F is not 1, and 7 where g is not 1
abbrev pub head_length : Head → ℕ
head_length h = length_up_to h further_count

-- ---- the fields behind it

-- a station: tag 2, length 16, holding w, C, D, P
unfoldable pub station_with : ℕ → ℕ → ℕ → ℕ → List ℕ
station_with w c d p = mark station_tag station_size ++ bytes_of w ++ bytes_of c ++ bytes_of d ++ bytes_of p

-- an allocation: tag 3, length 4, holding S
unfoldable pub allocation_with : ℕ → List ℕ
allocation_with s = mark allocation_tag allocation_size ++ bytes_of s

-- station i of a set
abbrev pub station_bytes : Set → ℕ → List ℕ
station_bytes t i = station_with (at t.w i) (at t.c i) (at t.d i) (at t.p i)

-- the allocation of station i
abbrev pub allocation_bytes : Alloc → ℕ → List ℕ
allocation_bytes a i = allocation_with (at a.s i)

-- the end: tag 255, length 0
abbrev pub end_bytes : List ℕ
end_bytes = mark end_tag end_size

-- all fields of a sheet but the end: the header; then the stations in ring order; in a plan the allocations
abbrev pub fields_of : Bool → Set → Alloc → List ℕ
fields_of plan t a =
    head_bytes t.head ++ rows t.n (station_bytes t) ++ rows (allocations_for plan t.n) (allocation_bytes a)

-- how many bytes these have
abbrev pub fields_length : Bool → Set → ℕ
fields_length plan t = 7 + head_length t.head + 19 * t.n + 7 * allocations_for plan t.n

-- the sheet: these, then the end
unfoldable pub sheet_of : Bool → Set → Alloc → List ℕ
sheet_of plan t a = fields_of plan t a ++ end_bytes

-- a request sheet
abbrev pub request_sheet : Set → List ℕ
request_sheet t = sheet_of false t blank_alloc

-- a plan sheet
abbrev pub plan_sheet : Set → Alloc → List ℕ
plan_sheet t a = sheet_of true t a

-- how many bytes a program reads of a request sheet, and of a sheet that may be a plan: one more than the longest has, of 128 stations with a mode, F and g
abbrev pub request_read : ℕ
request_read = 2_461

abbrev pub plan_read : ℕ
plan_read = 3_357

-- how many bytes a sheet has: 10 + 19N for a request, 10 + 26N for a plan, and what the header has behind TTRT
abbrev pub sheet_length : Bool → Set → ℕ
sheet_length plan t = 10 + head_length t.head + 19 * t.n + 7 * allocations_for plan t.n
