-- What is promised of reading and writing sheets beside the contracts; `proofs/Promised.antt` proves it.
use Rattle.std.specs.Prelude.{ℕ, ◌+◌, ◌*◌, ◌^◌, ◌≤◌, ◌<◌, ◌≡◌, Bool, true, false, cond, List, [], ◌∷◌, ◌++◌, ◌↔◌, ◌≢◌, eqb, length, take, drop}
use Rattle.units.specs.Numbers.{timely, fddi}
use Rattle.units.specs.Places.{at, fill}
use Rattle.sets.specs.Header.{head_number}
use Rattle.sets.specs.Rules.{SameSet, CountAllowed}
use Rattle.sets.specs.Judged.{judged, blank_set, zeros}
use Rattle.sets.specs.declared.Head.{Head}
use Rattle.sets.specs.declared.Set.{Set}
use Rattle.plans.specs.Planned.{judged_plan, blank_alloc}
use Rattle.plans.specs.declared.Alloc.{Alloc}
use Rattle.fields.specs.Rows.{rows}
use Rattle.fields.specs.Bytes.{number_at, bytes_of, AllBytes}
use Rattle.fields.specs.Fields.{mode_tag, is_allowed, allocations_for, tag_at}
use Rattle.fields.specs.Header.{further_count, place_of, said_at}
use Rattle.fields.specs.declared.Passed.{Passed}
use Rattle.field_reader.specs.FirstFault.{FirstFault, WholeSheet}
use Rattle.sheets.specs.Layout.{mark, most_of, further_bytes, head_up_to, head_bytes, head_length, station_bytes, allocation_bytes, sheet_of, request_sheet, plan_sheet, request_read, plan_read}
use Rattle.sheets.specs.Reading.{set_in, alloc_in, read_sheet, read_request, read_plan, given_sheet}
use Rattle.sheets.specs.Writing.{request_written, plan_written}
use Rattle.sheet_rules.specs.Standing.{MayStand}

-- ---- over the first N places

-- the set over its first N places, 0 past them
abbrev pub first_places : Set → Set
first_places t =
    record {
      head = t.head;
      n = t.n;
      w = fill t.n (at t.w) zeros;
      c = fill t.n (at t.c) zeros;
      d = fill t.n (at t.d) zeros;
      p = fill t.n (at t.p) zeros;
    }

-- the allocation over its first N places, 0 past them
abbrev pub first_allocations : ℕ → Alloc → Alloc
first_allocations n a = record { s = fill n (at a.s) zeros }

-- every place from N on is 0
pub record ZeroPast (t : Set) : Type 0 where
  pub walk : (i : ℕ) → t.n ≤ i → at t.w i ≡ 0
  pub longest : (i : ℕ) → t.n ≤ i → at t.c i ≡ 0
  pub deadline : (i : ℕ) → t.n ≤ i → at t.d i ≡ 0
  pub gap : (i : ℕ) → t.n ≤ i → at t.p i ≡ 0

-- TTRT, F, g and the numbers of the first N stations are 32-bit numbers, as those of every set of the code are; the mode is one byte, as on a sheet
pub record Numbers32 (t : Set) : Type 0 where
  pub header : t.head.ttrt < 2 ^ 32
  pub mode : t.head.mode < 256
  pub frame : t.head.frame < 2 ^ 32
  pub grid : t.head.grid < 2 ^ 32
  pub walk : (i : ℕ) → i < t.n → at t.w i < 2 ^ 32
  pub longest : (i : ℕ) → i < t.n → at t.c i < 2 ^ 32
  pub deadline : (i : ℕ) → i < t.n → at t.d i < 2 ^ 32
  pub gap : (i : ℕ) → i < t.n → at t.p i < 2 ^ 32

-- ---- the bytes that writing gives

-- these bytes are what writing some set into some buffer gave
abbrev pub GivenRequest : List ℕ → Type 0
GivenRequest bs =
    (t : Set) × (out : List ℕ)
    × (((request_written t out).answer.number ≡ 0)
    × (bs ≡ take (request_written t out).answer.length (request_written t out).buffer))

-- these bytes are what writing some plan into some buffer gave
abbrev pub GivenPlan : List ℕ → Type 0
GivenPlan bs =
    (t : Set) × (a : Alloc) × (out : List ℕ)
    × (((plan_written t a out).answer.number ≡ 0)
    × (bs ≡ take (plan_written t a out).answer.length (plan_written t a out).buffer))

-- ---- lengths

-- a request sheet: 10 + 19N bytes, and what the header has behind TTRT
abbrev pub request_length : Set → ℕ
request_length t = 10 + 19 * t.n + head_length t.head

-- a plan sheet: 10 + 26N bytes, and the same
abbrev pub plan_length : Set → ℕ
plan_length t = 10 + 26 * t.n + head_length t.head

-- ---- the header's fields behind TTRT, by their tags

-- what tags 4, 5 and 6 stand for in a header, and where and how the field of each is read
pub record ByTag : Type 0 where
  pub mode_number : (h : Head) → head_number h 4 ≡ h.mode
  pub frame_number : (h : Head) → head_number h 5 ≡ h.frame
  pub grid_number : (h : Head) → head_number h 6 ≡ h.grid
  -- the highest number: mode 3, F 65,535, g 1,000
  pub mode_most : most_of 4 ≡ 3
  pub frame_most : most_of 5 ≡ 65_535
  pub grid_most : most_of 6 ≡ 1_000
  -- the mode's field stands at 7, if it is there; F's at 7, or behind the mode's 4 bytes at 11; g's where F's would stand, or behind F's 7 bytes
  pub mode_place : (bs : List ℕ) → place_of bs 4 ≡ 7
  pub frame_first : (bs : List ℕ) → tag_at bs 7 ≢ 4 → place_of bs 5 ≡ 7
  pub frame_second : (bs : List ℕ) → tag_at bs 7 ≡ 4 → place_of bs 5 ≡ 11
  pub grid_first : (bs : List ℕ) → tag_at bs (place_of bs 5) ≢ 5 → place_of bs 6 ≡ place_of bs 5
  pub grid_second : (bs : List ℕ) → tag_at bs (place_of bs 5) ≡ 5 → place_of bs 6 ≡ place_of bs 5 + 7
  -- the mode is one byte, F and g four
  pub mode_said : (bs : List ℕ) (a : ℕ) → said_at bs a 4 ≡ at bs (a + 3)
  pub frame_said : (bs : List ℕ) (a : ℕ) → said_at bs a 5 ≡ number_at bs (a + 3)
  pub grid_said : (bs : List ℕ) (a : ℕ) → said_at bs a 6 ≡ number_at bs (a + 3)

-- the field with this tag is there
abbrev pub There : List ℕ → ℕ → Type 0
There bs tag = tag_at bs (place_of bs tag) ≡ tag

-- the number in it
abbrev pub said : List ℕ → ℕ → ℕ
said bs tag = said_at bs (place_of bs tag) tag

-- ---- examples

-- TTRT 1, one station of w 1, C 0, D 1, P 1, in a mode, with frames up to F, on a grid
abbrev pub small_set : ℕ → ℕ → ℕ → Set
small_set mode frame grid =
    record {
      head = record { ttrt = 1; mode = mode; frame = frame; grid = grid };
      n = 1;
      w = fill 1 (λ i. 1) zeros;
      c = zeros;
      d = fill 1 (λ i. 1) zeros;
      p = fill 1 (λ i. 1) zeros;
    }

-- ---- the promises

pub record Promised : Type 0 where
  -- what may stand where is what 01 says of each tag: the table that the reader goes by decides the sentence
  pub may_stand_lem : (p : Passed) (tag size : ℕ) → (is_allowed p tag size ≡ true) ↔ MayStand p tag size
  -- the header has behind TTRT 4 bytes where the mode is not 1, 7 where F is not 1, and 7 where g is not 1
  pub header_length : (h : Head)
      → head_length h ≡ cond (eqb h.mode 1) 0 4 + cond (eqb h.frame 1) 0 7 + cond (eqb h.grid 1) 0 7
  -- a request sheet has 10 + 19N bytes, a plan sheet 10 + 26N, and these
  pub request_length_lem : (t : Set) → length (request_sheet t) ≡ request_length t
  pub plan_length_lem : (t : Set) (a : Alloc) → length (plan_sheet t a) ≡ plan_length t
  -- 29 bytes for one timely-token station without F and g, 2,442 for 128; 2,460 for 128 stations with all three fields, and 3,356 for their plan
  pub shortest : (t : Set)
      → t.n ≡ 1 → t.head.mode ≡ timely → t.head.frame ≡ 1 → t.head.grid ≡ 1 → length (request_sheet t) ≡ 29
  pub longest_timely : (t : Set)
      → t.n ≡ 128 → t.head.mode ≡ timely → t.head.frame ≡ 1 → t.head.grid ≡ 1 → length (request_sheet t) ≡ 2_442
  pub longest : (t : Set)
      → t.n ≡ 128 → t.head.mode ≢ timely → t.head.frame ≢ 1 → t.head.grid ≢ 1 → length (request_sheet t) ≡ 2_460
  pub longest_plan : (t : Set) (a : Alloc)
      → t.n ≡ 128 → t.head.mode ≢ timely → t.head.frame ≢ 1 → t.head.grid ≢ 1 → length (plan_sheet t a) ≡ 3_356
  -- so a program that reads one byte more than these, or further, reads enough: it answers what it would answer to all the bytes
  pub request_read_lem : (n : ℕ) → request_read ≤ n → (bs : List ℕ) → read_request (take n bs) ≡ read_request bs
  pub plan_read_lem : (n : ℕ) → plan_read ≤ n → (bs : List ℕ) → read_plan (take n bs) ≡ read_plan bs
  -- the header's fields stand in the order of their tags: TTRT's, the mode's, F's, g's; one whose number is 1 has no byte
  pub header_fields : (h : Head) → head_bytes h ≡ mark 1 4 ++ bytes_of h.ttrt ++ further_bytes 4 h.mode ++ further_bytes 5 h.frame ++ further_bytes 6 h.grid
  pub field_none : (tag : ℕ) → further_bytes tag 1 ≡ []
  -- so a sheet whose header has 1 from the k-th further number on has the bytes of before there were these: with k 2 those without g, with k 1 without F and g, with k 0 TTRT's field, the stations, the allocations and the end alone
  pub as_before : (plan : Bool) (t : Set) (a : Alloc) (k : ℕ)
      → k ≤ further_count → ((j : ℕ) → k ≤ j → j < further_count → head_number t.head (mode_tag + j) ≡ 1)
      → sheet_of plan t a
      ≡ head_up_to t.head k
      ++ rows t.n (station_bytes t)
      ++ rows (allocations_for plan t.n) (allocation_bytes a)
      ++ mark 255 0
  -- one sheet written out: TTRT 1, one station of w 1, C 0, D 1, P 1
  pub written_out : request_sheet (small_set timely 1 1)
      ≡ 1 ∷ 0 ∷ 4 ∷ 0 ∷ 0 ∷ 0 ∷ 1
      ∷ 2 ∷ 0 ∷ 16 ∷ 0 ∷ 0 ∷ 0 ∷ 1 ∷ 0 ∷ 0 ∷ 0 ∷ 0 ∷ 0 ∷ 0 ∷ 0 ∷ 1 ∷ 0 ∷ 0 ∷ 0 ∷ 1
      ∷ 255 ∷ 0 ∷ 0 ∷ []
  -- the same for FDDI: tag 4, length 1, value 2 directly behind TTRT
  pub written_out_fddi : request_sheet (small_set fddi 1 1)
      ≡ 1 ∷ 0 ∷ 4 ∷ 0 ∷ 0 ∷ 0 ∷ 1
      ∷ 4 ∷ 0 ∷ 1 ∷ 2
      ∷ 2 ∷ 0 ∷ 16 ∷ 0 ∷ 0 ∷ 0 ∷ 1 ∷ 0 ∷ 0 ∷ 0 ∷ 0 ∷ 0 ∷ 0 ∷ 0 ∷ 1 ∷ 0 ∷ 0 ∷ 0 ∷ 1
      ∷ 255 ∷ 0 ∷ 0 ∷ []
  -- F 40 of a timely-token set: tag 5, length 4 directly behind TTRT
  pub written_out_frame : request_sheet (small_set timely 40 1)
      ≡ 1 ∷ 0 ∷ 4 ∷ 0 ∷ 0 ∷ 0 ∷ 1
      ∷ 5 ∷ 0 ∷ 4 ∷ 0 ∷ 0 ∷ 0 ∷ 40
      ∷ 2 ∷ 0 ∷ 16 ∷ 0 ∷ 0 ∷ 0 ∷ 1 ∷ 0 ∷ 0 ∷ 0 ∷ 0 ∷ 0 ∷ 0 ∷ 0 ∷ 1 ∷ 0 ∷ 0 ∷ 0 ∷ 1
      ∷ 255 ∷ 0 ∷ 0 ∷ []
  -- g 5 of a timely-token set: tag 6, length 4 directly behind TTRT
  pub written_out_grid : request_sheet (small_set timely 1 5)
      ≡ 1 ∷ 0 ∷ 4 ∷ 0 ∷ 0 ∷ 0 ∷ 1
      ∷ 6 ∷ 0 ∷ 4 ∷ 0 ∷ 0 ∷ 0 ∷ 5
      ∷ 2 ∷ 0 ∷ 16 ∷ 0 ∷ 0 ∷ 0 ∷ 1 ∷ 0 ∷ 0 ∷ 0 ∷ 0 ∷ 0 ∷ 0 ∷ 0 ∷ 1 ∷ 0 ∷ 0 ∷ 0 ∷ 1
      ∷ 255 ∷ 0 ∷ 0 ∷ []
  -- F 65,535 and g 1,000 of an FDDI set: behind the mode, F first
  pub written_out_all : request_sheet (small_set fddi 65_535 1_000)
      ≡ 1 ∷ 0 ∷ 4 ∷ 0 ∷ 0 ∷ 0 ∷ 1
      ∷ 4 ∷ 0 ∷ 1 ∷ 2
      ∷ 5 ∷ 0 ∷ 4 ∷ 0 ∷ 0 ∷ 255 ∷ 255
      ∷ 6 ∷ 0 ∷ 4 ∷ 0 ∷ 0 ∷ 3 ∷ 232
      ∷ 2 ∷ 0 ∷ 16 ∷ 0 ∷ 0 ∷ 0 ∷ 1 ∷ 0 ∷ 0 ∷ 0 ∷ 0 ∷ 0 ∷ 0 ∷ 0 ∷ 1 ∷ 0 ∷ 0 ∷ 0 ∷ 1
      ∷ 255 ∷ 0 ∷ 0 ∷ []
  -- read back as written: a request
  pub request_back : (t : Set) (out : List ℕ) → judged t ≡ 0 → request_length t ≤ length out
      → ((request_written t out).answer ≡ record { length = request_length t; number = 0 })
      × (read_request (take (request_length t) (request_written t out).buffer)
      ≡ record { set = first_places t; number = 0 })
  -- and a plan
  pub plan_back : (t : Set) (a : Alloc) (out : List ℕ) → judged_plan t a ≡ 0 → plan_length t ≤ length out
      → ((plan_written t a out).answer ≡ record { length = plan_length t; number = 0 })
      × (read_plan (take (plan_length t) (plan_written t a out).buffer)
      ≡ record { set = first_places t; alloc = first_allocations t.n a; number = 0 })
  -- what is read back is the same over the first N places
  pub back_same : (t : Set) → t.n ≤ 128 → SameSet t (first_places t)
  pub back_allocations : (n : ℕ) (a : Alloc) → n ≤ 128 → (i : ℕ) → i < n → at a.s i ≡ at (first_allocations n a).s i
  -- reading the bytes of any sheet that is laid out gives the number of its judgement, whatever that is
  pub request_laid : (t : Set) → CountAllowed t → Numbers32 t → (read_request (request_sheet t)).number ≡ judged t
  pub plan_laid : (t : Set) (a : Alloc)
      → CountAllowed t → Numbers32 t → ((i : ℕ) → i < t.n → at a.s i < 2 ^ 32)
      → (read_plan (plan_sheet t a)).number ≡ judged_plan t a
  -- written again the same: a request. `AllBytes` holds of any slice that is lent: `fields::count_bytes` ensures it
  pub request_again : (bs out : List ℕ) → AllBytes bs → (read_request bs).number ≡ 0 → length bs ≤ length out
      → ((request_written (read_request bs).set out).answer ≡ record { length = length bs; number = 0 })
      × ((request_written (read_request bs).set out).buffer ≡ bs ++ drop (length bs) out)
  -- and a plan
  pub plan_again : (bs out : List ℕ) → AllBytes bs → (read_plan bs).number ≡ 0 → length bs ≤ length out
      → ((plan_written (read_plan bs).set (read_plan bs).alloc out).answer ≡ record { length = length bs; number = 0 })
      × ((plan_written (read_plan bs).set (read_plan bs).alloc out).buffer ≡ bs ++ drop (length bs) out)
  -- reading accepts exactly the bytes that writing gives
  pub request_exactly : (bs : List ℕ) → AllBytes bs → ((read_request bs).number ≡ 0) ↔ GivenRequest bs
  pub plan_exactly : (bs : List ℕ) → AllBytes bs → ((read_plan bs).number ≡ 0) ↔ GivenPlan bs
  -- 1, 2 and 3 go by the first fault from the left
  pub request_fault : (bs : List ℕ) (k : ℕ) → 1 ≤ k → k ≤ 3 → ((read_request bs).number ≡ k) ↔ FirstFault false bs k
  pub plan_fault : (bs : List ℕ) (k : ℕ) → 1 ≤ k → k ≤ 3 → ((read_plan bs).number ≡ k) ↔ FirstFault true bs k
  -- there is one first fault: one number, at one place
  pub one_fault : (plan : Bool) (bs : List ℕ) (j k : ℕ) (f : FirstFault plan bs j) (g : FirstFault plan bs k)
      → (j ≡ k) × (f.place ≡ g.place)
  -- a sheet with no fault, and only such a one, gets another number: never 1, 2 or 3
  pub request_whole : (bs : List ℕ) → ((k : ℕ) → 1 ≤ k → k ≤ 3 → (read_request bs).number ≢ k) ↔ WholeSheet false bs
  pub plan_whole : (bs : List ℕ) → ((k : ℕ) → 1 ≤ k → k ≤ 3 → (read_plan bs).number ≢ k) ↔ WholeSheet true bs
  -- its N is the number of the stations that passed, 1 to 128
  pub stations_passed : (plan : Bool) (bs : List ℕ) (w : WholeSheet plan bs)
      → ((set_in plan bs).n ≡ w.passed.stations) × CountAllowed (set_in plan bs)
  -- and in a plan as many allocations passed, in a request none
  pub allocations_passed : (plan : Bool) (bs : List ℕ) (w : WholeSheet plan bs)
      → w.passed.allocations ≡ allocations_for plan w.passed.stations
  -- the header's fields behind TTRT, one rule for the mode, tag 4, F, tag 5, and g, tag 6
  pub by_tag : ByTag
  -- absent means 1
  pub header_absent : (plan : Bool) (bs : List ℕ) (tag : ℕ)
      → 4 ≤ tag → tag ≤ 6 → ¬ There bs tag → head_number (set_in plan bs).head tag ≡ 1
  -- a field that is there gives its number, if that is not 1
  pub header_there : (plan : Bool) (bs : List ℕ) (tag : ℕ)
      → 4 ≤ tag → tag ≤ 6 → There bs tag → said bs tag ≢ 1 → head_number (set_in plan bs).head tag ≡ said bs tag
  -- with any number that is not 2 to the highest, 1 among them, the sheet gets 4
  pub header_other : (plan : Bool) (bs : List ℕ) → WholeSheet plan bs → (tag : ℕ) → 4 ≤ tag → tag ≤ 6 → There bs tag
      → ¬ ((2 ≤ said bs tag) × (said bs tag ≤ most_of tag)) → (read_sheet plan bs).number ≡ 4
  -- its number is the judgement of what the bytes hold: 4 or 5, and 7 for plans, or 0
  pub request_judged : (bs : List ℕ) → WholeSheet false bs → (read_request bs).number ≡ judged (set_in false bs)
  pub plan_judged : (bs : List ℕ)
      → WholeSheet true bs → (read_plan bs).number ≡ judged_plan (set_in true bs) (alloc_in true bs)
  -- a plan sheet that is accepted is no request: its first allocation may not stand there
  pub plan_no_request : (bs : List ℕ) → (read_plan bs).number ≡ 0 → (read_request bs).number ≡ 2
  -- what a sheet holds, whatever its numbers are, comes with the number of reading, and is what reading answers where that is accepted
  pub given_number : (plan : Bool) (bs : List ℕ) → (given_sheet plan bs).number ≡ (read_sheet plan bs).number
  pub given_accepted : (plan : Bool) (bs : List ℕ)
      → (read_sheet plan bs).number ≡ 0 → given_sheet plan bs ≡ read_sheet plan bs
  -- of a sheet without a fault it is the set and the allocation of its fields, with 4, 5 and 7 too
  pub given_whole : (plan : Bool) (bs : List ℕ)
      → WholeSheet plan bs → ((given_sheet plan bs).set ≡ set_in plan bs) × ((given_sheet plan bs).alloc ≡ alloc_in plan bs)
  -- with 1, 2 and 3 it is blank
  pub given_blank : (plan : Bool) (bs : List ℕ)
      → ¬ WholeSheet plan bs → ((given_sheet plan bs).set ≡ blank_set) × ((given_sheet plan bs).alloc ≡ blank_alloc)
  -- refused: the set is blank, and the allocation
  pub request_blank : (bs : List ℕ) → (read_request bs).number ≢ 0 → (read_request bs).set ≡ blank_set
  pub plan_blank : (bs : List ℕ)
      → (read_plan bs).number ≢ 0 → ((read_plan bs).set ≡ blank_set) × ((read_plan bs).alloc ≡ blank_alloc)
  -- reading hands out 0 in every place from N on
  pub request_past : (bs : List ℕ) → ZeroPast (read_request bs).set
  pub plan_past : (bs : List ℕ) → ZeroPast (read_plan bs).set
  pub allocations_past : (bs : List ℕ) (i : ℕ) → (read_plan bs).set.n ≤ i → at (read_plan bs).alloc.s i ≡ 0
  -- writing gives the judgement's number where that is not 0
  pub request_refused : (t : Set) (out : List ℕ) → judged t ≢ 0 → (request_written t out).answer.number ≡ judged t
  pub plan_refused_lem : (t : Set) (a : Alloc) (out : List ℕ)
      → judged_plan t a ≢ 0 → (plan_written t a out).answer.number ≡ judged_plan t a
  -- and 14 exactly if it is 0 and the buffer is shorter than the sheet
  pub request_fourteen : (t : Set) (out : List ℕ)
      → ((request_written t out).answer.number ≡ 14) ↔ ((judged t ≡ 0) × (length out < request_length t))
  pub plan_fourteen : (t : Set) (a : Alloc) (out : List ℕ)
      → ((plan_written t a out).answer.number ≡ 14) ↔ ((judged_plan t a ≡ 0) × (length out < plan_length t))
  -- refused writing changes no byte
  pub request_unchanged : (t : Set) (out : List ℕ)
      → (request_written t out).answer.number ≢ 0 → (request_written t out).buffer ≡ out
  pub plan_unchanged : (t : Set) (a : Alloc) (out : List ℕ)
      → (plan_written t a out).answer.number ≢ 0 → (plan_written t a out).buffer ≡ out
  -- writing looks at the first N places only
  pub request_first_places : (t u : Set) (out : List ℕ) → SameSet t u
      → ((request_written t out).answer ≡ (request_written u out).answer)
      × ((request_written t out).buffer ≡ (request_written u out).buffer)
  pub plan_first_places : (t u : Set) (a b : Alloc) (out : List ℕ)
      → SameSet t u → ((i : ℕ) → i < t.n → at a.s i ≡ at b.s i)
      → ((plan_written t a out).answer ≡ (plan_written u b out).answer)
      × ((plan_written t a out).buffer ≡ (plan_written u b out).buffer)
