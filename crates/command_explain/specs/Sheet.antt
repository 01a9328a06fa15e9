-- What `explain` finds in the bytes: a request sheet or a plan sheet, its number, the place where the walk over it stops, and the numbers that are said of it.
use Rattle.std.specs.Prelude.{ℕ, ◌+◌, ◌-◌, ◌<◌, ◌≡◌, Bool, false, cond, ◌&&◌, List, leb, eqb}
use Rattle.units.specs.Numbers.{runs_on, fddi}
use Rattle.units.specs.Places.{at, sum_below}
use Rattle.sets.specs.Rules.{tau}
use Rattle.sets.specs.declared.Head.{Head}
use Rattle.sets.specs.declared.Set.{Set}
use Rattle.plans.specs.Rules.{spare_time}
use Rattle.plans.specs.declared.Alloc.{Alloc}
use Rattle.fields.specs.Fields.{allocation_tag, left, tag_at, size_at}
use Rattle.fields.specs.Header.{further_place}
use Rattle.fields.specs.declared.Passed.{Passed}
use Rattle.field_reader.specs.Scanned.{scanned}
use Rattle.sheets.specs.Reading.{given_sheet}
use Rattle.sheets.specs.declared.ReadPlan.{ReadPlan}
use Rattle.command_plan.specs.PlanSheet.{plan_of}
use Rattle.reasons.specs.Rooms.{rooms_of}
use Rattle.reasons.specs.Shortages.{shortage_of, grid_is_cause}
use Rattle.faults.specs.Holdings.{token_of}
use Rattle.faults.specs.declared.Token.{Token}
use Rattle.command_explain.specs.declared.Place.{Place}
use Rattle.command_explain.specs.declared.Sums.{Sums}
use Rattle.command_explain.specs.declared.Explained.{Explained}

-- r is the byte at a place, 0 where there is none
pub record ByteOrZero (bs : List ℕ) (a r : ℕ) : Type 0 where
  pub is : r ≡ at bs a
  pub small : r < 256

-- the bytes are explained as a plan sheet if they stop being a request sheet at an allocation, behind a station
abbrev pub is_plan : List ℕ → Bool
is_plan bs = leb 1 (scanned false bs).passed.stations && eqb (tag_at bs (scanned false bs).at) allocation_tag

-- a plan sheet has the number of reading, a request sheet that of `plan`, with the planned S
unfoldable pub judged_as : Bool → ReadPlan → ReadPlan
judged_as plan given = cond plan given (plan_of (record { set = given.set; number = given.number }))

-- ---- the place where the walk stops

-- of 3 the three bytes of the end field are passed over
unfoldable pub skipped_by : ℕ → ℕ
skipped_by number = cond (eqb number runs_on) 3 0

-- what stands at a, where so many bytes are passed over; a tag and a length where three bytes are left
unfoldable pub place_at : List ℕ → ℕ → ℕ → Passed → Place
place_at bs a skipped p =
    cond (leb 3 (left bs a))
    (record { byte = a + skipped; left = left bs a - skipped; tag = tag_at bs a; size = size_at bs a; passed = p })
    (record { byte = a; left = left bs a; tag = 0; size = 0; passed = p })

abbrev pub place_in : Bool → List ℕ → Place
place_in plan bs = place_at bs (scanned plan bs).at (skipped_by (scanned plan bs).number) (scanned plan bs).passed

-- ---- the header's numbers as they stand in their fields

-- reading hands out 0 for a field that says 0 or 1; its last byte tells which
unfoldable pub said_number : List ℕ → ℕ → ℕ → ℕ
said_number bs last number = cond (eqb number 0) (at bs last) number

abbrev pub said_head : List ℕ → Head → Head
said_head bs h =
    record {
      ttrt = h.ttrt;
      mode = said_number bs 10 h.mode;
      frame = said_number bs (further_place bs 1 + 6) h.frame;
      grid = said_number bs (further_place bs 2 + 6) h.grid;
    }

-- ---- the sum of S

-- within how many ticks the token is back: TTRT; in FDDI TTRT, the sum of S and F − 1
unfoldable pub back_within : Set → Alloc → ℕ
back_within t a =
    cond (eqb t.head.mode fddi) (t.head.ttrt + sum_below t.n (at a.s) + (t.head.frame - 1)) t.head.ttrt

-- the sum, what there is for it, and what is missing: of a plan sheet with its S, of a request sheet with the smallest
unfoldable pub account_of : Bool → Set → Alloc → Token
account_of plan t a =
    cond plan (token_of t a)
    (record { sum = (shortage_of t).sum; available = (shortage_of t).available; over = (shortage_of t).missing })

abbrev pub sums_with : Token → Set → Alloc → Sums
sums_with account t a =
    record {
      sum = account.sum;
      tau = tau t;
      more = t.head.frame - 1;
      available = account.available;
      missing = account.over;
      spare = spare_time t (at a.s);
      back = back_within t a;
      burst = spare_time t (at a.s) + (t.head.frame - 1);
    }

abbrev pub sums_of : Bool → Set → Alloc → Sums
sums_of plan t a = sums_with (account_of plan t a) t a

-- ---- all of it

abbrev pub explained_of : Bool → List ℕ → ReadPlan → Explained
explained_of plan bs given =
    record {
      plan = plan;
      number = given.number;
      place = place_in plan bs;
      set = given.set;
      alloc = given.alloc;
      said = said_head bs given.set.head;
      sums = sums_of plan given.set given.alloc;
      rooms = rooms_of given.set;
      grid_cause = grid_is_cause given.set;
    }

abbrev pub explained_as : Bool → List ℕ → Explained
explained_as plan bs = explained_of plan bs (judged_as plan (given_sheet plan bs))

abbrev pub explained : List ℕ → Explained
explained bs = explained_as (is_plan bs) bs
