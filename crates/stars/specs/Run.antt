-- The ★ worked run of 01, "The ring": four stations, the calls in their order, and the table row by row.
use Rattle.std.specs.Prelude.{ℕ, ◌≡◌, List, [], ◌∷◌, ℤ, pos}
use Rattle.sets.specs.declared.Set.{Set}
use Rattle.plans.specs.Planned.{planned}
use Rattle.plans.specs.Rules.{spare_time}
use Rattle.plans.specs.declared.Alloc.{Alloc}
use Rattle.units.specs.Places.{at}
use Rattle.rings.specs.Opening.{opening}
use Rattle.rings.specs.Steps.{Ask, visited}
use Rattle.rings.specs.HandingIn.{handed_in}
use Rattle.rings.specs.declared.Ring.{Ring}
use Rattle.rings.specs.declared.Message.{Message}
use Rattle.rings.specs.declared.VisitAnswer.{VisitAnswer}
use Rattle.stars.specs.Allocations.{places, set_of}

-- four stations, TTRT 100, w 2, 0, 0, 0, all C 20, D 100, P 100
abbrev pub four_stations : Set
four_stations = set_of 100 (2 ∷ 0 ∷ 0 ∷ 0 ∷ []) (20 ∷ 20 ∷ 20 ∷ 20 ∷ []) (100 ∷ 100 ∷ 100 ∷ 100 ∷ [])

-- so S 20
abbrev pub twenties : Alloc
twenties = record { s = places (20 ∷ 20 ∷ 20 ∷ 20 ∷ []) }

-- a row of the table
pub record Row : Type 0 where
  pub station : ℕ
  pub start : ℕ
  pub trt : ℕ
  pub limit : ℕ
  pub synchronous : ℕ
  pub asynchronous : ℕ
  pub finish : ℕ
  pub margin : ℤ

abbrev row : ℕ → ℕ → ℕ → ℕ → ℕ → ℕ → ℕ → ℤ → Row
row station start trt limit synchronous asynchronous finish margin =
    record {
      station = station;
      start = start;
      trt = trt;
      limit = limit;
      synchronous = synchronous;
      asynchronous = asynchronous;
      finish = finish;
      margin = margin;
    }

-- a call of the run: a message of 20 for a station with its arrival, which must be accepted; or a visit with 1,000 asynchronous ticks asked for, which must give the row
pub data Call : Type 0 where
  message : ℕ → ℕ → Call
  visit : Row → Call

-- each station gets messages of 20 arriving at 0 and 100, the second handed in when the clock has reached 100
abbrev pub calls : List Call
calls =
    message 0 0 ∷
    message 1 0 ∷
    message 2 0 ∷
    message 3 0 ∷
    visit (row 0 0 2 18 20 18 20 (pos 80)) ∷
    visit (row 1 40 40 0 20 0 60 (pos 40)) ∷
    visit (row 2 60 60 0 20 0 80 (pos 20)) ∷
    visit (row 3 80 80 0 20 0 100 (pos 0)) ∷
    message 0 100 ∷
    message 1 100 ∷
    message 2 100 ∷
    message 3 100 ∷
    visit (row 0 100 100 0 20 0 120 (pos 80)) ∷
    visit (row 1 122 82 18 20 18 142 (pos 58)) ∷
    []

-- the message of a call
abbrev pub message_of : ℕ → ℕ → Message
message_of station arrival =
    record { station = record { 0 = station }; length = record { 0 = 20 }; arrival = record { 0 = arrival } }

-- the answer of an accepted visit that completes a message, with the row's numbers
abbrev pub answer_of : Row → VisitAnswer
answer_of x =
    record {
      «record» =
          record {
            station = record { 0 = x.station };
            start = record { 0 = x.start };
            trt = record { 0 = x.trt };
            limit = record { 0 = x.limit };
            synchronous = record { 0 = x.synchronous };
            asynchronous = record { 0 = x.asynchronous };
            finish = record { 0 = x.finish };
            margin = x.margin;
            completed = 1;
          };
      number = 0;
    }

-- a thousand ticks are asked for at every visit
abbrev pub asked : Ask
asked = record { frames = 1000; length = 1 }

-- from this ring on, every call is answered so
abbrev pub Runs : Ring → List Call → Type 0
Runs r [] = Unit {0}
Runs r (message station arrival ∷ rest) =
    ((handed_in r (message_of station arrival)).number ≡ 0) × Runs (handed_in r (message_of station arrival)).ring rest
Runs r (visit x ∷ rest) = ((visited r asked).answer ≡ answer_of x) × Runs (visited r asked).ring rest

-- ---- the table holds

pub record WorkedRun : Type 0 where
  -- planning gives S 20 at each station
  pub plan : planned four_stations ≡ record { alloc = twenties; number = 0 }
  -- A* is 18
  pub spare : spare_time four_stations (at twenties.s) ≡ 18
  -- opening accepts them
  pub opened : (opening four_stations twenties).number ≡ 0
  -- and the calls are answered row by row
  pub table : Runs (opening four_stations twenties).ring calls
