-- A run in which all that the promises speak of happens: none is kept by never being called upon. 01's own worked run stands in `stars`.
use Rattle.std.specs.Prelude.{ℕ, ◌≡◌, List, [], ◌∷◌, ◌++◌, ℤ, pos, replicate}
use Rattle.units.specs.Numbers.{timely}
use Rattle.units.specs.Places.{at}
use Rattle.sets.specs.declared.Set.{Set}
use Rattle.plans.specs.Rules.{spare_time}
use Rattle.plans.specs.Planned.{judged_plan, planned}
use Rattle.plans.specs.declared.Alloc.{Alloc}
use Rattle.rings.specs.Steps.{Ask}
use Rattle.rings.specs.HandingIn.{handed_in}
use Rattle.rings.specs.declared.Message.{Message}
use Rattle.rings.specs.declared.VisitRecord.{VisitRecord}
use Rattle.promises.specs.Run.{Call, visit, message, run_of, ring_of, records_of}
use Rattle.promises.specs.Valid.{Regular}

-- two places, and 0 past them
abbrev pub two : ℕ → ℕ → List ℕ
two a b = (a ∷ b ∷ []) ++ replicate 126 0

-- TTRT 100, w 1 each; station 0 has C 30, D 250, P 250, station 1 has no synchronous stream
abbrev pub pair_of : ℕ → Set
pair_of mode =
    record {
      head = record { ttrt = 100; mode = mode; frame = 1; grid = 1 };
      n = 2;
      w = two 1 1;
      c = two 30 0;
      d = two 250 100;
      p = two 250 100;
    }

-- as a timely-token ring
abbrev pub pair : Set
pair = pair_of timely

-- S 15 and 0
abbrev pub shares : Alloc
shares = record { s = two 15 0 }

-- a message of 30 for station 0
abbrev pub thirty : ℕ → Message
thirty arrival = record { station = record { 0 = 0 }; length = record { 0 = 30 }; arrival = record { 0 = arrival } }

-- 1,000 asynchronous ticks
abbrev pub thousand : Ask
thousand = record { frames = 1000; length = 1 }

-- they are asked for at each visit
abbrev pub greedy : Call
greedy = visit thousand

-- a message that takes two visits is handed in, another at once is refused, and both stations are visited
abbrev pub begun : List Call
begun = message (thirty 0) ∷ message (thirty 0) ∷ greedy ∷ greedy ∷ []

-- the message is completed
abbrev pub completed : List Call
completed = begun ++ greedy ∷ []

-- the next one is handed in ahead of its arrival, and refused; both stations are visited before it
abbrev pub ahead : List Call
ahead = completed ++ message (thirty 250) ∷ greedy ∷ greedy ∷ []

-- or it is waited for, four visits long
abbrev pub waited : List Call
waited = completed ++ greedy ∷ greedy ∷ greedy ∷ greedy ∷ []

-- station, start, TRT, limit, sync, async, and of a completed message finish, margin and flag
abbrev pub row : ℕ → ℕ → ℕ → ℕ → ℕ → ℕ → ℕ → ℤ → ℕ → VisitRecord
row station start trt limit sync async finish margin flag =
    record {
      station = record { 0 = station };
      start = record { 0 = start };
      trt = record { 0 = trt };
      limit = record { 0 = limit };
      synchronous = record { 0 = sync };
      asynchronous = record { 0 = async };
      finish = record { 0 = finish };
      margin = margin;
      completed = flag;
    }

pub record Happens : Type 0 where
  -- planning gives this plan; A* is 83, and it meets the rules
  pub plan : planned pair ≡ record { alloc = shares; number = 0 }
  pub spare : spare_time pair (at shares.s) ≡ 83
  pub judged : judged_plan pair shares ≡ 0
  -- first visits and a second one, TRTs and a gap of just TTRT, all of S sent, limits above 0 and of 0 after the asynchronous time of the two visits before, a message completed in its second part
  pub records : records_of pair shares completed
      ≡ row 0 100 100 0 15 0 115 (pos 135) 1 ∷ row 1 99 100 0 0 0 0 (pos 0) 0 ∷ row 0 0 2 83 15 83 0 (pos 0) 0 ∷ []
  -- the message is accepted, half of it is still held when both stations have been visited
  pub accepted : (handed_in (ring_of pair shares []) (thirty 0)).number ≡ 0
  pub held : at (ring_of pair shares begun).rest 0 ≡ 15
  -- a call between them is refused
  pub refused : (handed_in (ring_of pair shares (message (thirty 0) ∷ [])) (thirty 0)).number ≡ 11
  -- a message is refused while its arrival lies ahead of the clock, also where 12 would refuse it, and nothing of it is sent
  pub early_clock : (ring_of pair shares completed).clock ≡ 116
  pub early : (handed_in (ring_of pair shares completed) (thirty 250)).number ≡ 15
  pub early_too : (handed_in (ring_of pair shares completed) (thirty 249)).number ≡ 15
  pub unserved : records_of pair shares ahead
      ≡ row 0 200 100 0 0 0 0 (pos 0) 0 ∷ row 1 116 17 83 0 83 0 (pos 0) 0 ∷ records_of pair shares completed
  -- a message that keeps C and P is handed in when the clock has reached its arrival, and taken
  pub regular : Regular pair (run_of pair shares waited) (thirty 250)
  pub taken : (handed_in (ring_of pair shares waited) (thirty 250)).number ≡ 0
  -- and so is one that arrives just then, but none that arrives a tick later
  pub waited_clock : (ring_of pair shares waited).clock ≡ 286
  pub just : (handed_in (ring_of pair shares waited) (thirty 286)).number ≡ 0
  pub not_yet : (handed_in (ring_of pair shares waited) (thirty 287)).number ≡ 15
