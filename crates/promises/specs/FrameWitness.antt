-- Runs with frames of 16 ticks that are not cut: a frame runs on past the limit by all of F − 1, the limits after it are held at 0, and the token comes just as late as is promised, with timely-token and with FDDI.
use Rattle.std.specs.Prelude.{ℕ, ◌≡◌, List, [], ◌∷◌, pos}
use Rattle.units.specs.Numbers.{timely, fddi}
use Rattle.units.specs.Places.{at}
use Rattle.sets.specs.declared.Set.{Set}
use Rattle.plans.specs.Rules.{spare_time}
use Rattle.plans.specs.Planned.{judged_plan, planned}
use Rattle.plans.specs.declared.Alloc.{Alloc}
use Rattle.rings.specs.Opening.{opening}
use Rattle.rings.specs.Steps.{Ask, visited}
use Rattle.rings.specs.declared.Message.{Message}
use Rattle.promises.specs.Run.{Call, visit, message, ring_of, records_of}
use Rattle.promises.specs.History.{async_of}
use Rattle.promises.specs.Witness.{two, row}

-- TTRT 100, F 16, w 2 and 1; station 0 has C 34, D 250, P 250, station 1 has no synchronous stream
abbrev pub framed : ℕ → Set
framed mode =
    record {
      head = record { ttrt = 100; mode = mode; frame = 16; grid = 1 };
      n = 2;
      w = two 2 1;
      c = two 34 0;
      d = two 250 100;
      p = two 250 100;
    }

-- S 17 and 0, in every mode
abbrev pub seventeen : Alloc
seventeen = record { s = two 17 0 }

-- a message of 34 for station 0
abbrev pub halves : Message
halves = record { station = record { 0 = 0 }; length = record { 0 = 34 }; arrival = record { 0 = 0 } }

-- 1,000 frames of one length
abbrev pub frames_of : ℕ → Ask
frames_of length = record { frames = 1000; length = length }

-- the message is handed in, and each visit asks for 1,000 frames of 16
abbrev pub begun : List Call
begun = message halves ∷ visit (frames_of 16) ∷ visit (frames_of 16) ∷ []

-- and once more
abbrev pub again : List Call
again = message halves ∷ visit (frames_of 16) ∷ visit (frames_of 16) ∷ visit (frames_of 16) ∷ []

pub record FramesHappen : Type 0 where
  -- timely-token: planning gives this plan; A* is 100 − 3 − 15 − 17, and it meets the rules
  pub plan : planned (framed timely) ≡ record { alloc = seventeen; number = 0 }
  pub spare : spare_time (framed timely) (at seventeen.s) ≡ 65
  pub judged : judged_plan (framed timely) seventeen ≡ 0
  -- the fifth frame starts at 64 of 65 ticks and is finished: 80 are sent, A* + 15; then two visits are offered 65 − 80, held at 0, and the token is back after just TTRT
  pub records : records_of (framed timely) seventeen again
      ≡ row 0 100 100 0 17 0 117 (pos 133) 1 ∷ row 1 99 100 0 0 0 0 (pos 0) 0 ∷ row 0 0 3 65 17 80 0 (pos 0) 0 ∷ []
  pub window : async_of 2 (records_of (framed timely) seventeen begun) ≡ 80
  -- a length above F is refused, and so is 0
  pub long : (visited (ring_of (framed timely) seventeen []) (frames_of 17)).answer.number ≡ 10
  pub none : (visited (ring_of (framed timely) seventeen []) (frames_of 0)).answer.number ≡ 10
  -- FDDI: the same plan meets the rules; it is neither planned nor opened any more
  pub older_judged : judged_plan (framed fddi) seventeen ≡ 0
  pub older_not_planned : (planned (framed fddi)).number ≡ 16
  pub older_not_opened : (opening (framed fddi) seventeen).number ≡ 16
  -- A* is 100 − 3 − 17: FDDI does not subtract F − 1 in it
  pub older_spare : spare_time (framed fddi) (at seventeen.s) ≡ 80
  -- the seventh frame starts at 96 of 97 ticks, 112 are sent, and the token is back after 132 ticks, TTRT + the sum of S + 15
  pub older_records : records_of (framed fddi) seventeen again
      ≡ row 0 132 32 0 17 0 149 (pos 101) 1 ∷ row 1 131 32 0 0 0 0 (pos 0) 0 ∷ row 0 0 3 97 17 112 0 (pos 0) 0 ∷ []
