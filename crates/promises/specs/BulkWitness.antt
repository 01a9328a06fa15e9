-- A run in which bulk data waits nearly as long as it can, so that no smaller number of visits could be promised: station 1 has just sent all of A*, both stations ask for more than A* at every visit, and station 0 sends all of its S.
use Rattle.std.specs.Prelude.{◌≡◌, List, [], ◌∷◌, ◌++◌, pos, length}
use Rattle.units.specs.Numbers.{timely}
use Rattle.units.specs.Places.{at}
use Rattle.sets.specs.declared.Set.{Set}
use Rattle.plans.specs.Rules.{spare_time}
use Rattle.plans.specs.Planned.{judged_plan, planned}
use Rattle.plans.specs.declared.Alloc.{Alloc}
use Rattle.rings.specs.declared.Message.{Message}
use Rattle.promises.specs.Run.{Call, message, Run, run, run_of}
use Rattle.promises.specs.Bulk.{visits_among, AlwaysAsks, longest_wait}
use Rattle.promises.specs.Witness.{two, greedy, row}

-- TTRT 100, w 2 and 0; station 0 has C 970, D 1000, P 1000, station 1 has no synchronous stream
abbrev pub crowded : Set
crowded =
    record {
      head = record { ttrt = 100; mode = timely; frame = 1; grid = 1 };
      n = 2;
      w = two 2 0;
      c = two 970 0;
      d = two 1000 100;
      p = two 1000 100;
    }

-- S 97 and 0
abbrev pub crowded_shares : Alloc
crowded_shares = record { s = two 97 0 }

-- a message of 970 for station 0: it is sent in ten parts
abbrev pub long : Message
long = record { station = record { 0 = 0 }; length = record { 0 = 970 }; arrival = record { 0 = 0 } }

-- four visits, the last of them station 1's, which sends all of A*
abbrev pub sent : Run
sent = run_of crowded crowded_shares (message long ∷ greedy ∷ greedy ∷ greedy ∷ greedy ∷ [])

-- five visits more: N·(N + 1) − 1; a message between them is refused
abbrev pub five : List Call
five = greedy ∷ message long ∷ greedy ∷ greedy ∷ greedy ∷ greedy ∷ []

-- four visits more: (N + 1)·(N + 1) in all
abbrev pub nine : List Call
nine = five ++ greedy ∷ greedy ∷ greedy ∷ greedy ∷ []

pub record BulkWaits : Type 0 where
  -- planning gives this plan; A* is 1, and it meets the rules
  pub plan : planned crowded ≡ record { alloc = crowded_shares; number = 0 }
  pub spare : spare_time crowded (at crowded_shares.s) ≡ 1
  pub judged : judged_plan crowded crowded_shares ≡ 0
  -- station 1 asks for at least A* at each visit
  pub asks : AlwaysAsks 1 1 sent five
  -- and is offered 0 at both of its own: all of A* was sent in the rotation before, first by itself and then by station 0
  pub waits : visits_among sent five ≡
      row 0 399 100 0 97 0 0 (pos 0) 0
      ∷ row 1 399 100 0 0 0 0 (pos 0) 0
      ∷ row 0 299 99 1 97 1 0 (pos 0) 0
      ∷ row 1 299 100 0 0 0 0 (pos 0) 0
      ∷ row 0 200 100 0 97 0 0 (pos 0) 0
      ∷ []
  -- the visit after these is its own again, and is offered A*
  pub ends : visits_among sent (five ++ greedy ∷ []) ≡ row 1 498 99 1 0 1 0 (pos 0) 0 ∷ visits_among sent five
  -- it starts 298 ticks after the first of them did; the promise is 300
  pub begin : sent.ring.clock ≡ 200
  pub promised : longest_wait crowded ≡ 300
  -- over (N + 1)·(N + 1) visits it asks for at least A* all the time, and the clock passes the 500 ticks by which it must have been offered some
  pub nine_asks : AlwaysAsks 1 1 sent nine
  pub nine_visits : length (visits_among sent nine) ≡ 9
  pub nine_clock : (run sent nine).ring.clock ≡ 698
