-- Runs of the 2002 edition, so that what is promised of it is not kept by never being called upon.
-- The asynchronous part comes first, a message is looked at behind it and none that arrives in it is ever taken, and the station's own asynchronous time is not in its timer.
-- So a neighbour may be offered nothing, and what is promised of bulk data in the 2003 edition is false here.
use Rattle.std.specs.Prelude.{ℕ, ◌≡◌, List, [], ◌∷◌, pos}
use Rattle.units.specs.Numbers.{earlier}
use Rattle.units.specs.Places.{at}
use Rattle.sets.specs.declared.Set.{Set}
use Rattle.plans.specs.Rules.{spare_time}
use Rattle.plans.specs.Planned.{judged_plan, planned}
use Rattle.rings.specs.HandingIn.{handed_in}
use Rattle.promises.specs.Run.{Call, message, ring_of, records_of, messages_of}
use Rattle.promises.specs.History.{async_of}
use Rattle.promises.specs.Bulk.{Served}
use Rattle.promises.specs.Witness.{pair_of, shares, thirty, greedy, completed, row}
use Rattle.promises.specs.FrameWitness.{framed, seventeen, begun, again}

-- the set of `Witness` in the 2002 edition: TTRT 100, w 1 each; planning gives the same S, 15 and 0
abbrev pub first : Set
first = pair_of earlier

-- a message is handed in before the first visit, and once more behind it
abbrev pub within : ℕ → List Call
within arrival = message (thirty arrival) ∷ greedy ∷ message (thirty arrival) ∷ []

-- (N + 1)·(N + 1) visits, each of which asks for more than A*
abbrev pub nine : List Call
nine = greedy ∷ greedy ∷ greedy ∷ greedy ∷ greedy ∷ greedy ∷ greedy ∷ greedy ∷ greedy ∷ []

pub record EarlierHappens : Type 0 where
  -- planning gives this plan; A* is 83, and it meets the rules
  pub plan : planned first ≡ record { alloc = shares; number = 0 }
  pub spare : spare_time first (at shares.s) ≡ 83
  pub judged : judged_plan first shares ≡ 0
  -- the message waits for 83 asynchronous ticks at each visit: its second half is sent from 183 on, and its finish is 198. The token is back after just TTRT, and the limit is then all of A* again
  pub records : records_of first shares completed
      ≡ row 0 100 17 83 15 83 198 (pos 52) 1 ∷ row 1 99 100 0 0 0 0 (pos 0) 0 ∷ row 0 0 2 83 15 83 0 (pos 0) 0 ∷ []
  -- the last start of station 0 is that of its synchronous part, 83: a message that arrives by then is too early for the next visit, and refused
  pub behind : (handed_in (ring_of first shares (greedy ∷ [])) (thirty 83)).number ≡ 12
  pub after : (handed_in (ring_of first shares (greedy ∷ [])) (thirty 84)).number ≡ 0
  -- before that visit it is refused too, since it has not arrived: one that arrives in its station's own asynchronous part is never taken, one that arrives behind it is taken then
  pub before : (handed_in (ring_of first shares []) (thirty 83)).number ≡ 15
  pub never : messages_of first shares (within 83) ≡ []
  pub then : messages_of first shares (within 84) ≡ thirty 84 ∷ []
  -- and none of it was sent in that visit
  pub missed : records_of first shares (within 84) ≡ row 0 0 2 83 0 83 0 (pos 0) 0 ∷ []
  -- of (N + 1)·(N + 1) visits none of station 1's is offered anything, though it asks for more than A* each time
  pub starves : records_of first shares nine
      ≡ row 0 340 2 83 0 83 0 (pos 0) 0 ∷ row 1 339 85 0 0 0 0 (pos 0) 0 ∷ row 0 255 2 83 0 83 0 (pos 0) 0
      ∷ row 1 254 85 0 0 0 0 (pos 0) 0 ∷ row 0 170 2 83 0 83 0 (pos 0) 0 ∷ row 1 169 85 0 0 0 0 (pos 0) 0
      ∷ row 0 85 2 83 0 83 0 (pos 0) 0 ∷ row 1 84 85 0 0 0 0 (pos 0) 0 ∷ row 0 0 2 83 0 83 0 (pos 0) 0 ∷ []
  -- so what No. 3 says of the 2003 edition is not true of this set
  pub no_bulk : ¬ Served first shares
  -- with frames of 16 ticks the same S meet the rules and A* is 65; N visits send all of A* + (F − 1), and the token is back after just TTRT
  pub framed_judged : judged_plan (framed earlier) seventeen ≡ 0
  pub framed_spare : spare_time (framed earlier) (at seventeen.s) ≡ 65
  pub framed_records : records_of (framed earlier) seventeen again
      ≡ row 0 100 20 65 17 80 197 (pos 53) 1 ∷ row 1 99 100 0 0 0 0 (pos 0) 0 ∷ row 0 0 3 65 17 80 0 (pos 0) 0 ∷ []
  pub window : async_of 2 (records_of (framed earlier) seventeen begun) ≡ 80
