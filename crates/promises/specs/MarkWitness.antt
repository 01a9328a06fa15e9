-- Runs in which a station is switched through: in each mode a mark is set, the message that the station holds is withdrawn, the mark comes off and another message is sent in time.
use Rattle.std.specs.Prelude.{ℕ, ◌≡◌, List, [], ◌∷◌, ◌++◌, pos}
use Rattle.units.specs.Numbers.{timely, fddi, earlier}
use Rattle.units.specs.declared.Station.{Station}
use Rattle.rings.specs.Steps.{Ask, visited}
use Rattle.rings.specs.HandingIn.{handed_in}
use Rattle.rings.specs.declared.MarkAnswer.{MarkAnswer}
use Rattle.promises.specs.Run.{Call, message, mark, unmark, a_visit, a_message, a_marking, an_unmarking, ring_of, events_of}
use Rattle.promises.specs.Witness.{pair_of, shares, thirty, greedy, row}

-- station 0
abbrev pub door : Station
door = record { 0 = 0 }

-- what a marking took back: what remained, the arrival and the flag
abbrev pub taken_back : ℕ → ℕ → ℕ → MarkAnswer
taken_back rest arrival flag =
    record { rest = record { 0 = rest }; arrival = record { 0 = arrival }; withdrawn = flag; number = 0 }

-- half of a message is sent, and its station is switched through
abbrev pub bypassed : List Call
bypassed = message (thirty 0) ∷ greedy ∷ greedy ∷ mark door ∷ []

-- and it is switched in again three rotations on
abbrev pub back : List Call
back = bypassed ++ greedy ∷ greedy ∷ greedy ∷ greedy ∷ greedy ∷ greedy ∷ unmark door ∷ []

-- a frame of 2 ticks, where F is 1
abbrev pub long : Ask
long = record { frames = 1; length = 2 }

-- a message is refused there, and a second marking told of; three rotations on the station is switched in again, and another message is handed in and sent
abbrev pub again : List Call
again =
    message (thirty 0) ∷ greedy ∷ greedy ∷ mark door ∷ message (thirty 250) ∷ mark door ∷ greedy ∷ greedy ∷ greedy ∷
    greedy ∷ greedy ∷ greedy ∷ unmark door ∷ message (thirty 271) ∷ greedy ∷ greedy ∷ greedy ∷ []

pub record MarksHappen : Type 0 where
  -- while it is marked, messages get 11
  pub refused : (handed_in (ring_of (pair_of timely) shares bypassed) (thirty 250)).number ≡ 11
  -- the length of the frames is judged at its visit as at any other
  pub judged : (visited (ring_of (pair_of timely) shares bypassed) long).answer.number ≡ 10
  -- once it is in again, a message may arrive P after the one that was withdrawn, and no sooner
  pub too_soon : (handed_in (ring_of (pair_of timely) shares back) (thirty 249)).number ≡ 12
  pub late_enough : (handed_in (ring_of (pair_of timely) shares back) (thirty 250)).number ≡ 0
  -- the 2003 edition: the third visit of the marked station would have been offered 83, and is offered 0
  pub timely_marks : events_of (pair_of timely) shares again
      ≡ a_visit 0 (row 0 289 17 83 15 83 304 (pos 217) 1)
      ∷ a_visit 0 (row 1 288 100 0 0 0 0 (pos 0) 0)
      ∷ a_visit 0 (row 0 272 85 0 15 0 0 (pos 0) 0)
      ∷ a_message (thirty 271)
      ∷ an_unmarking door
      ∷ a_visit 0 (row 1 188 2 83 0 83 0 (pos 0) 0)
      ∷ a_visit 1 (row 0 187 2 0 0 0 0 (pos 0) 0)
      ∷ a_visit 0 (row 1 186 85 0 0 0 0 (pos 0) 0)
      ∷ a_visit 1 (row 0 185 85 0 0 0 0 (pos 0) 0)
      ∷ a_visit 0 (row 1 101 2 83 0 83 0 (pos 0) 0)
      ∷ a_visit 1 (row 0 100 100 0 0 0 0 (pos 0) 0)
      ∷ a_marking door (taken_back 0 0 0)
      ∷ a_marking door (taken_back 15 0 1)
      ∷ a_visit 0 (row 1 99 100 0 0 0 0 (pos 0) 0)
      ∷ a_visit 0 (row 0 0 2 83 15 83 0 (pos 0) 0)
      ∷ a_message (thirty 0) ∷ []
  -- FDDI
  pub fddi_marks : events_of (pair_of fddi) shares again
      ≡ a_visit 0 (row 0 334 32 68 15 68 349 (pos 172) 1)
      ∷ a_visit 0 (row 1 333 15 0 0 0 0 (pos 0) 0)
      ∷ a_visit 0 (row 0 302 85 15 15 15 0 (pos 0) 0)
      ∷ a_message (thirty 271)
      ∷ an_unmarking door
      ∷ a_visit 0 (row 1 218 17 83 0 83 0 (pos 0) 0)
      ∷ a_visit 1 (row 0 217 17 0 0 0 0 (pos 0) 0)
      ∷ a_visit 0 (row 1 201 85 15 0 15 0 (pos 0) 0)
      ∷ a_visit 1 (row 0 200 0 0 0 0 0 (pos 0) 0)
      ∷ a_visit 0 (row 1 116 17 83 0 83 0 (pos 0) 0)
      ∷ a_visit 1 (row 0 115 15 0 0 0 0 (pos 0) 0)
      ∷ a_marking door (taken_back 0 0 0)
      ∷ a_marking door (taken_back 15 0 1)
      ∷ a_visit 0 (row 1 114 15 0 0 0 0 (pos 0) 0)
      ∷ a_visit 0 (row 0 0 2 98 15 98 0 (pos 0) 0)
      ∷ a_message (thirty 0) ∷ []
  -- the 2002 edition
  pub earlier_marks : events_of (pair_of earlier) shares again
      ≡ a_visit 0 (row 0 455 100 0 15 0 470 (pos 51) 1)
      ∷ a_visit 0 (row 1 371 17 83 0 83 0 (pos 0) 0)
      ∷ a_visit 0 (row 0 355 85 0 15 0 0 (pos 0) 0)
      ∷ a_message (thirty 271)
      ∷ an_unmarking door
      ∷ a_visit 0 (row 1 271 2 83 0 83 0 (pos 0) 0)
      ∷ a_visit 1 (row 0 270 85 0 0 0 0 (pos 0) 0)
      ∷ a_visit 0 (row 1 186 2 83 0 83 0 (pos 0) 0)
      ∷ a_visit 1 (row 0 185 85 0 0 0 0 (pos 0) 0)
      ∷ a_visit 0 (row 1 101 2 83 0 83 0 (pos 0) 0)
      ∷ a_visit 1 (row 0 100 17 0 0 0 0 (pos 0) 0)
      ∷ a_marking door (taken_back 0 0 0)
      ∷ a_marking door (taken_back 15 0 1)
      ∷ a_visit 0 (row 1 99 100 0 0 0 0 (pos 0) 0)
      ∷ a_visit 0 (row 0 0 2 83 15 83 0 (pos 0) 0)
      ∷ a_message (thirty 0) ∷ []
