-- Runs of an FDDI ring, so that what is promised of it is not kept by never being called upon: the token comes as late as `FddiKept.sooner` allows, TTRT + the sum of S; a station is late, and a message of a sound ring is.
use Rattle.std.specs.Prelude.{ℕ, ◌≡◌, true, List, [], ◌∷◌, pos, negsuc}
use Rattle.units.specs.Numbers.{fddi}
use Rattle.units.specs.Places.{at, sum_below}
use Rattle.sets.specs.Judged.{zeros}
use Rattle.sets.specs.declared.Set.{Set}
use Rattle.plans.specs.Planned.{judged_plan, planned}
use Rattle.rings.specs.State.{unused_at, with_plan, with_timers, with_messages, with_course, blank_ring}
use Rattle.rings.specs.Opening.{opening}
use Rattle.rings.specs.Sound.{is_sound}
use Rattle.rings.specs.Steps.{visited}
use Rattle.rings.specs.declared.Ring.{Ring}
use Rattle.promises.specs.Run.{Call, message, ring_of, records_of}
use Rattle.promises.specs.Witness.{two, pair_of, shares, thirty, thousand, greedy, completed, row}

-- the set of `Witness` as an FDDI ring: TTRT 100, w 1 each; the S that planning gives there, 15 and 0, keep FDDI's rules too
abbrev pub older : Set
older = pair_of fddi

-- a message is handed in, and station 0 is visited
abbrev pub first : List Call
first = message (thirty 0) ∷ greedy ∷ []

-- a sound ring: station 0 still holds half of its message at this clock. No run reaches it: 6 visits are three rotations, each of 2 ticks at least, so station 0's last start would be 4 or later, and here it is 0
abbrev pub belated : ℕ → Ring
belated clock =
    with_timers
    (record { trt = two 50 50; late = two 1 0; unused = 15 })
    (with_messages
    (record { rest = two 15 0; arrival = zeros; had = two 1 0; mark = zeros })
    (with_course (record { sent = zeros; last = zeros; token = 0; clock = clock; visits = 6 })
    (with_plan older shares blank_ring)))

pub record FddiHappens : Type 0 where
  -- the plan meets the rules; a ring of it is neither planned nor opened any more
  pub judged : judged_plan older shares ≡ 0
  pub not_planned : (planned older).number ≡ 16
  pub not_opened : (opening older shares).number ≡ 16
  -- the first visit takes longer than TTRT: both stations are late, and so are offered nothing; the token is back after 115 ticks, TTRT + the sum of S
  pub records : records_of older shares completed
      ≡ row 0 115 15 0 15 0 130 (pos 120) 1 ∷ row 1 114 15 0 0 0 0 (pos 0) 0 ∷ row 0 0 2 98 15 98 0 (pos 0) 0 ∷ []
  pub late_here : at (ring_of older shares first).late 0 ≡ 1
  pub late_there : at (ring_of older shares first).late 1 ≡ 1
  -- u is left alone, all of S, though station 0 has sent all of its own: timely-token's lines would call the ring unsound
  pub unused : (ring_of older shares first).unused ≡ 15
  pub not_timely : sum_below 2 (unused_at (ring_of older shares first)) ≡ 0
  -- margins are exact: 1 tick before the deadline, on it, and behind it
  pub sound : is_sound (belated 300) ≡ true
  pub early : (visited (belated 234) thousand).answer.«record» ≡ row 0 234 50 0 15 0 249 (pos 1) 1
  pub just : (visited (belated 235) thousand).answer.«record» ≡ row 0 235 50 0 15 0 250 (pos 0) 1
  pub tardy : (visited (belated 300) thousand).answer.«record» ≡ row 0 300 50 0 15 0 315 (negsuc 64) 1
