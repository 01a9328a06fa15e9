-- 01's list of unsound states, line by line: first as sentences of a sound one, then as tests that can be run. `proofs/RingLaws.antt` proves that the tests decide the sentences.
use Rattle.std.specs.Prelude.{ℕ, ◌^◌, ◌≤◌, ◌<◌, ◌≡◌, Bool, List, [], ◌∷◌, ltb, leb, eqb}
use Rattle.units.specs.Numbers.{most_clock}
use Rattle.units.specs.Places.{at, all_below}
use Rattle.units.specs.Judging.{all_hold}
use Rattle.plans.specs.Planned.{judged_plan}
use Rattle.rings.specs.State.{count, share}
use Rattle.rings.specs.Timers.{TimersSound, timers_sound}
use Rattle.rings.specs.declared.Ring.{Ring}

-- the highest clock of a sound ring: the last start that is allowed, and twice the largest TTRT
abbrev pub most_ring_clock : ℕ
most_ring_clock = 1_000_002_000_000

-- the number of visits that no sound ring has reached
abbrev pub visits_end : ℕ
visits_end = 2 ^ 62

-- ---- the sentences

pub record Sound (r : Ring) : Type 0 where
  -- the set and the allocation are judged 0: opening would not refuse them with 2, 4, 5 or 7; 16 makes no state unsound
  pub plan : judged_plan r.set r.alloc ≡ 0
  -- the token's station is below N
  pub token : r.token < count r
  -- the timers are sound, as the mode asks: no TRT exceeds TTRT, and u is the sum of S − s; or timers below TTRT and late counts to 3
  pub timers : TimersSound r
  -- no s exceeds S
  pub sents : (i : ℕ) → i < count r → at r.sent i ≤ share r i
  -- no held remainder is above C; a remainder of 0 says that none is held
  pub rests : (i : ℕ) → i < count r → at r.rest i ≤ at r.set.c i
  -- no stored arrival is out of range
  pub arrivals : (i : ℕ) → i < count r → at r.arrival i ≤ most_clock
  -- the clock does not exceed 1,000,002,000,000
  pub clock : r.clock ≤ most_ring_clock
  -- the visit count has not reached 2^62
  pub visits : r.visits < visits_end

-- ---- the tests

abbrev pub plan_sound : Ring → Bool
plan_sound r = eqb (judged_plan r.set r.alloc) 0

abbrev pub token_sound : Ring → Bool
token_sound r = ltb r.token (count r)

abbrev pub sent_sound_at : Ring → ℕ → Bool
sent_sound_at r i = leb (at r.sent i) (share r i)

abbrev pub rest_sound_at : Ring → ℕ → Bool
rest_sound_at r i = leb (at r.rest i) (at r.set.c i)

abbrev pub arrival_sound_at : Ring → ℕ → Bool
arrival_sound_at r i = leb (at r.arrival i) most_clock

abbrev pub clock_sound : Ring → Bool
clock_sound r = leb r.clock most_ring_clock

abbrev pub visits_sound : Ring → Bool
visits_sound r = ltb r.visits visits_end

-- the tests of the ring's own numbers, one for each sentence
abbrev pub number_tests : Ring → List Bool
number_tests r =
    token_sound r ∷
    timers_sound r ∷
    all_below (count r) (sent_sound_at r) ∷
    all_below (count r) (rest_sound_at r) ∷
    all_below (count r) (arrival_sound_at r) ∷
    clock_sound r ∷
    visits_sound r ∷
    []

-- the ring is sound: the test of its set and allocation holds, and every other
unfoldable pub is_sound : Ring → Bool
is_sound r = all_hold (plan_sound r ∷ number_tests r)
