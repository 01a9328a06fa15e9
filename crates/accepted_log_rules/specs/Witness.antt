-- Accepted logs in which all that is shown is reached, so that no smaller numbers could be promised; the counter passes its top in them.
use Rattle.std.specs.Prelude.{ℕ, ◌+◌, ◌≡◌, List, [], ◌∷◌, ◌++◌}
use Rattle.units.specs.Numbers.{timely, fddi, earlier}
use Rattle.units.specs.Places.{at}
use Rattle.sets.specs.declared.Set.{Set}
use Rattle.plans.specs.Rules.{spare_time}
use Rattle.plans.specs.Planned.{judged_plan}
use Rattle.plans.specs.declared.Alloc.{Alloc}
use Rattle.log_records.specs.declared.VisitEntry.{VisitEntry}
use Rattle.log_records.specs.declared.Entry.{Entry}
use Rattle.log_records.specs.declared.Entry.TheVariants.{Visit}
use Rattle.rings.specs.Timers.{silent_trt}
use Rattle.promises.specs.History.{overrun_of}
use Rattle.promises.specs.Witness.{pair_of, shares}
use Rattle.promises.specs.FrameWitness.{framed, seventeen}
use Rattle.inspection.specs.Records.{inspection_of}
use Rattle.accepted_log_rules.specs.Shows.{moment, async_in, sync_began, sync_ended, longest_gap}

-- a visit by its station, its start, its limit and what it sent
abbrev pub visit : ℕ → ℕ → ℕ → ℕ → ℕ → VisitEntry
visit station start limit synchronous asynchronous =
    record { station = station; start = start; limit = limit; synchronous = synchronous; asynchronous = asynchronous }

-- station 0 sends its S and all that it is offered, or more by what a frame runs on; station 1 is then offered nothing
abbrev pub rotation : VisitEntry → ℕ → List Entry
rotation u start = Visit u ∷ Visit (visit 1 start 0 0 0) ∷ []

-- the log of that rotation and station 0's next visit
abbrev pub then_again : VisitEntry → ℕ → VisitEntry → List Entry
then_again u start v = rotation u start ++ Visit v ∷ []

-- the log of a plan is accepted, and the token is back at station 0 after just the longest wait, and at station 1, for the first time, too
pub record Reaches (t : Set) (a : Alloc) (u : VisitEntry) (start : ℕ) (v : VisitEntry) : Type 0 where
  pub judged : judged_plan t a ≡ 0
  pub accepted : (inspection_of t a (then_again u start v)).rule ≡ 0
  pub apart : moment t (rotation u start) ≡ longest_gap t a
  pub first : silent_trt t 1 + moment t (Visit u ∷ []) ≡ longest_gap t a

-- on a timely-token ring its two visits send just A* + (F − 1), and station 0's next synchronous part begins just TTRT − S behind the end of its first
pub record ReachesAll (t : Set) (a : Alloc) (u : VisitEntry) (start : ℕ) (v : VisitEntry) : Type 0 where
  pub reaches : Reaches t a u start v
  pub window : async_in (rotation u start) ≡ spare_time t (at a.s) + overrun_of t
  pub synchronous : sync_began t (rotation u start) v + at a.s 0 ≡ sync_ended t [] u + t.head.ttrt

pub record Tight : Type 0 where
  -- the set of `promises/specs/Witness.antt`, TTRT 100, w 1 each, S 15 and 0, A* 83: the token is back after 100 ticks
  pub timely_log : ReachesAll (pair_of timely) shares (visit 0 4_294_967_290 83 15 83) 93 (visit 0 94 0 15 0)
  pub earlier_log : ReachesAll (pair_of earlier) shares (visit 0 4_294_967_290 83 15 83) 93 (visit 0 94 83 15 83)
  -- with frames of 16 ticks, S 17 and 0, A* 65: the last frame runs on by 15
  pub framed_log : ReachesAll (framed timely) seventeen (visit 0 4_294_967_290 65 17 80) 93 (visit 0 94 0 17 0)
  -- as an FDDI ring, with these frames: after 132 ticks, TTRT + the sum of S + 15
  pub fddi_log : Reaches (framed fddi) seventeen (visit 0 4_294_967_290 97 17 112) 125 (visit 0 126 0 17 0)
