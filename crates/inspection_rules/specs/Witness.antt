-- An FDDI log with a late token: it is accepted by FDDI's steps, and not by those of a timely-token ring. And a log with marks.
use Rattle.std.specs.Prelude.{ℕ, ◌≡◌, List, [], ◌∷◌, ◌++◌}
use Rattle.units.specs.Numbers.{timely, fddi, earlier}
use Rattle.plans.specs.Planned.{judged_plan}
use Rattle.log_records.specs.declared.Entry.{Entry}
use Rattle.log_records.specs.declared.Entry.TheVariants.{Visit, Mark}
use Rattle.promises.specs.Witness.{pair_of, pair, shares}
use Rattle.promises.specs.FddiWitness.{older}
use Rattle.promises.specs.MarkWitness.{again}
use Rattle.log_rules.specs.Recorded.{entries_of}
use Rattle.inspection.specs.Records.{inspection_of}
use Rattle.inspection.specs.declared.Inspection.{Inspection}

-- on the ring of `FddiWitness` the first visit takes 114 ticks, and TTRT is 100: both stations are late and are offered nothing. Then station 1's timer, which lost just TTRT, has run for 32 ticks, and 68 are left.
-- The counter passes its top between the first record and the second
abbrev pub late_log : List Entry
late_log =
    Visit (record { station = 0; start = 4_294_967_200; limit = 98; synchronous = 15; asynchronous = 98 })
    ∷ Visit (record { station = 1; start = 18; limit = 0; synchronous = 0; asynchronous = 0 })
    ∷ Visit (record { station = 0; start = 19; limit = 0; synchronous = 15; asynchronous = 0 })
    ∷ Visit (record { station = 1; start = 35; limit = 68; synchronous = 0; asynchronous = 68 })
    ∷ []

pub record LateLog : Type 0 where
  -- both plans meet the rules
  pub fddi_plan : judged_plan older shares ≡ 0
  pub timely_plan : judged_plan pair shares ≡ 0
  -- all four records are accepted of the FDDI ring
  pub accepted : (inspection_of older shares late_log).rule ≡ 0
  pub counted : (inspection_of older shares late_log).records ≡ 4
  -- of the timely-token ring none is: the first breaks rule 3, the limit
  pub broken : (inspection_of pair shares late_log).rule ≡ 3
  pub none : (inspection_of pair shares late_log).records ≡ 0

-- ---- a log with marks

abbrev pub through : ℕ → ℕ → Entry
through station mark = Mark (record { station = station; mark = mark })

-- on the ring of `pair`, TTRT 100, S 15 and 0: station 1 is marked before the first visit, which may start at any moment; station 0 is marked between its two visits. Then a marked station is visited, and is offered nothing
abbrev pub marked : List Entry
marked =
    through 1 1
    ∷ Visit (record { station = 0; start = 700; limit = 83; synchronous = 15; asynchronous = 20 })
    ∷ through 0 1
    ∷ Visit (record { station = 1; start = 736; limit = 0; synchronous = 0; asynchronous = 0 })
    ∷ []

-- the next visit, of station 0, by its limit and what it sends
abbrev pub then : ℕ → ℕ → ℕ → List Entry
then limit synchronous asynchronous =
    marked
    ++ Visit (record { station = 0; start = 737; limit = limit; synchronous = synchronous; asynchronous = asynchronous }) ∷ []

-- the records so far and the rule
abbrev pub found : List Entry → Inspection
found es = inspection_of pair shares es

pub record MarkedLog : Type 0 where
  -- five records are accepted: both kinds are counted
  pub silent : ((found (then 0 0 0)).rule ≡ 0) × ((found (then 0 0 0)).records ≡ 5)
  -- the fifth is found where it has what the timers would have offered, or where its marked station sends
  pub offered : ((found (then 63 0 0)).rule ≡ 3) × ((found (then 63 0 0)).records ≡ 4)
  pub sends : ((found (then 0 15 0)).rule ≡ 4) × ((found (then 0 15 0)).records ≡ 4)
  pub sends_frames : ((found (then 0 0 1)).rule ≡ 5) × ((found (then 0 0 1)).records ≡ 4)
  -- in again, it is offered that, and may send
  pub again_in : ((found
      (marked ++ through 0 0 ∷ Visit (record { station = 0; start = 737; limit = 63; synchronous = 15; asynchronous = 63 }) ∷ [])).rule
      ≡ 0)
  -- a mark is 1 or 0, of a station below N
  pub two : (found (through 1 2 ∷ [])).rule ≡ 1
  pub beyond : (found (through 2 1 ∷ [])).rule ≡ 1
  -- the run of `promises/specs/MarkWitness.antt`, 11 visits and 3 marks, in each mode
  pub timely_run : (inspection_of (pair_of timely) shares (entries_of 0 (pair_of timely) shares again)).rule ≡ 0
  pub fddi_run : (inspection_of (pair_of fddi) shares (entries_of 0 (pair_of fddi) shares again)).rule ≡ 0
  pub earlier_run : (inspection_of (pair_of earlier) shares (entries_of 0 (pair_of earlier) shares again)).rule ≡ 0
