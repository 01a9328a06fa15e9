-- How far the records of a log have come, in rotations: each N visits from the first. Numbers are of 64 bits and run past their top to 0.
use Rattle.std.specs.Prelude.{ℕ, ◌+◌, ◌%◌, ◌^◌, cond, List, [], ◌∷◌, nat_le}
use Rattle.units.specs.Places.{at}
use Rattle.log_records.specs.declared.VisitEntry.{VisitEntry}
use Rattle.log_records.specs.declared.Entry.{Entry}
use Rattle.log_records.specs.declared.Entry.TheVariants.{Visit, Mark}
use Rattle.tallies.specs.declared.Lap.{Lap}

-- a number of 64 bits
abbrev pub wrapped : ℕ → ℕ
wrapped x = x % 2 ^ 64

-- what a visit took: its synchronous and its asynchronous amount, and its station's w; a station that the plan has not, has no w
abbrev pub took_by : List ℕ → VisitEntry → ℕ
took_by w v = v.synchronous + v.asynchronous + at w v.station

-- before the first record
abbrev pub no_lap : Lap
no_lap = record { records = 0; visits = 0; rotation = 0; turn = 0; elapsed = 0 }

-- a visit more: the last one of a rotation ends it
unfoldable pub visit_lapped : ℕ → List ℕ → Lap → VisitEntry → Lap
visit_lapped n w l v =
    cond (nat_le n (l.turn + 1))
    (record {
      records = wrapped (l.records + 1);
      visits = wrapped (l.visits + 1);
      rotation = wrapped (l.rotation + 1);
      turn = 0;
      elapsed = 0;
    })
    (record {
      records = wrapped (l.records + 1);
      visits = wrapped (l.visits + 1);
      rotation = l.rotation;
      turn = l.turn + 1;
      elapsed = wrapped (l.elapsed + took_by w v);
    })

-- a mark more takes no time and is no visit
abbrev pub mark_lapped : Lap → Lap
mark_lapped l =
    record {
      records = wrapped (l.records + 1);
      visits = l.visits;
      rotation = l.rotation;
      turn = l.turn;
      elapsed = l.elapsed;
    }

abbrev pub lapped : ℕ → List ℕ → Lap → Entry → Lap
lapped n w l (Visit v) = visit_lapped n w l v
lapped n w l (Mark m) = mark_lapped l

-- one record after another
unfoldable pub lapped_all : ℕ → List ℕ → Lap → List Entry → Lap
lapped_all n w l [] = l
lapped_all n w l (e ∷ es) = lapped_all n w (lapped n w l e) es
