-- A station switched through and switched in again: the numbers 8 and 9, what a marking takes back, and the ring then.
use Rattle.std.specs.Prelude.{ℕ, zero, suc, Bool, cond, ◌&&◌, ltb, eqb, set}
use Rattle.units.specs.Numbers.{accepted, unsound, no_such_station}
use Rattle.units.specs.Places.{at}
use Rattle.units.specs.Judging.{or_else}
use Rattle.units.specs.declared.Station.{Station}
use Rattle.rings.specs.State.{count, holds, is_marked, with_messages}
use Rattle.rings.specs.Sound.{is_sound}
use Rattle.rings.specs.declared.Ring.{Ring}
use Rattle.rings.specs.declared.Taken.{Taken}
use Rattle.rings.specs.declared.MarkAnswer.{MarkAnswer}
use Rattle.rings.specs.declared.MarkedRing.{MarkedRing}

-- of both calls: 8 for an unsound ring, then 9 for a station number that is not below N
abbrev pub mark_number : Ring → Station → ℕ
mark_number r s = or_else (is_sound r) unsound (or_else (ltb s.0 (count r)) no_such_station accepted)

-- ---- marking

-- the ring with station i switched through: nothing remains of a message there, and the mark is set; its arrival stays the last accepted one
unfoldable pub switched_through : Ring → ℕ → Ring
switched_through r i =
    with_messages
    (record {
      rest = set r.rest i 0;
      arrival = r.arrival;
      had = r.had;
      mark = set r.mark i 1;
    })
    r

-- the ring after the marking: a station that is marked already stays as it is
unfoldable pub marked_ring : Ring → ℕ → Ring
marked_ring r i = cond (is_marked r i) r (switched_through r i)

-- nothing was withdrawn
abbrev pub none_withdrawn : ℕ → MarkAnswer
none_withdrawn number = record { rest = record { 0 = 0 }; arrival = record { 0 = 0 }; withdrawn = 0; number = number }

-- station i is not marked yet, and holds a message
abbrev pub withdraws : Ring → ℕ → Bool
withdraws r i = eqb (at r.mark i) 0 && holds r i

-- what the marking takes back: what remained of that message, and its arrival
unfoldable pub withdrawal : Ring → ℕ → MarkAnswer
withdrawal r i =
    cond (withdraws r i)
    (record {
      rest = record { 0 = at r.rest i };
      arrival = record { 0 = at r.arrival i };
      withdrawn = 1;
      number = 0;
    })
    (none_withdrawn 0)

-- a refused marking gives the ring back unchanged, and nothing is withdrawn
unfoldable pub marked_with : ℕ → Ring → Station → MarkedRing
marked_with zero r s = record { ring = marked_ring r s.0; answer = withdrawal r s.0 }
marked_with (suc k) r s = record { ring = r; answer = none_withdrawn (suc k) }

-- the answer to a marking
abbrev pub marked : Ring → Station → MarkedRing
marked r s = marked_with (mark_number r s) r s

-- ---- taking the mark off

-- the ring in which station i is not marked; nothing else changes
unfoldable pub switched_in : Ring → ℕ → Ring
switched_in r i =
    with_messages
    (record {
      rest = r.rest;
      arrival = r.arrival;
      had = r.had;
      mark = set r.mark i 0;
    })
    r

-- a refused call gives the ring back unchanged
unfoldable pub unmarked_with : ℕ → Ring → Station → Taken
unmarked_with zero r s = record { ring = switched_in r s.0; number = 0 }
unmarked_with (suc k) r s = record { ring = r; number = suc k }

-- the answer to taking the mark off
abbrev pub unmarked : Ring → Station → Taken
unmarked r s = unmarked_with (mark_number r s) r s
