-- Handing in a message: what each of the numbers 9 to 12 and 15 asks, the ring that holds the message, and the answer.
use Rattle.std.specs.Prelude.{ℕ, zero, suc, ◌+◌, ◌≤◌, ◌<◌, ◌≡◌, ◌≢◌, Bool, ◌&&◌, ◌||◌, ltb, leb, eqb, set}
use Rattle.units.specs.Numbers.{accepted, unsound, no_such_station, bad_length, still_held, bad_arrival, not_arrived, most_clock}
use Rattle.units.specs.Places.{at}
use Rattle.units.specs.Judging.{or_else, between}
use Rattle.rings.specs.State.{count, before_first_visit, before_first_message, Unmarked, with_messages}
use Rattle.rings.specs.Sound.{is_sound}
use Rattle.rings.specs.declared.Ring.{Ring}
use Rattle.rings.specs.declared.Message.{Message}
use Rattle.rings.specs.declared.Taken.{Taken}

-- ---- what each number asks, as sentences

-- 9: the station number is below N
abbrev pub Known : Ring → Message → Type 0
Known r m = m.station.0 < count r

-- 10: the length is neither 0 nor above C
abbrev pub LengthAllowed : Ring → Message → Type 0
LengthAllowed r m = (1 ≤ m.length.0) × (m.length.0 ≤ at r.set.c m.station.0)

-- 11: that station holds no unsent message and is not marked
abbrev pub Free : Ring → Message → Type 0
Free r m = (at r.rest m.station.0 ≡ 0) × Unmarked r m.station.0

-- 15: it has arrived: its arrival is not later than the ring's clock
abbrev pub Arrived : Ring → Message → Type 0
Arrived r m = m.arrival.0 ≤ r.clock

-- 12: when an arrival is allowed
pub record ArrivalAllowed (r : Ring) (m : Message) : Type 0 where
  -- it is in range
  pub range : m.arrival.0 ≤ most_clock
  -- it is later than the start of that station's last visit, in the 2002 edition of that visit's synchronous part; before its first visit any arrival from 0 passes
  pub later : m.station.0 < r.visits → at r.last m.station.0 < m.arrival.0
  -- it is at least P after that station's last accepted arrival, where there is one
  pub gap : at r.had m.station.0 ≢ 0
      → at r.arrival m.station.0 + at r.set.p m.station.0 ≤ m.arrival.0

-- what a sound ring asks of a message that it takes
pub record Takes (r : Ring) (m : Message) : Type 0 where
  pub known : Known r m
  pub length : LengthAllowed r m
  pub free : Free r m
  pub arrived : Arrived r m
  pub arrival : ArrivalAllowed r m

-- ---- the same as tests, one for each number

-- 9: the station number is below N
abbrev pub station_known : Ring → Message → Bool
station_known r m = ltb m.station.0 (count r)

-- 10: the message's length is neither 0 nor above C
abbrev pub length_allowed : Ring → Message → Bool
length_allowed r m = between 1 (at r.set.c m.station.0) m.length.0

-- 11: that station holds no unsent message and is not marked
abbrev pub station_free : Ring → Message → Bool
station_free r m = eqb (at r.rest m.station.0) 0 && eqb (at r.mark m.station.0) 0

-- 15: it has arrived: its arrival is not later than the ring's clock
abbrev pub has_arrived : Ring → Message → Bool
has_arrived r m = leb m.arrival.0 r.clock

-- 12: the arrival is in range
abbrev pub arrival_in_range : Message → Bool
arrival_in_range m = leb m.arrival.0 most_clock

-- 12: it is later than that start; before its first visit any arrival from 0 passes
abbrev pub later_than_last_start : Ring → Message → Bool
later_than_last_start r m = before_first_visit r m.station.0 || ltb (at r.last m.station.0) m.arrival.0

-- 12: it is at least P after that station's last accepted arrival; the first message passes
abbrev pub gap_kept : Ring → Message → Bool
gap_kept r m =
    before_first_message r m.station.0
    || leb (at r.arrival m.station.0 + at r.set.p m.station.0) m.arrival.0

-- 12: the arrival time is allowed
unfoldable pub arrival_allowed : Ring → Message → Bool
arrival_allowed r m = arrival_in_range m && later_than_last_start r m && gap_kept r m

-- ---- the ring that holds the message: its whole length remains, its arrival is the station's last accepted one; nothing else changes
unfoldable pub holding : Ring → Message → Ring
holding r m =
    let i = m.station.0 in
    with_messages
    (record {
      rest = set r.rest i m.length.0;
      arrival = set r.arrival i m.arrival.0;
      had = set r.had i 1;
      mark = r.mark;
    })
    r

-- ---- the answer

-- 9 to 12 and 15 of a sound ring: 15 comes before 12, else the lowest that applies
abbrev pub message_number : Ring → Message → ℕ
message_number r m =
    or_else (station_known r m) no_such_station
    (or_else (length_allowed r m) bad_length
    (or_else (station_free r m) still_held
    (or_else (has_arrived r m) not_arrived
    (or_else (arrival_allowed r m) bad_arrival accepted))))

-- 8 for an unsound ring first
abbrev pub hand_in_number : Ring → Message → ℕ
hand_in_number r m = or_else (is_sound r) unsound (message_number r m)

-- a refused handing in gives the ring back unchanged
unfoldable pub taken_with : ℕ → Ring → Message → Taken
taken_with zero r m = record { ring = holding r m; number = 0 }
taken_with (suc k) r m = record { ring = r; number = suc k }

-- the answer to a handing in
abbrev pub handed_in : Ring → Message → Taken
handed_in r m = taken_with (hand_in_number r m) r m
