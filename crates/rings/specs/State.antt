-- What the fields of a ring say of a station (a place from N on says nothing), and a ring made of its parts.
use Rattle.std.specs.Prelude.{ℕ, ◌+◌, ◌-◌, ◌<◌, Bool, cond, ltb, leb, eqb, ◌≡◌, List, length}
use Rattle.units.specs.Places.{at}
use Rattle.sets.specs.Judged.{zeros, blank_set}
use Rattle.sets.specs.declared.Set.{Set}
use Rattle.plans.specs.Planned.{blank_alloc}
use Rattle.plans.specs.declared.Alloc.{Alloc}
use Rattle.rings.specs.declared.Ring.{Ring}
use Rattle.rings.specs.declared.Timers.{Timers}

-- N, the number of stations
abbrev pub count : Ring → ℕ
count r = r.set.n

-- TTRT
abbrev pub ttrt : Ring → ℕ
ttrt r = r.set.head.ttrt

-- F − 1, the ticks by which the last frame may run on past the limit
abbrev pub overrun : Ring → ℕ
overrun r = r.set.head.frame - 1

-- of n stations the one after i, after n − 1 station 0
unfoldable pub following : ℕ → ℕ → ℕ
following n i = cond (ltb (i + 1) n) (i + 1) 0

-- S of station i
abbrev pub share : Ring → ℕ → ℕ
share r i = at r.alloc.s i

-- the unused time of station i: S − s
abbrev pub unused_at : Ring → ℕ → ℕ
unused_at r i = share r i - at r.sent i

-- station i holds a message: something of it remains
abbrev pub holds : Ring → ℕ → Bool
holds r i = ltb 0 (at r.rest i)

-- station i has not yet been visited: the visits go round from station 0
abbrev pub before_first_visit : Ring → ℕ → Bool
before_first_visit r i = leb r.visits i

-- no message was ever accepted at station i
abbrev pub before_first_message : Ring → ℕ → Bool
before_first_message r i = eqb (at r.had i) 0

-- station i is switched through: its mark is not 0
abbrev pub Marked : Ring → ℕ → Type 0
Marked r i = 0 < at r.mark i

abbrev pub Unmarked : Ring → ℕ → Type 0
Unmarked r i = at r.mark i ≡ 0

-- the same as a test
abbrev pub is_marked : Ring → ℕ → Bool
is_marked r i = ltb 0 (at r.mark i)

-- the arrays that a ring changes have 128 places, as those of every ring of the code have
pub record Shaped (r : Ring) : Type 0 where
  pub trt : length r.trt ≡ 128
  pub late : length r.late ≡ 128
  pub sent : length r.sent ≡ 128
  pub rest : length r.rest ≡ 128
  pub arrival : length r.arrival ≡ 128
  pub had : length r.had ≡ 128
  pub mark : length r.mark ≡ 128
  pub last : length r.last ≡ 128

-- ---- a ring by its parts. `made` lists its fields, and nothing else does: a ring that differs from another one is that ring with a part changed

-- the timers
abbrev pub timers_of : Ring → Timers
timers_of r = record { trt = r.trt; late = r.late; unused = r.unused }

-- the messages: what remains of the held one, the last accepted arrival, whether one was ever accepted, and the mark of a station that takes none
pub record Messages : Type 0 where
  pub rest : List ℕ
  pub arrival : List ℕ
  pub had : List ℕ
  pub mark : List ℕ

abbrev pub messages_of : Ring → Messages
messages_of r = record { rest = r.rest; arrival = r.arrival; had = r.had; mark = r.mark }

-- how far the ring has come: s and the last start of each station, the token, the clock and the visit count
pub record Course : Type 0 where
  pub sent : List ℕ
  pub last : List ℕ
  pub token : ℕ
  pub clock : ℕ
  pub visits : ℕ

abbrev pub course_of : Ring → Course
course_of r = record { sent = r.sent; last = r.last; token = r.token; clock = r.clock; visits = r.visits }

-- the ring of these parts
abbrev pub made : Set → Alloc → Timers → Messages → Course → Ring
made t a timers messages course =
    record {
      set = t;
      alloc = a;
      trt = timers.trt;
      late = timers.late;
      sent = course.sent;
      rest = messages.rest;
      token = course.token;
      arrival = messages.arrival;
      had = messages.had;
      mark = messages.mark;
      last = course.last;
      clock = course.clock;
      visits = course.visits;
      unused = timers.unused;
    }

-- the ring with another plan
abbrev pub with_plan : Set → Alloc → Ring → Ring
with_plan t a r = made t a (timers_of r) (messages_of r) (course_of r)

-- with other timers
abbrev pub with_timers : Timers → Ring → Ring
with_timers timers r = made r.set r.alloc timers (messages_of r) (course_of r)

-- with other messages
abbrev pub with_messages : Messages → Ring → Ring
with_messages messages r = made r.set r.alloc (timers_of r) messages (course_of r)

-- on another course
abbrev pub with_course : Course → Ring → Ring
with_course course r = made r.set r.alloc (timers_of r) (messages_of r) course

-- with other remainders of the held messages
abbrev pub with_rest : List ℕ → Ring → Ring
with_rest rest r = with_messages (record { rest = rest; arrival = r.arrival; had = r.had; mark = r.mark }) r

-- no message is held, none was ever accepted, and no station is marked
abbrev pub no_messages : Messages
no_messages = record { rest = zeros; arrival = zeros; had = zeros; mark = zeros }

-- the blank ring: every number in it 0
abbrev pub blank_ring : Ring
blank_ring =
    made
    blank_set
    blank_alloc
    (record { trt = zeros; late = zeros; unused = 0 })
    no_messages
    (record { sent = zeros; last = zeros; token = 0; clock = 0; visits = 0 })
