-- What the inner functions ask for and hand back: the definitions' numbers, and how large they can be.
use Rattle.std.specs.Prelude.{ℕ, ◌+◌, ◌-◌, ◌≤◌, ◌<◌, ◌^◌, ◌≡◌}
use Rattle.units.specs.Numbers.{most_ttrt, most_d, most_clock}
use Rattle.units.specs.Places.{at}
use Rattle.rings.specs.State.{count, ttrt, overrun, share, unused_at, Shaped}
use Rattle.rings.specs.Sound.{visits_end}
use Rattle.rings.specs.Timers.{Fddi, FddiSound, limit, rise}
use Rattle.rings.specs.Steps.{sync_sent}
use Rattle.rings.specs.Frames.{frames_time}
use Rattle.rings.specs.declared.Ask.{Ask}
use Rattle.rings.specs.declared.Ring.{Ring}
use Rattle.rings.specs.declared.Message.{Message}

-- what a visit needs of a ring so that none of its numbers overflows
pub record Safe (r : Ring) : Type 0 where
  pub few : count r ≤ 128
  pub token : r.token < count r
  pub rotation : ttrt r ≤ most_ttrt
  pub allotted : share r r.token + at r.set.w r.token + overrun r ≤ ttrt r
  pub sent : at r.sent r.token ≤ share r r.token
  pub deadline : at r.set.d r.token ≤ most_d
  pub arrival : at r.arrival r.token ≤ most_clock
  pub clock : r.clock ≤ most_clock
  pub visits : r.visits < visits_end

-- and of its timers: of a timely-token ring's
pub record SafeTimely (r : Ring) : Type 0 where
  pub trts : (i : ℕ) → i < count r → at r.trt i ≤ ttrt r
  pub old : unused_at r r.token ≤ r.unused
  pub unused : r.unused ≤ ttrt r

-- and of an FDDI ring's, which are as they are in every sound ring
pub record SafeTimers (r : Ring) : Type 0 where
  pub timely : ¬ Fddi r.set → SafeTimely r
  pub fddi : Fddi r.set → FddiSound r

-- two amounts that a visit may send: at most S and what remains, and together with w at most twice TTRT
pub record Sendable (r : Ring) (sync async : ℕ) : Type 0 where
  pub allotted : sync ≤ share r r.token
  pub rest : sync ≤ at r.rest r.token
  pub short : rise r sync async ≤ ttrt r + ttrt r

-- x is the limit
pub record Limit (r : Ring) (x : ℕ) : Type 0 where
  pub is : x ≡ limit r
  pub small : x ≤ ttrt r

-- a limit and an ask from which the frames can be counted
pub record Offer (limit : ℕ) (ask : Ask) : Type 0 where
  pub small : limit < 2 ^ 32
  pub length : 1 ≤ ask.length

-- x is what the frames take that are sent
pub record FramesSent (limit : ℕ) (ask : Ask) (x : ℕ) : Type 0 where
  pub is : x ≡ frames_time limit ask
  pub within : x ≤ limit + (ask.length - 1)

-- x is what is sent of the held message
pub record Sent (r : Ring) (async x : ℕ) : Type 0 where
  pub is : x ≡ sync_sent r async
  pub allotted : x ≤ share r r.token
  pub rest : x ≤ at r.rest r.token

-- the message can be stored
pub record Holdable (m : Message) : Type 0 where
  pub inside : m.station.0 < 128
  pub small : m.length.0 < 2 ^ 32

-- n is how many places each array has that a ring changes
pub record Placed (r : Ring) (n : ℕ) : Type 0 where
  pub count : n ≡ 128
  pub all : Shaped r
