-- The timers of a ring, apart from all else: the limit that they give, what becomes of them at a visit, what they are at opening, and when they are sound.
-- Each is asked for by the ring's mode, here and nowhere else.
--     timely-token: TRT of each station, and u; the late counts are neither looked at nor changed. Its two editions differ in when TRT goes to 0
--     FDDI: the timer and the late count of each station; u is neither looked at nor changed
use Rattle.std.specs.Prelude.{ℕ, ◌+◌, ◌-◌, ◌≤◌, ◌<◌, ◌≡◌, Bool, cond, ◌&&◌, leb, ltb, eqb, set}
use Rattle.units.specs.Numbers.{fddi, earlier}
use Rattle.units.specs.Places.{at, sum_below, sum_from, all_below, fill, raise}
use Rattle.sets.specs.Judged.{zeros}
use Rattle.sets.specs.declared.Set.{Set}
use Rattle.plans.specs.Rules.{is_fddi}
use Rattle.plans.specs.declared.Alloc.{Alloc}
use Rattle.fddi_timer_rules.specs.Timers.{Timer, ran, later, started_at, visited, offered}
use Rattle.rings.specs.State.{count, ttrt, overrun, share, unused_at, is_marked, timers_of}
use Rattle.rings.specs.declared.Ring.{Ring}
use Rattle.rings.specs.declared.Timers.{Timers}

-- the set goes by FDDI's rules; `is_fddi` tests it
abbrev pub Fddi : Set → Type 0
Fddi t = t.head.mode ≡ fddi

-- the set goes by the rules of the 2002 edition; `is_earlier` tests it
abbrev pub Earlier : Set → Type 0
Earlier t = t.head.mode ≡ earlier

abbrev pub is_earlier : Set → Bool
is_earlier t = eqb t.head.mode earlier

-- of the asynchronous time of a visit, what comes before its synchronous part: all of it in the 2002 edition, else nothing
unfoldable pub lead : Set → ℕ → ℕ
lead t async = cond (is_earlier t) async 0

-- ---- the limit

-- 1, timely-token: the limit A is the larger of TTRT − (F − 1) − u − TRT and 0
abbrev pub timely_limit : Ring → ℕ
timely_limit r = ttrt r - overrun r - r.unused - at r.trt r.token

-- the timer and the late count of station i
abbrev pub timer_of : Timers → ℕ → Timer
timer_of t i = record { count = at t.late i; timer = at t.trt i }

-- how long station i's timer has run, with TTRT for each time that it is late: TTRT·count + timer
abbrev pub has_run : Set → Timers → ℕ → ℕ
has_run t all i = ran t.head.ttrt (timer_of all i)

-- FDDI: nothing where the late count is above 0, else TTRT less the timer
abbrev pub fddi_limit : Ring → ℕ
fddi_limit r = offered (ttrt r) (timer_of (timers_of r) r.token)

-- what the timers offer, by the mode
unfoldable pub timers_offer : Ring → ℕ
timers_offer r = cond (is_fddi r.set) (fddi_limit r) (timely_limit r)

-- 1: the limit is what the timers offer, and 0 for a station that is marked
unfoldable pub limit : Ring → ℕ
limit r = cond (is_marked r r.token) 0 (timers_offer r)

-- ---- at a visit

-- 2: u falls by S − s, the station's old unused time
abbrev pub unused_fallen : Ring → ℕ
unused_fallen r = r.unused - unused_at r r.token

-- 3: s is what it sent, and u rises by S − s
abbrev pub unused_after : Ring → ℕ → ℕ
unused_after r sync = unused_fallen r + (share r r.token - sync)

-- 5: what the clock and every timer rise by: sent synchronous + sent asynchronous + w
abbrev pub rise : Ring → ℕ → ℕ → ℕ
rise r sync async = sync + async + at r.set.w r.token

-- the part of that from the start of the synchronous part on: all of it, or in the 2002 edition sent synchronous + w
abbrev pub rise_since : Ring → ℕ → ℕ → ℕ
rise_since r sync async = rise r sync async - lead r.set async

-- timely-token: every TRT rises; this station's became 0 when its synchronous part started
unfoldable pub timely_after : Ring → ℕ → ℕ → Timers
timely_after r sync async =
    record {
      trt = set (raise (count r) (rise r sync async) r.trt) r.token (rise_since r sync async);
      late = r.late;
      unused = unused_after r sync;
    }

-- FDDI: the token comes to station p; with the count above 0 it falls by 1 and the timer runs on, else the timer goes to 0
unfoldable pub token_came : ℕ → Timers → Timers
token_came p t =
    record {
      trt = set t.trt p (visited (timer_of t p)).timer;
      late = set t.late p (visited (timer_of t p)).count;
      unused = t.unused;
    }

-- FDDI: x ticks pass; each of the first n timers runs up and, on reaching TTRT, goes to 0 and raises its count
unfoldable pub time_passed : ℕ → ℕ → ℕ → Timers → Timers
time_passed n ttrt x t =
    record {
      trt = fill n (λ i. (later ttrt x (timer_of t i)).timer) t.trt;
      late = fill n (λ i. (later ttrt x (timer_of t i)).count) t.late;
      unused = t.unused;
    }

-- FDDI: the token comes, and then the ticks of the visit pass
abbrev pub fddi_after : Ring → ℕ → ℕ → Timers
fddi_after r sync async = time_passed (count r) (ttrt r) (rise r sync async) (token_came r.token (timers_of r))

-- the timers after a visit that sent these two amounts
unfoldable pub timers_after : Ring → ℕ → ℕ → Timers
timers_after r sync async = cond (is_fddi r.set) (fddi_after r sync async) (timely_after r sync async)

-- ---- at opening

-- TRT of station i when the silent first rotation has ended: the sum of w from that station to station N − 1
abbrev pub silent_trt : Set → ℕ → ℕ
silent_trt t i = sum_from i t.n (at t.w)

-- u when the silent first rotation has ended: the sum of S
abbrev pub silent_unused : Set → Alloc → ℕ
silent_unused t a = sum_below t.n (at a.s)

-- timely-token: TRT as it is, counts 0
unfoldable pub silent_timely : Set → Alloc → Timers
silent_timely t a = record { trt = fill t.n (silent_trt t) zeros; late = zeros; unused = silent_unused t a }

-- FDDI: the timers start so, with counts 0; one that starts at TTRT becomes 0 with count 1
unfoldable pub silent_fddi : Set → Alloc → Timers
silent_fddi t a =
    record {
      trt = fill t.n (λ i. (started_at t.head.ttrt (silent_trt t i)).timer) zeros;
      late = fill t.n (λ i. (started_at t.head.ttrt (silent_trt t i)).count) zeros;
      unused = silent_unused t a;
    }

-- the timers when the silent first rotation has ended
unfoldable pub silent_timers : Set → Alloc → Timers
silent_timers t a = cond (is_fddi t) (silent_fddi t a) (silent_timely t a)

-- ---- sound

-- the highest late count of a sound ring
abbrev pub most_late : ℕ
most_late = 3

-- timely-token
pub record TimelySound (r : Ring) : Type 0 where
  -- no TRT exceeds TTRT
  pub trts : (i : ℕ) → i < count r → at r.trt i ≤ ttrt r
  -- u is the sum of S − s
  pub unused : r.unused ≡ sum_below (count r) (unused_at r)

-- FDDI
pub record FddiSound (r : Ring) : Type 0 where
  -- the timers are below TTRT
  pub timers : (i : ℕ) → i < count r → at r.trt i < ttrt r
  -- the late counts are at most 3
  pub lates : (i : ℕ) → i < count r → at r.late i ≤ most_late

pub record TimersSound (r : Ring) : Type 0 where
  pub timely : ¬ Fddi r.set → TimelySound r
  pub fddi : Fddi r.set → FddiSound r

-- the same as tests

abbrev pub trt_sound_at : Ring → ℕ → Bool
trt_sound_at r i = leb (at r.trt i) (ttrt r)

abbrev pub unused_sound : Ring → Bool
unused_sound r = eqb r.unused (sum_below (count r) (unused_at r))

abbrev pub timer_sound_at : Ring → ℕ → Bool
timer_sound_at r i = ltb (at r.trt i) (ttrt r)

abbrev pub late_sound_at : Ring → ℕ → Bool
late_sound_at r i = leb (at r.late i) most_late

-- and joined, for each mode and by the mode
unfoldable pub timely_sound : Ring → Bool
timely_sound r = all_below (count r) (trt_sound_at r) && unused_sound r

unfoldable pub fddi_sound : Ring → Bool
fddi_sound r = all_below (count r) (timer_sound_at r) && all_below (count r) (late_sound_at r)

unfoldable pub timers_sound : Ring → Bool
timers_sound r = cond (is_fddi r.set) (fddi_sound r) (timely_sound r)
