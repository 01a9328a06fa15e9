-- What an accepted log shows, in its own records: nothing here speaks of a ring, of calls or of messages. The counter and the clock's top play no part, and nothing is said of what comes behind the last record.
use Rattle.std.specs.Prelude.{ℕ, ◌+◌, ◌*◌, ◌≤◌, ◌<◌, ◌≡◌, cond, List, [], ◌∷◌, ◌++◌, eqb}
use Rattle.units.specs.Places.{at}
use Rattle.sets.specs.declared.Set.{Set}
use Rattle.plans.specs.Rules.{is_fddi, spare_time}
use Rattle.plans.specs.declared.Alloc.{Alloc}
use Rattle.log_records.specs.declared.VisitEntry.{VisitEntry}
use Rattle.log_records.specs.declared.Entry.{Entry}
use Rattle.log_records.specs.declared.Entry.TheVariants.{Visit, Mark}
use Rattle.rings.specs.Timers.{Fddi, lead, silent_trt}
use Rattle.promises.specs.History.{overrun_of}
use Rattle.promises.specs.Valid.{all_shares}
use Rattle.inspection.specs.Counter.{ticks_between}
use Rattle.inspection_rules.specs.Broken.{took, mark_after}

-- ---- what is read off some records

-- the moment behind these records, counted from the opening: the sum of what their visits took; marks take nothing
unfoldable pub moment : Set → List Entry → ℕ
moment t [] = 0
moment t (Visit v ∷ es) = took t v + moment t es
moment t (Mark m ∷ es) = moment t es

-- how many of them are visits
unfoldable pub visits_in : List Entry → ℕ
visits_in [] = 0
visits_in (Visit v ∷ es) = visits_in es + 1
visits_in (Mark m ∷ es) = visits_in es

-- how many are visits of station i
unfoldable pub visits_of : ℕ → List Entry → ℕ
visits_of i [] = 0
visits_of i (Visit v ∷ es) = cond (eqb v.station i) 1 0 + visits_of i es
visits_of i (Mark m ∷ es) = visits_of i es

-- what they sent asynchronously
unfoldable pub async_in : List Entry → ℕ
async_in [] = 0
async_in (Visit v ∷ es) = v.asynchronous + async_in es
async_in (Mark m ∷ es) = async_in es

-- when the synchronous part of a visit behind these records began: at the visit's moment; in the 2002 edition after its asynchronous part
abbrev pub sync_began : Set → List Entry → VisitEntry → ℕ
sync_began t before v = moment t before + lead t v.asynchronous

-- and when it ended
abbrev pub sync_ended : Set → List Entry → VisitEntry → ℕ
sync_ended t before v = sync_began t before v + v.synchronous

-- the longest that a station waits for the token: TTRT; on an FDDI ring TTRT + the sum of S + (F − 1)
unfoldable pub longest_gap : Set → Alloc → ℕ
longest_gap t a = cond (is_fddi t) (t.head.ttrt + all_shares t a + overrun_of t) t.head.ttrt

-- ---- places in a log

-- visit v stands behind these records
abbrev pub Behind : List Entry → List Entry → VisitEntry → Type 0
Behind es before v = (rest : List Entry) × (es ≡ before ++ Visit v ∷ rest)

-- visit v of a station stands behind visit u of the same one, with these records between them
pub record Later (es before : List Entry) (u : VisitEntry) (between : List Entry) (v : VisitEntry) : Type 0 where
  pub place : Behind es (before ++ Visit u ∷ between) v
  pub station : v.station ≡ u.station

-- it is the station's next one
pub record Next (es before : List Entry) (u : VisitEntry) (between : List Entry) (v : VisitEntry) : Type 0 where
  pub later : Later es before u between v
  pub none_between : visits_of u.station between ≡ 0

-- ---- what is shown

pub record Shows (t : Set) (a : Alloc) (es : List Entry) : Type 0 where
  -- two successive visits of a station are at most the longest wait apart
  pub apart : (before between : List Entry) (u v : VisitEntry)
      → Next es before u between v → moment t (before ++ Visit u ∷ between) ≤ moment t before + longest_gap t a
  -- and the wrapping difference of their starts is just that distance
  pub starts : (before between : List Entry) (u v : VisitEntry)
      → Next es before u between v
      → moment t (before ++ Visit u ∷ between) ≡ moment t before + ticks_between u.start v.start
  -- a station's first visit is at most the longest wait after the silent rotation passed it
  pub first : (before : List Entry) (v : VisitEntry)
      → Behind es before v → visits_of v.station before ≡ 0
      → silent_trt t v.station + moment t before ≤ longest_gap t a
  -- when the log ends, no station has waited longer for its next visit, nor for its first
  pub since : (before behind : List Entry) (u : VisitEntry)
      → es ≡ before ++ Visit u ∷ behind → visits_of u.station behind ≡ 0
      → moment t es ≤ moment t before + longest_gap t a
  pub since_first : (i : ℕ) → i < t.n → visits_of i es ≡ 0 → silent_trt t i + moment t es ≤ longest_gap t a
  -- each visit is of a station of the plan, and sends at most its S synchronously
  pub known : (before : List Entry) (v : VisitEntry) → Behind es before v → v.station < t.n
  pub share : (before : List Entry) (v : VisitEntry) → Behind es before v → v.synchronous ≤ at a.s v.station
  -- a station that is switched through is offered nothing and sends nothing
  pub through : (before : List Entry) (v : VisitEntry) → Behind es before v → 0 < mark_after v.station before
      → (v.limit ≡ 0) × ((v.synchronous ≡ 0) × (v.asynchronous ≡ 0))
  -- timely-token, both editions: any N successive visits send at most A* + (F − 1) asynchronously
  pub window : ¬ Fddi t
      → (before during behind : List Entry) → es ≡ before ++ during ++ behind → visits_in during ≤ t.n
      → async_in during ≤ spare_time t (at a.s) + overrun_of t
  -- timely-token, both editions: from the end of a station's synchronous part its j-th next one begins by j·TTRT − S; between stand j − 1 of its visits
  pub synchronous : ¬ Fddi t → (before between : List Entry) (u v : VisitEntry) → Later es before u between v
      → sync_began t (before ++ Visit u ∷ between) v + at a.s u.station
      ≤ sync_ended t before u + (visits_of u.station between + 1) * t.head.ttrt
