-- The parts of the plan: the header's numbers, τ, the sum of S, A*, a row for each station, and what its mode promises.
use Rattle.std.specs.Prelude.{ℕ, cond, ◌&&◌, Option, None, Some, [], ◌∷◌, ◌==◌, nat_le}
use Rattle.units.specs.Numbers.{timely, fddi, earlier}
use Rattle.units.specs.Places.{at}
use Rattle.sets.specs.declared.Set.{Set}
use Rattle.plans.specs.declared.Alloc.{Alloc}
use Rattle.text.specs.Phrases.{phrase, bare, one, two, either}
use Rattle.text.specs.declared.phrases.Phrase.{Phrase}
use Rattle.command_page.specs.declared.Form.{Form}
use Rattle.command_page.specs.declared.Form.TheVariants as form
use Rattle.command_page.specs.declared.Sums.{Sums}
use Rattle.command_page.specs.declared.Account.{Account}

-- the mode in words
unfoldable pub mode_part : ℕ → Phrase Form
mode_part mode =
    cond (mode == fddi) (bare form.FddiMode) (cond (mode == earlier) (bare form.EarlierMode) (bare form.TimelyMode))

-- what is lost and what is left: τ, the sum of S, A*
unfoldable pub sum_part : Sums → ℕ → Phrase Form
sum_part s k =
    cond (k == 5) (one form.Tau s.tau)
    (cond (k == 6) (one form.Sum s.sum) (cond (k == 7) (one form.Spare s.spare) (bare form.StationsBegin)))

-- part k of the plan as a whole, from 0 to 8
unfoldable pub plan_part : Account → ℕ → Phrase Form
plan_part x k =
    cond (k == 0) (bare form.PlanBegin)
    (cond (k == 1) (one form.Ttrt x.set.head.ttrt)
    (cond (k == 2) (mode_part x.set.head.mode)
    (cond (k == 3) (one form.LongestFrame x.set.head.frame)
    (cond (k == 4) (one form.Grid x.set.head.grid) (sum_part x.sums k)))))

-- a station: w, C, D, P and S
abbrev pub station_part : Set → Alloc → ℕ → Phrase Form
station_part t a i =
    phrase form.Station (i ∷ at t.w i ∷ at t.c i ∷ at t.d i ∷ at t.p i ∷ at a.s i ∷ [])

-- ---- what the mode promises

-- every accepted message is sent in time; of FDDI that is not promised
abbrev pub deadline_part : ℕ → Phrase Form
deadline_part mode = either (mode == fddi) form.NoDeadline form.InTime

-- timely-token: any N visits send at most A* + F − 1
unfoldable pub burst_part : ℕ → ℕ → ℕ → Option (Phrase Form)
burst_part mode n most = cond (mode == fddi) None (Some (two form.Burst n most))

-- the 2003 edition, where A* is above 0: every station is offered asynchronous time
unfoldable pub offered_part : ℕ → ℕ → Option (Phrase Form)
offered_part mode spare =
    cond (mode == earlier) (Some (bare form.NotOffered))
    (cond (mode == timely && nat_le 1 spare) (Some (bare form.Offered)) None)

-- by the mode: deadlines, bursts, and asynchronous time
unfoldable pub mode_promise : Account → ℕ → Option (Phrase Form)
mode_promise x k =
    cond (k == 3) (Some (deadline_part x.set.head.mode))
    (cond (k == 4) (burst_part x.set.head.mode x.set.n x.sums.burst)
    (cond (k == 5) (offered_part x.set.head.mode x.sums.spare) (Some (bare form.PromisesEnd))))

-- part k behind the stations, from 0 to 6
unfoldable pub promise_part : Account → ℕ → Option (Phrase Form)
promise_part x k =
    cond (k == 0) (Some (bare form.StationsEnd))
    (cond (k == 1) (Some (one form.Back x.sums.bound)) (cond (k == 2) (Some (bare form.OnlyShare)) (mode_promise x k)))
