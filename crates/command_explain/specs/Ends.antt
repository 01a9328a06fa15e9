-- The phrases behind the stations': the sum of S and what there is for it, whether the grid is the cause, what can be done with an FDDI sheet, and what the mode promises.
use Rattle.std.specs.Prelude.{ℕ, ◌-◌, cond, ◌&&◌, Option, None, Some, [], ◌∷◌, leb, eqb, get_or}
use Rattle.units.specs.Numbers.{accepted, bad_walk_time, no_allocation, retired, timely, fddi, earlier}
use Rattle.units.specs.Judging.{between}
use Rattle.text.specs.Phrases.{bare, one, two, four, either}
use Rattle.text.specs.declared.phrases.Phrase.{Phrase}
use Rattle.command_explain.specs.declared.Form.{Form}
use Rattle.command_explain.specs.declared.Form.TheVariants as form
use Rattle.command_explain.specs.declared.Explained.{Explained}

-- the sum of S, τ, F − 1 and TTRT
abbrev pub sum_phrase : Explained → Phrase Form
sum_phrase e = four form.Sum e.sums.sum e.sums.tau e.sums.more e.set.head.ttrt

-- what there is for the sum, and A* or what is missing
unfoldable pub against_phrase : Explained → Phrase Form
against_phrase e =
    cond (eqb e.number accepted) (two form.Spare e.sums.available e.sums.spare)
    (two form.Missing e.sums.available e.sums.missing)

-- 16: three lines
abbrev pub retired_phrase : ℕ → Option (Phrase Form)
retired_phrase j = get_or (Some (bare form.Retired) ∷ Some (bare form.Readable) ∷ Some (bare form.Again) ∷ []) j None

-- ---- what the mode promises

abbrev pub deadline_promise : ℕ → Phrase Form
deadline_promise mode = either (eqb mode fddi) form.NoDeadline form.InTime

-- how much N visits send asynchronously at most; in a ring of one station each of them
unfoldable pub burst_promise : Explained → Option (Phrase Form)
burst_promise e =
    cond (eqb e.set.head.mode fddi) None
    (cond (eqb e.set.n 1) (Some (one form.OwnBurst e.sums.burst))
    (Some (two form.Burst e.set.n e.sums.burst)))

unfoldable pub offered_promise : ℕ → ℕ → Option (Phrase Form)
offered_promise mode spare =
    cond (eqb mode earlier) (Some (bare form.NotOffered))
    (cond (eqb mode timely && leb 1 spare) (Some (bare form.Offered)) None)

abbrev pub back_promise : Explained → Phrase Form
back_promise e = one form.Back e.sums.back

unfoldable pub promise_phrase : Explained → ℕ → Option (Phrase Form)
promise_phrase e j =
    cond (eqb j 0) (Some (back_promise e))
    (cond (eqb j 1) (Some (bare form.OnlyShare))
    (cond (eqb j 2) (Some (deadline_promise e.set.head.mode))
    (cond (eqb j 3) (burst_promise e)
    (cond (eqb j 4) (offered_promise e.set.head.mode e.sums.spare) None))))

-- ---- all of them

unfoldable pub behind_sum : Explained → ℕ → Option (Phrase Form)
behind_sum e j =
    cond (eqb e.number accepted) (promise_phrase e j)
    (cond (eqb e.number no_allocation && e.grid_cause && eqb j 0) (Some (bare form.GridCause)) None)

unfoldable pub account_phrase : Explained → ℕ → Option (Phrase Form)
account_phrase e j =
    cond (eqb j 0) (Some (sum_phrase e)) (cond (eqb j 1) (Some (against_phrase e)) (behind_sum e (j - 2)))

-- of a first fault, of numbers out of range and of a bad walk time there is none
unfoldable pub last_phrase : Explained → ℕ → Option (Phrase Form)
last_phrase e j =
    cond (eqb e.number retired) (retired_phrase j)
    (cond (between 1 bad_walk_time e.number) None (account_phrase e j))
