-- The lines of `tune`: each is a form of words, and its numbers in their order.
use Rattle.std.specs.Prelude.{ℕ, zero, suc, cond, Option, None, Some, leb, ltb, eqb}
use Rattle.units.specs.Numbers.{accepted, no_allocation}
use Rattle.units.specs.Places.{at}
use Rattle.sets.specs.Rules.{tau}
use Rattle.sets.specs.declared.Set.{Set}
use Rattle.plans.specs.Rules.{spare_time}
use Rattle.plans.specs.Planned.{planned}
use Rattle.sheets.specs.Reading.{then_number}
use Rattle.text.specs.Phrases.{bare, one, two, four}
use Rattle.text.specs.declared.phrases.Phrase.{Phrase}
use Rattle.command_tune.specs.declared.Form.{Form}
use Rattle.command_tune.specs.declared.Form.TheVariants as form
use Rattle.command_tune.specs.declared.Tune.{Tune}

-- the set's own TTRT, with what planning answers there
unfoldable pub own_line : ℕ → ℕ → Phrase Form
own_line ttrt number = cond (eqb number 0) (one form.OwnPlan ttrt) (two form.OwnRefused ttrt number)

-- a TTRT; 0 stands for none
unfoldable pub or_none : Form → Form → ℕ → Phrase Form
or_none some none x = cond (eqb x 0) (bare none) (one some x)

-- the range, the set's own TTRT, and how many have a plan
unfoldable pub first_line : Tune → ℕ → Phrase Form
first_line k i =
    cond (eqb i 0) (two form.Tried k.from k.to)
    (cond (eqb i 1) (own_line k.set.head.ttrt k.own) (one form.Plans k.seen.count))

-- which have one; the best, and the first line of its plan: N, TTRT, τ, A*
unfoldable pub found_line : Tune → ℕ → Phrase Form
found_line k i =
    cond (eqb i 3) (one form.Smallest k.seen.smallest)
    (cond (eqb i 4) (one form.Largest k.seen.largest)
    (cond (eqb i 5) (or_none form.Below form.NoneBelow k.seen.below)
    (cond (eqb i 6) (or_none form.Above form.NoneAbove k.seen.above)
    (cond (eqb i 7) (one form.Best k.seen.best)
    (four form.Plan k.set.n k.seen.best (tau k.set) k.seen.spare)))))

-- the numbers of the first line that `plan` prints of a set that has a plan: N, TTRT, τ, A*
abbrev pub plan_line_of : Set → Phrase Form
plan_line_of t =
    four form.Plan t.n t.head.ttrt (tau t) (spare_time t (at (planned t).alloc.s))

-- the refusal, or 6 where no TTRT of the range has a plan
unfoldable pub number_of : Tune → ℕ
number_of k = then_number k.number (cond (eqb k.seen.count 0) no_allocation accepted)

-- a refusal is one line; where there is no plan, three say so
unfoldable pub count_for : ℕ → ℕ → ℕ
count_for zero count = cond (eqb count 0) 3 9
count_for (suc k) count = 1

abbrev pub line_count : Tune → ℕ
line_count k = count_for k.number k.seen.count

-- line i, from 0; none behind the last
unfoldable pub line_at : Tune → ℕ → Option (Phrase Form)
line_at k i =
    cond (leb (line_count k) i) None
    (cond (eqb k.number 0) (cond (ltb i 3) (Some (first_line k i)) (Some (found_line k i))) (Some (one form.Refused k.number)))
