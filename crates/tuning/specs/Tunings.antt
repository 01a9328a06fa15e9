-- Another TTRT: at how many of a range a set has a plan, all else as it is, at which ones, and which of them leaves the largest part of a rotation for asynchronous traffic.
use Rattle.std.specs.Prelude.{ℕ, zero, suc, ◌+◌, ◌*◌, min, Bool, cond, ◌&&◌, ◌||◌, ltb, eqb}
use Rattle.units.specs.Numbers.{accepted, wrong_shape, out_of_range, retired, most_ttrt}
use Rattle.units.specs.Judging.{or_else}
use Rattle.units.specs.Places.{at}
use Rattle.sets.specs.Rules.{count_allowed, numbers_allowed}
use Rattle.sets.specs.declared.Set.{Set}
use Rattle.plans.specs.Rules.{in_use, spare_time}
use Rattle.plans.specs.Planned.{planned}
use Rattle.plans.specs.declared.Planned.{Planned}
use Rattle.tuning.specs.declared.Tuning.{Tuning}

-- the set at another TTRT, all else as it is
abbrev pub with_ttrt : Set → ℕ → Set
with_ttrt t x =
    record {
      head = record { ttrt = x; mode = t.head.mode; frame = t.head.frame; grid = t.head.grid };
      n = t.n;
      w = t.w;
      c = t.c;
      d = t.d;
      p = t.p;
    }

-- what planning refuses whatever TTRT is: the first of 2, 4 of another number, and 16
unfoldable pub judged_at_all : Set → ℕ
judged_at_all t =
    or_else (count_allowed t) wrong_shape
    (or_else (numbers_allowed (with_ttrt t most_ttrt)) out_of_range (or_else (in_use t) retired accepted))

-- what planning answers there
abbrev pub planned_at : Set → ℕ → Planned
planned_at t x = planned (with_ttrt t x)

-- it has a plan there
abbrev pub has_plan : Set → ℕ → Bool
has_plan t x = eqb (planned_at t x).number accepted

-- A* of that plan
abbrev pub spare_at : Set → ℕ → ℕ
spare_at t x = spare_time (with_ttrt t x) (at (planned_at t x).alloc.s)

-- no TTRT was tried
abbrev pub no_tuning : Tuning
no_tuning = record { count = 0; smallest = 0; largest = 0; below = 0; above = 0; best = 0; spare = 0 }

-- A* / TTRT is larger than that of the best so far, compared by products; the first is the best so far
abbrev pub is_better : ℕ → ℕ → Tuning → Bool
is_better x spare k = eqb k.best 0 || ltb (k.spare * x) (spare * k.best)

-- one more, above all that were tried: x has a plan, and this A*. The set's own TTRT tells what is below and what is above. There are no more than 1,000,000
unfoldable pub counted : ℕ → ℕ → ℕ → Tuning → Tuning
counted own x spare k =
    record {
      count = min (k.count + 1) most_ttrt;
      smallest = cond (eqb k.smallest 0) x k.smallest;
      largest = x;
      below = cond (ltb x own) x k.below;
      above = cond (ltb own x && eqb k.above 0) x k.above;
      best = cond (is_better x spare k) x k.best;
      spare = cond (is_better x spare k) spare k.spare;
    }

-- one more TTRT tried
unfoldable pub tried_at : Set → ℕ → Tuning → Tuning
tried_at t x k = cond (has_plan t x) (counted t.head.ttrt x (spare_at t x) k) k

-- n TTRT tried, one after another from this one on
unfoldable pub tuned_over : Set → ℕ → ℕ → Tuning → Tuning
tuned_over t from zero k = k
tuned_over t from (suc n) k = tried_at t (from + n) (tuned_over t from n k)

-- all of them
abbrev pub tuned : Set → ℕ → ℕ → Tuning
tuned t from n = tuned_over t from n no_tuning
