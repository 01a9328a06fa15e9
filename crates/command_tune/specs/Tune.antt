-- `tune`: which requests are refused, and a range of TTRT tried some at a time.
use Rattle.std.specs.Prelude.{ℕ, zero, suc, ◌+◌, ◌-◌, min, ◌≡◌, Bool, true, false, cond, ◌&&◌, List, leb, ltb}
use Rattle.units.specs.Numbers.{out_of_range, most_ttrt}
use Rattle.units.specs.Judging.{or_else}
use Rattle.sets.specs.Judged.{blank_set}
use Rattle.sets.specs.declared.Set.{Set}
use Rattle.plans.specs.Planned.{planned}
use Rattle.field_reader.specs.Scanned.{scanned}
use Rattle.sheets.specs.Reading.{then_number, set_in}
use Rattle.tuning.specs.Tunings.{judged_at_all, no_tuning, tuned_over, tuned}
use Rattle.tuning.specs.declared.Tuning.{Tuning}
use Rattle.command_tune.specs.declared.Tune.{Tune}

-- FROM and TO are a range of TTRT: 1 to 1,000,000, and FROM not above TO
abbrev pub is_range : ℕ → ℕ → Bool
is_range from to = leb 1 from && leb from to && leb to most_ttrt

-- the set that a request sheet holds
abbrev pub requested : List ℕ → Set
requested bs = set_in false bs

-- 1, 2 and 3 by the sheet; 4 by the range; then 4 by another number than TTRT, and 16
abbrev pub tune_number : List ℕ → ℕ → ℕ → ℕ
tune_number bs from to =
    then_number (scanned false bs).number (or_else (is_range from to) out_of_range (judged_at_all (requested bs)))

-- a set, tried up to the next TTRT
abbrev pub tried_to : Set → ℕ → ℕ → ℕ → Tuning → Tune
tried_to t from to next seen =
    record { set = t; number = 0; own = (planned t).number; from = from; to = to; next = next; seen = seen }

-- a refused one is blank: there is nothing to try
abbrev pub refused_with : ℕ → Tune
refused_with number =
    record { set = blank_set; number = number; own = 0; from = 0; to = 0; next = 1; seen = no_tuning }

unfoldable pub begun_with : ℕ → Set → ℕ → ℕ → Tune
begun_with zero t from to = tried_to t from to from no_tuning
begun_with (suc k) t from to = refused_with (suc k)

-- before the first TTRT is tried
abbrev pub begun : List ℕ → ℕ → ℕ → Tune
begun bs from to = begun_with (tune_number bs from to) (requested bs) from to

-- all were tried
abbrev pub is_done : Tune → Bool
is_done k = ltb k.to k.next

-- how many are tried next: those that are left, and at most 4,096 at a time
abbrev pub size_of : ℕ → ℕ → ℕ
size_of next to = min (to + 1 - next) 4_096

-- some TTRT more
abbrev pub further_of : Tune → Tune
further_of k =
    record {
      set = k.set;
      number = k.number;
      own = k.own;
      from = k.from;
      to = k.to;
      next = k.next + size_of k.next k.to;
      seen = tuned_over k.set k.next (size_of k.next k.to) k.seen;
    }

unfoldable pub went_on : Tune → Tune
went_on k = cond (is_done k) k (further_of k)

-- so often
unfoldable pub went_on_for : ℕ → Tune → Tune
went_on_for zero k = k
went_on_for (suc i) k = went_on (went_on_for i k)

-- gone on with until all were tried
pub record TriedAll (first r : Tune) : Type 0 where
  pub times : ℕ
  pub is : r ≡ went_on_for times first
  pub done : is_done r ≡ true

-- all of the range at once
unfoldable pub ended_with : ℕ → Set → ℕ → ℕ → Tune
ended_with zero t from to = tried_to t from to (to + 1) (tuned t from (to + 1 - from))
ended_with (suc k) t from to = refused_with (suc k)

abbrev pub ended : List ℕ → ℕ → ℕ → Tune
ended bs from to = ended_with (tune_number bs from to) (requested bs) from to
