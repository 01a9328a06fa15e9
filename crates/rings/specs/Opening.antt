-- Opening takes a set and an allocation; the numbers 2, 4, 5, 16 and 7 apply, in this order.
use Rattle.std.specs.Prelude.{ℕ, zero, suc}
use Rattle.sets.specs.declared.Set.{Set}
use Rattle.units.specs.Numbers.{retired}
use Rattle.units.specs.Judging.{or_else}
use Rattle.plans.specs.Rules.{in_use}
use Rattle.plans.specs.Planned.{given_then, rules_number}
use Rattle.plans.specs.declared.Alloc.{Alloc}
use Rattle.rings.specs.State.{with_plan, with_timers, blank_ring}
use Rattle.rings.specs.Timers.{silent_timers}
use Rattle.rings.specs.declared.Ring.{Ring}
use Rattle.rings.specs.declared.Opened.{Opened}

-- the opened ring: the blank one, so clock 0, the token at station 0, s 0, no message held, no visit yet; with the plan, and the timers as the silent first rotation leaves them
unfoldable pub opened_ring : Set → Alloc → Ring
opened_ring t a = with_timers (silent_timers t a) (with_plan t a blank_ring)

-- a refused opening returns the blank ring
unfoldable pub opened_with : ℕ → Ring → Opened
opened_with zero r = record { ring = r; number = 0 }
opened_with (suc k) r = record { ring = blank_ring; number = suc k }

-- opening's number: that of the judgement of the set with the allocation, but an FDDI ring is not opened any more: 16, behind 2, 4 and 5 and before 7
unfoldable pub opening_number : Set → Alloc → ℕ
opening_number t a = given_then t a (or_else (in_use t) retired (rules_number t a))

-- opening's answer: the opened ring, or the refusal
abbrev pub opening : Set → Alloc → Opened
opening t a = opened_with (opening_number t a) (opened_ring t a)
