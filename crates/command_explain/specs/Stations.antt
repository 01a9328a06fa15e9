-- The phrases of a station: its numbers that are out of their ranges, its walk time, what its S rests on, or what it holds.
use Rattle.std.specs.Prelude.{ℕ, ◌-◌, Bool, cond, not, ◌&&◌, ◌||◌, Option, None, Some, List, [], ◌∷◌, eqb, get_or}
use Rattle.units.specs.Numbers.{accepted, out_of_range, bad_walk_time, no_allocation, retired, fddi}
use Rattle.units.specs.Places.{at}
use Rattle.sets.specs.declared.Head.{Head}
use Rattle.reasons.specs.Grounds.{grounds_of}
use Rattle.reasons.specs.Shortages.{too_much}
use Rattle.reasons.specs.declared.Grounds.{Grounds}
use Rattle.faults.specs.Holdings.{holding_at}
use Rattle.faults.specs.Ranges.{station_range}
use Rattle.faults.specs.declared.Holding.{Holding}
use Rattle.faults.specs.declared.Ranged.{Ranged}
use Rattle.text.specs.Phrases.{phrase, two, three, four, either}
use Rattle.text.specs.declared.phrases.Phrase.{Phrase}
use Rattle.command_explain.specs.declared.Form.{Form}
use Rattle.command_explain.specs.declared.Form.TheVariants as form
use Rattle.command_explain.specs.declared.Explained.{Explained}
use Rattle.command_explain.specs.declared.stations.Station.{Station}

-- station i of a sheet: its number, w, C, D, P and S, and the largest C with which there is still a plan
abbrev pub station_at : Explained → ℕ → Station
station_at e i =
    record {
      number = i;
      w = at e.set.w i;
      c = at e.set.c i;
      d = at e.set.d i;
      p = at e.set.p i;
      s = at e.alloc.s i;
      largest = at e.rooms.c i;
    }

-- ---- 4 and 5

-- w, C, D, P and S
abbrev pub out_forms : List Form
out_forms = form.WalkOut ∷ form.LongestOut ∷ form.DeadlineOut ∷ form.GapOut ∷ []

abbrev pub out_form : ℕ → Form
out_form j = get_or out_forms j form.ShareOut

-- number j of station i, if it is out of its range: the number, and the range
unfoldable pub ranged_out : ℕ → ℕ → Ranged → Option (Phrase Form)
ranged_out i j range =
    cond range.out (Some (four (out_form j) i range.value range.low range.high)) None

abbrev pub station_out : Station → ℕ → Option (Phrase Form)
station_out t j = ranged_out t.number j (station_range t.w t.c t.d t.p t.s j)

-- its walk time, if that is above 0
unfoldable pub walk_phrase : ℕ → ℕ → ℕ → Option (Phrase Form)
walk_phrase i w j = cond (eqb j 0 && not (eqb w 0)) (Some (two form.Walk i w)) None

-- ---- what S rests on

-- C, D, m, α and S; in FDDI q and the rest r, which is TTRT − α
unfoldable pub grounds_phrase : Head → ℕ → ℕ → ℕ → ℕ → Grounds → Phrase Form
grounds_phrase h i c d s rests =
    cond (eqb h.mode fddi) (phrase form.FddiGrounds (i ∷ c ∷ d ∷ rests.whole ∷ (h.ttrt - rests.alpha) ∷ s ∷ []))
    (phrase form.Grounds (i ∷ c ∷ d ∷ rests.whole ∷ rests.alpha ∷ s ∷ []))

abbrev pub grounds : Head → ℕ → ℕ → ℕ → ℕ → Phrase Form
grounds h i c d s = grounds_phrase h i c d s (grounds_of h.grid h.ttrt c d)

-- 6: whether this S alone is more than there is
abbrev pub too_much_phrase : ℕ → ℕ → Phrase Form
too_much_phrase available s = either (too_much available s) form.TooMuch form.End

-- X at S, X at the next smaller S if there is one, and the largest C
unfoldable pub times : Grounds → ℕ → Phrase Form
times rests largest =
    cond (eqb rests.smallest 0) (two form.FirstTime rests.time largest)
    (three form.Times rests.time rests.below largest)

-- what is said behind the smallest S
unfoldable pub behind_smallest : Explained → Grounds → ℕ → Phrase Form
behind_smallest e rests largest =
    cond (eqb e.number no_allocation) (too_much_phrase e.sums.available rests.smallest) (times rests largest)

-- what the smallest S rests on
abbrev pub smallest_grounds : Head → Station → Grounds
smallest_grounds h t = grounds_of h.grid h.ttrt t.c t.d

unfoldable pub smallest_phrase : Explained → Station → ℕ → Option (Phrase Form)
smallest_phrase e t j =
    cond (eqb j 0) (Some (grounds e.set.head t.number t.c t.d (smallest_grounds e.set.head t).smallest))
    (cond (eqb j 1) (Some (behind_smallest e (smallest_grounds e.set.head t) t.largest)) None)

-- ---- what a station of a given plan holds

unfoldable pub held_form : Holding → Form
held_form h =
    cond h.short (cond h.off_grid form.HeldShortOff form.HeldShort)
    (cond h.off_grid form.HeldOff (cond (eqb h.excess 0) form.Held form.HeldMore))

-- a station is named where the plan is accepted, or where it has a fault
abbrev pub named : ℕ → Holding → Bool
named number h = eqb number accepted || (h.short || h.off_grid)

-- X, and what is wrong with it or more than need be
abbrev pub held : Holding → Phrase Form
held h = two (held_form h) h.time h.excess

-- C, D, m, α and its S; then what it holds
unfoldable pub given_by : Explained → Station → ℕ → Holding → Option (Phrase Form)
given_by e t j h =
    cond (named e.number h)
    (cond (eqb j 0) (Some (grounds e.set.head t.number t.c t.d t.s))
    (cond (eqb j 1) (Some (held h)) None))
    None

abbrev pub given_phrase : Explained → Station → ℕ → Option (Phrase Form)
given_phrase e t j = given_by e t j (holding_at e.set e.alloc t.number)

-- ---- all of them

unfoldable pub in_range_phrase : Explained → Station → ℕ → Option (Phrase Form)
in_range_phrase e t j = cond (eqb e.number retired) None (cond e.plan (given_phrase e t j) (smallest_phrase e t j))

unfoldable pub station_phrase : Explained → ℕ → ℕ → Option (Phrase Form)
station_phrase e i j =
    cond (eqb e.number out_of_range) (station_out (station_at e i) j)
    (cond (eqb e.number bad_walk_time) (walk_phrase i (at e.set.w i) j) (in_range_phrase e (station_at e i) j))
