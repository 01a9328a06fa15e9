-- With any other number than 4 no phrase says that a number is out of its range: every form that can be chosen then is another one.
use Prim.Native.Nat.{ℕ, zero, suc, ◌-◌, ◌*◌, ◌/◌, ◌%◌}
use mathlib.Core.Path.{◌≡◌, refl}
use mathlib.Core.Bool.{Bool, true, false, cond, not, ◌&&◌, ◌||◌}
use mathlib.Core.List.{List}
use Rattle.std.proofs.Common.{Option, None, Some}
use lib.Dec.{leb, ltb, eqb}
use Rattle.units.specs.Numbers.{accepted, runs_on, out_of_range, bad_walk_time, no_allocation, retired, timely, fddi, earlier}
use Rattle.units.specs.Judging.{between}
use Rattle.units.specs.Places.{at}
use Rattle.sets.specs.declared.Head.{Head}
use Rattle.fields.specs.Fields.{is_allowed}
use Rattle.fields.specs.declared.Passed.{Passed}
use Rattle.reasons.specs.Shortages.{too_much}
use Rattle.reasons.specs.declared.Grounds.{Grounds}
use Rattle.faults.specs.Holdings.{holding_at}
use Rattle.faults.specs.declared.Holding.{Holding}
use Rattle.text.specs.Phrases.{phrase}
use Rattle.text.specs.declared.phrases.Phrase.{Phrase}
use Rattle.command_explain.specs.declared.Form.{Form}
use Rattle.command_explain.specs.declared.Form.TheVariants.{Refused}
use Rattle.command_explain.specs.declared.Place.{Place}
use Rattle.command_explain.specs.declared.Explained.{Explained}
use Rattle.command_explain.specs.declared.stations.Station.{Station}
use Rattle.command_explain.specs.First.{verdict_form, verdict, kind_at, may_stand, may_stand_by, stands, fault_phrase, one_line, second_phrase, first_phrase}
use Rattle.command_explain.specs.Stations.{station_at, walk_phrase, grounds_phrase, grounds, times, behind_smallest, smallest_grounds, smallest_phrase, held_form, named, given_by, in_range_phrase, station_phrase}
use Rattle.command_explain.specs.Ends.{against_phrase, retired_phrase, burst_promise, offered_promise, promise_phrase, behind_sum, account_phrase, last_phrase}
use Rattle.command_explain.specs.Phrases.{first_count, station_count, stations_of, phrase_behind, phrase_at}
use Rattle.command_explain.specs.Out.{says_out, says_so}

-- a form that does not say it, and a phrase of such a form
record QuietForm (f : Form) : Type 0 where
  is : says_out f ≡ false

record Quiet (p : Phrase Form) : Type 0 where
  form : QuietForm p.form

either : (b : Bool) {x y : Phrase Form} → Quiet x → Quiet y → Quiet (cond b x y)
either true q r = q
either false q r = r

-- of an empty place nothing is said
record QuietAt (p : Option (Phrase Form)) : Type 0 where
  is : says_so p ≡ false

none : QuietAt None
none = record { is = refl }

there : {p : Phrase Form} → Quiet p → QuietAt (Some p)
there q = record { is = q.form.is }

either_at : (b : Bool) {x y : Option (Phrase Form)} → QuietAt x → QuietAt y → QuietAt (cond b x y)
either_at true q r = q
either_at false q r = r

either_form : (b : Bool) {x y : Form} → QuietForm x → QuietForm y → QuietForm (cond b x y)
either_form true q r = q
either_form false q r = r

with_form : {f : Form} {numbers : List ℕ} → QuietForm f → Quiet (phrase f numbers)
with_form q = record { form = q }

said : {f : Form} → says_out f ≡ false → QuietForm f
said e = record { is = e }

plain : {f : Form} {numbers : List ℕ} → says_out f ≡ false → Quiet (phrase f numbers)
plain e = with_form (said e)

-- ---- before the stations

refused_quiet : says_out Refused ≡ false
unfolding says_out
refused_quiet = refl

verdict_quiet : (e : Explained) → Quiet (verdict e)
unfolding verdict verdict_form says_out
verdict_quiet e = either (eqb e.number accepted) (with_form (either_form e.plan (said refl) (said refl))) (plain refused_quiet)

kind_quiet : (k : ℕ) → QuietForm (kind_at k).form
unfolding says_out
kind_quiet zero = said refl
kind_quiet (suc zero) = said refl
kind_quiet (suc (suc zero)) = said refl
kind_quiet (suc (suc (suc zero))) = said refl
kind_quiet (suc (suc (suc (suc zero)))) = said refl
kind_quiet (suc (suc (suc (suc (suc zero))))) = said refl
kind_quiet (suc (suc (suc (suc (suc (suc k)))))) = said refl

may_quiet : (number : ℕ) (p : Passed) (k : ℕ) → QuietAt (may_stand_by number p k)
unfolding may_stand_by may_stand says_out
may_quiet number p k =
    either_at (eqb number runs_on) (either_at (eqb k 0) (there (plain refl)) none)
    (either_at (is_allowed p (kind_at k).tag (kind_at k).size) (there (with_form (kind_quiet k))) none)

stands_quiet : (number : ℕ) (place : Place) → Quiet (stands number place)
unfolding stands says_out
stands_quiet number place = either (eqb number runs_on || ltb place.left 3) (plain refl) (plain refl)

fault_quiet : (e : Explained) (j : ℕ) → QuietAt (fault_phrase e j)
unfolding fault_phrase says_out
fault_quiet e j =
    either_at (eqb j 0) (there (either e.plan (plain refl) (plain refl)))
    (either_at (eqb j 1) (there (stands_quiet e.number e.place)) (may_quiet e.number e.place.passed (j - 2)))

line_quiet : (e : Explained) (j : ℕ) → QuietAt (one_line e j)
unfolding one_line says_out
line_quiet e j = either_at (eqb j 0) (either_at (eqb e.number bad_walk_time) (there (plain refl)) (there (plain refl))) none

-- ---- a station

walk_quiet : (i w j : ℕ) → QuietAt (walk_phrase i w j)
unfolding walk_phrase says_out
walk_quiet i w j = either_at (eqb j 0 && not (eqb w 0)) (there (plain refl)) none

grounds_quiet : (h : Head) (i c d s : ℕ) → Quiet (grounds h i c d s)
unfolding grounds_phrase says_out
grounds_quiet h i c d s = either (eqb h.mode fddi) (plain refl) (plain refl)

behind_quiet : (e : Explained) (rests : Grounds) (largest : ℕ) → Quiet (behind_smallest e rests largest)
unfolding behind_smallest times says_out
behind_quiet e rests largest =
    either (eqb e.number no_allocation) (either (too_much e.sums.available rests.smallest) (plain refl) (plain refl))
    (either (eqb rests.smallest 0) (plain refl) (plain refl))

smallest_quiet : (e : Explained) (t : Station) (j : ℕ) → QuietAt (smallest_phrase e t j)
unfolding smallest_phrase says_out
smallest_quiet e t j =
    either_at (eqb j 0) (there (grounds_quiet e.set.head t.number _ _ _))
    (either_at (eqb j 1) (there (behind_quiet e (smallest_grounds e.set.head t) t.largest)) none)

held_quiet : (h : Holding) → QuietForm (held_form h)
unfolding held_form says_out
held_quiet h =
    either_form h.short (either_form h.off_grid (said refl) (said refl))
    (either_form h.off_grid (said refl) (either_form (eqb h.excess 0) (said refl) (said refl)))

given_quiet : (e : Explained) (t : Station) (j : ℕ) (h : Holding) → QuietAt (given_by e t j h)
unfolding given_by says_out
given_quiet e t j h =
    either_at (named e.number h)
    (either_at (eqb j 0) (there (grounds_quiet e.set.head t.number _ _ _)) (either_at (eqb j 1) (there (with_form (held_quiet h))) none))
    none

in_range_quiet : (e : Explained) (t : Station) (j : ℕ) → QuietAt (in_range_phrase e t j)
unfolding in_range_phrase says_out
in_range_quiet e t j =
    either_at (eqb e.number retired) none
    (either_at e.plan (given_quiet e t j (holding_at e.set e.alloc t.number)) (smallest_quiet e t j))

-- ---- behind the stations

retired_quiet : (j : ℕ) → QuietAt (retired_phrase j)
unfolding says_out
retired_quiet zero = there (plain refl)
retired_quiet (suc zero) = there (plain refl)
retired_quiet (suc (suc zero)) = there (plain refl)
retired_quiet (suc (suc (suc j))) = none

offered_quiet : (mode spare : ℕ) → QuietAt (offered_promise mode spare)
unfolding offered_promise says_out
offered_quiet mode spare =
    either_at (eqb mode earlier) (there (plain refl)) (either_at (eqb mode timely && leb 1 spare) (there (plain refl)) none)

promise_quiet : (e : Explained) (j : ℕ) → QuietAt (promise_phrase e j)
unfolding promise_phrase burst_promise says_out
promise_quiet e j =
    let mode = e.set.head.mode in
    either_at (eqb j 0) (there (plain refl))
    (either_at (eqb j 1) (there (plain refl))
    (either_at (eqb j 2) (there (either (eqb mode fddi) (plain refl) (plain refl)))
    (either_at (eqb j 3) (either_at (eqb mode fddi) none (either_at (eqb e.set.n 1) (there (plain refl)) (there (plain refl))))
    (either_at (eqb j 4) (offered_quiet mode e.sums.spare) none))))

account_quiet : (e : Explained) (j : ℕ) → QuietAt (account_phrase e j)
unfolding account_phrase against_phrase behind_sum says_out
account_quiet e j =
    either_at (eqb j 0) (there (plain refl))
    (either_at (eqb j 1) (there (either (eqb e.number accepted) (plain refl) (plain refl)))
    (either_at (eqb e.number accepted) (promise_quiet e (j - 2))
    (either_at (eqb e.number no_allocation && e.grid_cause && eqb (j - 2) 0) (there (plain refl)) none)))

last_quiet : (e : Explained) (j : ℕ) → QuietAt (last_phrase e j)
unfolding last_phrase says_out
last_quiet e j =
    either_at (eqb e.number retired) (retired_quiet j)
    (either_at (between 1 bad_walk_time e.number) none (account_quiet e j))

-- ---- all of them

module _ (e : Explained) (other : eqb e.number out_of_range ≡ false) where
  first_quiet : (j : ℕ) → QuietAt (first_phrase e j)
  unfolding first_phrase second_phrase
  first_quiet j =
      rw other (either_at (eqb j 0) (there (verdict_quiet e)) (either_at (between 1 runs_on e.number) (fault_quiet e (j - 1)) (line_quiet e (j - 1))))

  station_quiet : (i j : ℕ) → QuietAt (station_phrase e i j)
  unfolding station_phrase
  station_quiet i j = rw other (either_at (eqb e.number bad_walk_time) (walk_quiet i (at e.set.w i) j) (in_range_quiet e (station_at e i) j))

  all_quiet : (k : ℕ) → QuietAt (phrase_at e k)
  unfolding phrase_at phrase_behind
  all_quiet k =
      let b = k - first_count in
      either_at (ltb k first_count) (first_quiet k)
      (either_at (ltb (b / station_count) (stations_of e)) (station_quiet (b / station_count) (b % station_count)) (last_quiet e (b - station_count * stations_of e)))

  pub quiet : (k : ℕ) → says_so (phrase_at e k) ≡ false
  quiet k = (all_quiet k).is
