-- With D twice TTRT a station needs half of its C, rounded up; so a list has a plan exactly if these halves and a tick for each wagon are at most TTRT.
use Prim.Native.Nat.{ℕ, ◌+◌, ◌≤◌, ◌<◌}
use mathlib.Core.Path.{◌≡◌, refl, sym, ap, ◌∙◌}
use mathlib.Core.List.{List}
use mathlib.Core.Logic.{◌↔◌, ⊎_elim}
use native.Mathlib.Omega.{arith}
use borrow.Author.Tests.{le-leb}
use Rattle.units.specs.Small.{rounded_up}
use Rattle.units.specs.Places.{at, fill, zeros, sum_below}
use Rattle.units.proofs.PlaceLaws.{fill_inside, sum_same}
use Rattle.plans.specs.Rules.{lost, least_time, time_at, MeetsRules}
use Rattle.plans.specs.Planned.{planned, smallest_for, smallest_with}
use Rattle.plans.specs.declared.Planned.{Planned}
use Rattle.plans.proofs.Promised.{promised as of-plans}
use Rattle.hopper.specs.Wagons.{ListFits}
use Rattle.hopper.specs.Requests.{longest_at, set_of, list_planned}
use Rattle.hopper.specs.declared.WagonList.{WagonList}
use Rattle.hopper.proofs.WagonLaws.{list_fits}
use Rattle.hopper.proofs.RequestLaws.{plan_given}
use Rattle.hopper_rules.proofs.SheetLaws.{has_numbers, walk_time, longest_small, judged_none}
use Rattle.hopper_rules.proofs.AnswerLaws.{in_use_lem, answer_none, plan_only, plan_six}

-- half of C, rounded up
abbrev half : WagonList → ℕ → ℕ
half l i = rounded_up (longest_at l i) 2

smallest_half : (c : ℕ) → c ≤ 500 → smallest_for 1 250 c 500 ≡ rounded_up c 2
unfolding smallest_with
smallest_half c h = rw (le-leb c 500 h) (omega arith)

-- where the planner has a plan, wagon i has its half
half_planned : (l : WagonList) → ListFits l → (planned (set_of l)).number ≡ 0 → (i : ℕ) → i < l.n → at (planned (set_of l)).alloc.s i ≡ half l i
half_planned l h e i b =
    let has = has_numbers l h in
    let small = longest_small l h i b in
    let least = (of-plans.kept (set_of l) e).smallest i b in
    of-plans.no_second 1 250 (at (set_of l).c i) (at (set_of l).d i) _ (omega arith) least
    ∙ rw (has.longest i b, has.deadline i b) (smallest_half (longest_at l i) (omega arith))

pub shares_half : (l : WagonList) → (list_planned l).number ≡ 0 → (i : ℕ) → i < l.n → at (list_planned l).alloc.s i ≡ half l i
shares_half l e i b =
    let h = (answer_none l).0 e in
    ap (λ (p : Planned). at p.alloc.s i) (plan_given l ((list_fits l).1 h.0)) ∙ half_planned l h.0 h.1 i b

-- the halves meet the rules where there is room for them
module _ (l : WagonList) (h : ListFits l) (room : sum_below l.n (half l) + l.n ≤ 250) where
  abbrev halves : List ℕ
  halves = fill l.n (half l) zeros

  stored : (i : ℕ) → i < l.n → at halves i ≡ half l i
  stored i b = let few = h.count.1 in fill_inside l.n (half l) zeros i b (omega arith)

  enough : (i : ℕ) → i < l.n → longest_at l i ≤ least_time 250 500 (half l i)
  enough i b =
      let small = longest_small l h i b in
      let half_is : half l i ≡ smallest_for 1 250 (longest_at l i) 500 = sym (smallest_half (longest_at l i) (omega arith)) in
      rw half_is (of-plans.smallest 1 250 (longest_at l i) 500 (omega arith)).meets

  deadlines_met : (i : ℕ) → i < l.n → at (set_of l).c i ≤ time_at (set_of l) (at halves) i
  deadlines_met i b =
      let has = has_numbers l h in
      rw (of-plans.time_timely (set_of l) (at halves) i (in_use_lem l), has.longest i b, has.deadline i b, stored i b) (enough i b)

  lost_time_lem : lost (set_of l) ≡ l.n
  lost_time_lem = of-plans.no_frames (set_of l) refl ∙ walk_time l h

  halves_meet : MeetsRules (set_of l) (at halves)
  halves_meet =
      record {
        deadlines = deadlines_met;
        token = omega (arith, room, lost_time_lem, sum_same l.n (at halves) (half l) stored);
        grid = λ i b. (at halves i, omega arith);
      }

  room_planned : (planned (set_of l)).number ≡ 0
  room_planned =
      let none = judged_none l h in
      ⊎_elim (λ e. e) (λ e. absurd ((plan_six (set_of l) none (in_use_lem l)).0 e (halves, halves_meet))) (plan_only (set_of l) none (in_use_lem l))

-- a plan has room for its halves
room_left : (l : WagonList) → ListFits l → (planned (set_of l)).number ≡ 0 → sum_below l.n (half l) + l.n ≤ 250
room_left l h e =
    let token = (of-plans.kept (set_of l) e).plan.plan.least.meets.token in
    let sums = sum_same l.n (at (planned (set_of l)).alloc.s) (half l) (half_planned l h e) in
    omega (arith, token, sums, of-plans.no_frames (set_of l) refl, walk_time l h)

pub has_room : (l : WagonList) → ((list_planned l).number ≡ 0) ↔ (ListFits l × (sum_below l.n (half l) + l.n ≤ 250))
has_room l = (
  λ e. let h = (answer_none l).0 e in (h.0, room_left l h.0 h.1),
  λ h. (answer_none l).1 (h.0, room_planned l h.0 h.1),
)
