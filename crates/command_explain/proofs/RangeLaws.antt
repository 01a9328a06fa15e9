-- 4 over the bytes: it comes from the judgement of what the bytes hold, so some number of it is out of its range and a line says so; with any other number no line does.
use Prim.Native.Nat.{ℕ, zero, suc, ◌+◌, ◌-◌, ◌*◌, ◌/◌, ◌%◌, ◌≤◌, ◌<◌, min}
use mathlib.Core.Path.{◌≡◌, refl, sym, ap, ◌∙◌}
use mathlib.Core.Bool.{Bool, true, false, cond, true≢false}
use mathlib.Core.List.{List}
use mathlib.Core.Logic.{◌↔◌, inl, inr, ⊎_elim, ◌≢◌}
use native.Mathlib.Omega.{arith}
use lib.Dec.{ltb, eqb}
use borrow.Author.Tests.{eqb-true, ne_eqb, lt-ltb, le-ltb}
use Rattle.units.proofs.JudgingLaws.{true_or_false}
use Rattle.units.specs.Numbers.{out_of_range}
use Rattle.sets.specs.Judged.{judged}
use Rattle.sets.specs.declared.Set.{Set}
use Rattle.plans.specs.Rules.{is_fddi}
use Rattle.plans.specs.Planned.{smallest_fits, judged_plan, planned}
use Rattle.plans.proofs.LeastLaws.{plan_retired, plan_none, plan_found}
use Rattle.plans.specs.declared.Alloc.{Alloc}
use Rattle.plans.specs.declared.Planned.{Planned}
use Rattle.fields.specs.declared.Passed.{Passed}
use Rattle.field_reader.specs.Scanned.{scanned}
use Rattle.field_reader.specs.FirstFault.{Fault, no_start, not_allowed, cut_body, follows}
use Rattle.field_reader.proofs.ScannedLaws.{zero_or_not, shape_fault}
use Rattle.sheets.specs.Reading.{then_number, judged_sheet, given_answer, given_sheet, set_in, alloc_in}
use Rattle.faults.specs.Ranges.{header_range, range_at, SomeOut}
use Rattle.faults.proofs.RangeLaws as ranges
use Rattle.fields.specs.Header.{absent}
use Rattle.command_explain.specs.declared.Form.{Form}
use Rattle.command_explain.specs.declared.Explained.{Explained}
use Rattle.command_explain.specs.Sheet.{is_plan, judged_as, explained_as, explained}
use Rattle.command_explain.specs.First.{row_at, out_form, second_phrase, first_phrase}
use Rattle.command_explain.specs.Stations.{out_form as stationForm, station_phrase}
use Rattle.command_explain.specs.Phrases.{first_count, station_count, phrase_behind, phrase_at}
use Rattle.command_explain.specs.Out.{says_out, says_so, SomeOutSaid}
use Rattle.command_explain.proofs.ListedLaws.{listed, header_listed}
use Rattle.command_explain.proofs.QuietLaws.{quiet}

fault_small : (bs : List ℕ) (a : ℕ) (p : Passed) (k : ℕ) → Fault bs a p k → k ≤ 3
fault_small bs a p _ (no_start few) = omega arith
fault_small bs a p _ (not_allowed three other) = omega arith
fault_small bs a p _ (cut_body three may cut) = omega arith
fault_small bs a p _ (follows w last more) = omega arith

-- the walk never gives 4
walk_small : (plan : Bool) (bs : List ℕ) → (scanned plan bs).number ≤ 3
walk_small plan bs =
    ⊎_elim (λ (z : (scanned plan bs).number ≡ 0). omega arith)
    (λ some.
    let f = shape_fault plan bs (scanned plan bs).number some refl in
    fault_small bs f.place f.passed (scanned plan bs).number f.fault)
    (zero_or_not (scanned plan bs).number)

-- of a set that is judged 0 planning never does
planned_not : (t : Set) → judged t ≡ 0 → (planned t).number ≢ 4
planned_not t z e =
    ⊎_elim (λ (f : is_fddi t ≡ true). absurd (omega (arith, sym e ∙ ap (λ (p : Planned). p.number) (plan_retired t z f))))
    (λ (f : is_fddi t ≡ false).
    ⊎_elim (λ (s : smallest_fits t ≡ true). absurd (omega (arith, sym e ∙ ap (λ (p : Planned). p.number) (plan_found t z f s))))
    (λ (s : smallest_fits t ≡ false). absurd (omega (arith, sym e ∙ ap (λ (p : Planned). p.number) (plan_none t z f s))))
    (true_or_false (smallest_fits t)))
    (true_or_false (is_fddi t))

-- what the bytes hold is judged with 4, and the walk ended with 0
plan_four : (k : ℕ) (t : Set) (a : Alloc) → k ≤ 3 → (judged_as true (given_answer k true t a)).number ≡ 4 → (k ≡ 0) × (judged_plan t a ≡ 4)
unfolding judged_as given_answer judged_sheet
plan_four zero t a small e = (refl, e)
plan_four (suc k) t a small e = absurd (omega arith)

request_by : (j : ℕ) (t : Set) → judged t ≡ j → then_number j (planned t).number ≡ 4 → judged t ≡ 4
unfolding then_number
request_by zero t j e = absurd (planned_not t j e)
request_by (suc k) t j e = j ∙ e

request_four : (k : ℕ) (t : Set) (a : Alloc) → k ≤ 3 → (judged_as false (given_answer k false t a)).number ≡ 4 → (k ≡ 0) × (judged t ≡ 4)
unfolding judged_as given_answer judged_sheet then_number
request_four zero t a small e = (refl, request_by (judged t) t refl e)
request_four (suc k) t a small e = absurd (omega arith)

-- where 4 is given, what is explained is what the bytes hold, and some number of it is out of its range
pub record Holds (plan : Bool) (bs : List ℕ) : Type 0 where
  pub whole : (scanned plan bs).number ≡ 0
  pub set : (explained_as plan bs).set ≡ set_in plan bs
  pub count : (explained_as plan bs).set.n ≤ 128
  pub out : (k : ℕ) × ((k ≤ 5) × SomeOut (explained_as plan bs).set (explained_as plan bs).alloc k)

pub holds : (plan : Bool) (bs : List ℕ) → (explained_as plan bs).number ≡ 4 → Holds plan bs
unfolding judged_as given_sheet given_answer
holds true bs e =
    let t = set_in true bs in
    let a = alloc_in true bs in
    let f = plan_four (scanned true bs).number t a (walk_small true bs) e in
    let some = (ranges.four_plan t a).0 f.1 in
    record {
      whole = f.0;
      set = rw f.0 refl;
      count = rw f.0 some.0.1;
      out = (5, (omega arith, rw f.0 some.1));
    }
holds false bs e =
    let t = set_in false bs in
    let f = request_four (scanned false bs).number t (alloc_in false bs) (walk_small false bs) e in
    let some = (ranges.four t (planned t).alloc).0 f.1 in
    record {
      whole = f.0;
      set = rw f.0 refl;
      count = rw f.0 some.0.1;
      out = (4, (omega arith, rw f.0 some.1));
    }

-- ---- a number out of its range has its line

either_out : (b : Bool) (x y : Form) → says_out x ≡ true → says_out y ≡ true → says_out (cond b x y) ≡ true
either_out true x y e f = e
either_out false x y e f = f

station_form : (j : ℕ) → says_out (stationForm j) ≡ true
unfolding says_out
station_form zero = refl
station_form (suc zero) = refl
station_form (suc (suc zero)) = refl
station_form (suc (suc (suc zero))) = refl
station_form (suc (suc (suc (suc j)))) = refl

module _ (e : Explained) (four : e.number ≡ out_of_range) where
  header_said : (k : ℕ) → k < 4 → says_out (row_at k).one ≡ true → says_out (row_at k).out ≡ true → (header_range e.set.head (row_at k).tag).out ≡ true → SomeOutSaid e
  unfolding phrase_at first_phrase out_form
  header_said k few one out o =
      let here : says_so (second_phrase e k) ≡ true = rw ((header_listed e four k few).out o) (either_out (eqb (header_range e.said (row_at k).tag).value absent) _ _ one out) in
      let first : ltb (k + 1) first_count ≡ true = lt-ltb (k + 1) first_count (omega arith) in
      let behind : eqb (k + 1) 0 ≡ false = ne_eqb (k + 1) 0 (omega arith) in
      let back : k + 1 - 1 ≡ k = omega arith in
      (k + 1, (omega arith, rw (first, behind, back) here))

  station_said : (i j : ℕ) → i < min e.set.n 128 → j < 5 → (range_at e.set e.alloc i j).out ≡ true → SomeOutSaid e
  unfolding phrase_at phrase_behind
  station_said i j l few o =
      let here : says_so (station_phrase e i j) ≡ true = rw ((listed e four i j).out o) (station_form j) in
      let late : ltb (10 + (5 * i + j)) first_count ≡ false = le-ltb (10 + (5 * i + j)) first_count (omega arith) in
      let back : 10 + (5 * i + j) - first_count ≡ 5 * i + j = omega arith in
      let own : (5 * i + j) / station_count ≡ i = omega arith in
      let place : (5 * i + j) % station_count ≡ j = omega arith in
      (10 + (5 * i + j), (omega arith, rw (late, back, own, place, lt-ltb _ _ l) here))

  some_said : (k : ℕ) → k ≤ 5 → e.set.n ≤ 128 → SomeOut e.set e.alloc k → SomeOutSaid e
  unfolding says_out
  some_said k small count (inl (tag, (T, o))) =
      ranges.each_tag (λ tag. (header_range e.set.head tag).out ≡ true → SomeOutSaid e) (header_said 0 (omega arith) refl refl) (header_said 1 (omega arith) refl refl)
      (header_said 2 (omega arith) refl refl)
      (header_said 3 (omega arith) refl refl)
      tag
      T
      o
  some_said k small count (inr (i, (j, (l, (b, o))))) = station_said i j (omega arith) (omega arith) o

-- ---- 4 over the bytes

pub four : (bs : List ℕ) → ((explained bs).number ≡ out_of_range) ↔ SomeOutSaid (explained bs)
four bs = (
  λ e. let h = holds (is_plan bs) bs e in some_said (explained bs) e h.out.0 h.out.1.0 h.count h.out.1.1,
  λ f.
      ⊎_elim (λ t. eqb-true _ _ t) (λ (n : eqb (explained bs).number out_of_range ≡ false). absurd (true≢false (sym f.1.1 ∙ quiet (explained bs) n f.0)))
      (true_or_false (eqb (explained bs).number out_of_range)),
)
