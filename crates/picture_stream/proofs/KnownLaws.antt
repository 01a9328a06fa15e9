-- The records that keep every rule are all of stations below 128: a visit is at the token's station, and a mark is of one of the plan's.
use Rattle.std.proofs.Common.{◌≡◌, ℕ, ◌<◌, ◌≤◌, ◌≢◌, List, [], ◌∷◌, sym, refl, ap, ◌∙◌, ⊎_elim, arith, ltb-true, eqb-true}
use Rattle.units.proofs.JudgingLaws.{and-true, passed}
use Rattle.sets.specs.declared.Set.{Set}
use Rattle.plans.specs.Planned.{judged_plan}
use Rattle.plans.specs.declared.Alloc.{Alloc}
use Rattle.plans.proofs.PlanLaws.{given_none}
use Rattle.sheets.proofs.ReadLaws.{then_none}
use Rattle.log_records.specs.declared.Entry.{Entry}
use Rattle.log_records.specs.declared.Entry.TheVariants.{Visit, Mark}
use Rattle.field_reader.proofs.ScannedLaws.{zero_or_not}
use Rattle.logs.specs.Reading.{read_log}
use Rattle.logs.proofs.ReadingLaws.{read_number_lem, read_accepted}
use Rattle.inspection.specs.Rules.{place, expected, first_failed, broken_rule}
use Rattle.inspection.specs.Records.{inspected, inspected_all}
use Rattle.inspection.specs.declared.Inspection.{Inspection}
use Rattle.inspection.proofs.RecordLaws.{moved_rule, inspected_stops, inspected_moves, all_stays}
use Rattle.tallies.specs.Shown.{station_of, Known}

-- the plan of a log that was read is accepted, so it has at most 128 stations
pub plan_accepted : (bs : List ℕ) → (read_log bs).number ≡ 0 → judged_plan (read_log bs).set (read_log bs).alloc ≡ 0
plan_accepted bs z =
    let none = sym (read_number_lem bs) ∙ z in
    rw (read_accepted bs none) (then_none _ _ none).1

pub few_stations : (bs : List ℕ) → (read_log bs).number ≡ 0 → (read_log bs).set.n ≤ 128
few_stations bs z = ((given_none (read_log bs).set (read_log bs).alloc).0 (plan_accepted bs z)).0.1

module _ (t : Set) (a : Alloc) (few : t.n ≤ 128) where
  -- a record that breaks no rule is of one of 128 stations
  one_known : (s : Inspection) (e : Entry) → broken_rule (expected s t a) e ≡ 0 → station_of e < 128
  unfolding first_failed
  one_known s (Visit v) h =
      let same : v.station ≡ place s = eqb-true _ _ (passed _ 1 _ (omega arith) h).0 in
      omega arith
  one_known s (Mark m) h =
      let small : m.station < t.n = ltb-true _ _ (and-true _ _ (passed _ 1 _ (omega arith) h).0).0 in
      omega arith

  -- behind one that breaks a rule none is kept
  none_broken : (s : Inspection) (e : Entry) (es : List Entry) → (inspected_all (inspected s t a e) t a es).rule ≡ 0 → s.rule ≡ 0 → broken_rule (expected s t a) e ≡ 0
  none_broken s e es z none =
      ⊎_elim (λ y. y)
      (λ (some : broken_rule (expected s t a) e ≢ 0).
      let stops = inspected_stops s t a e none (broken_rule (expected s t a) e) refl some in
      let broken : (inspected s t a e).rule ≢ 0 = λ y. some (sym (ap (λ (i : Inspection). i.rule) stops) ∙ y) in
      absurd (broken (ap (λ (i : Inspection). i.rule) (sym (all_stays (inspected s t a e) t a es broken)) ∙ z)))
      (zero_or_not (broken_rule (expected s t a) e))

  moved_none : (s : Inspection) (e : Entry) → s.rule ≡ 0 → broken_rule (expected s t a) e ≡ 0 → (inspected s t a e).rule ≡ 0
  moved_none s e none kept = ap (λ (i : Inspection). i.rule) (inspected_moves s t a e none kept) ∙ moved_rule s t a e ∙ none

  pub all_known : (s : Inspection) (es : List Entry) → s.rule ≡ 0 → (inspected_all s t a es).rule ≡ 0 → Known es
  unfolding inspected_all Known
  all_known s [] none z = tt
  all_known s (e ∷ es) none z =
      let kept = none_broken s e es z none in
      (one_known s e kept, all_known (inspected s t a e) es (moved_none s e none kept) z)
