-- The laws of reading a log: its number, and what is handed out with it.
use Rattle.std.proofs.Common.{◌≡◌, ℕ, zero, suc, true, false, ◌≢◌, List, sym, refl, ap, ◌∙◌, ⊎_elim}
use Rattle.units.proofs.JudgingLaws.{true_or_false}
use Rattle.sets.specs.Judged.{blank_set}
use Rattle.sets.specs.declared.Set.{Set}
use Rattle.plans.specs.Planned.{judged_plan, blank_alloc}
use Rattle.plans.specs.declared.Alloc.{Alloc}
use Rattle.field_reader.specs.Scanned.{scanned}
use Rattle.sheets.specs.Reading.{set_in, alloc_in, plan_passed, plan_start}
use Rattle.sheets.proofs.ReadLaws.{then_rest, then_keeps}
use Rattle.sheets.specs.declared.PlanStart.{PlanStart}
use Rattle.logs.specs.Walked.{walked, log_walked}
use Rattle.logs.specs.Reading.{log_number, refused_log, log_answer, read_log}
use Rattle.logs.specs.declared.Walked.{Walked}
use Rattle.logs.proofs.WalkLaws.{walked_on, walked_not, not_all_fault}

-- ---- answers

log_refused : (k : ℕ) (t : Set) (a : Alloc) (first records : ℕ) → k ≢ 0 → log_answer k t a first records ≡ refused_log k
unfolding log_answer
log_refused zero t a first records h = absurd (h refl)
log_refused (suc k) t a first records h = refl

log_accepted : (k : ℕ) (t : Set) (a : Alloc) (first records : ℕ) → k ≡ 0 → log_answer k t a first records ≡ record { set = t; alloc = a; first = first; records = records; number = 0 }
unfolding log_answer
log_accepted k t a first records h = rw h refl

answer_number : (k : ℕ) (t : Set) (a : Alloc) (first records : ℕ) → (log_answer k t a first records).number ≡ k
unfolding log_answer
answer_number zero t a first records = refl
answer_number (suc k) t a first records = refl

module _ (bs : List ℕ) where
  pub read_number_lem : (read_log bs).number ≡ log_number bs
  unfolding read_log
  read_number_lem = answer_number _ _ _ _ _

  -- refused with the number k
  pub read_refused : (k : ℕ) → k ≢ 0 → log_number bs ≡ k → read_log bs ≡ refused_log k
  unfolding read_log
  read_refused k h e = rw e (log_refused k _ _ _ _ h)

  -- accepted
  pub read_accepted : log_number bs ≡ 0 → read_log bs ≡ record { set = set_in true bs; alloc = alloc_in true bs; first = (scanned true bs).at; records = (log_walked bs).records; number = 0 }
  unfolding read_log
  read_accepted h = log_accepted _ _ _ _ _ h

  -- the number: that of the walk, then that of the judgement
  pub number_walk : (log_walked bs).number ≢ 0 → log_number bs ≡ (log_walked bs).number
  number_walk h = then_keeps _ _ h

  pub number_judged : (log_walked bs).number ≡ 0 → log_number bs ≡ judged_plan (set_in true bs) (alloc_in true bs)
  number_judged h = then_rest _ _ h

-- ---- what the plan at the start gives

module _ (bs : List ℕ) where
  start_on : plan_passed (scanned true bs).passed ≡ true
      → plan_start bs ≡ record { set = set_in true bs; alloc = alloc_in true bs; passed = true; number = judged_plan (set_in true bs) (alloc_in true bs); at = (scanned true bs).at }
  unfolding plan_start
  start_on h = rw h refl

  start_not : plan_passed (scanned true bs).passed ≡ false → plan_start bs ≡ record { set = blank_set; alloc = blank_alloc; passed = false; number = (scanned true bs).number; at = (scanned true bs).at }
  unfolding plan_start
  start_not h = rw h refl

  pub start_says : (plan_start bs).passed ≡ plan_passed (scanned true bs).passed
  start_says =
      ⊎_elim (λ (h : plan_passed (scanned true bs).passed ≡ true). ap (λ (s : PlanStart). s.passed) (start_on h) ∙ sym h)
      (λ (h : plan_passed (scanned true bs).passed ≡ false). ap (λ (s : PlanStart). s.passed) (start_not h) ∙ sym h)
      (true_or_false (plan_passed (scanned true bs).passed))

  -- not all fields of the plan have passed: its fault
  pub log_not_all : (s : PlanStart) → s ≡ plan_start bs → s.passed ≡ false → read_log bs ≡ refused_log s.number
  log_not_all s e h =
      let not_yet : plan_passed (scanned true bs).passed ≡ false = sym start_says ∙ ap (λ (s : PlanStart). s.passed) (sym e) ∙ h in
      let number : s.number ≡ (scanned true bs).number = ap (λ (s : PlanStart). s.number) (e ∙ start_not not_yet) in
      let walk : (log_walked bs).number ≡ s.number = ap (λ (r : Walked). r.number) (walked_not bs not_yet) ∙ sym number in
      let some : s.number ≢ 0 = λ z. not_all_fault bs not_yet (sym number ∙ z) in
      read_refused bs s.number some (number_walk bs (λ z. some (sym walk ∙ z)) ∙ walk)

  -- all have: what was read of the plan, and the walk over the records
  module _ (s : PlanStart) (e : s ≡ plan_start bs) (h : s.passed ≡ true) (w : Walked) (d : w ≡ walked bs s.at) where
    passed_all_lem : plan_passed (scanned true bs).passed ≡ true
    passed_all_lem = sym start_says ∙ ap (λ (s : PlanStart). s.passed) (sym e) ∙ h

    started : s ≡ record { set = set_in true bs; alloc = alloc_in true bs; passed = true; number = judged_plan (set_in true bs) (alloc_in true bs); at = (scanned true bs).at }
    started = e ∙ start_on passed_all_lem

    went_on_lem : log_walked bs ≡ w
    went_on_lem = walked_on bs passed_all_lem ∙ ap (walked bs) (sym (ap (λ (s : PlanStart). s.at) started)) ∙ sym d

    walk_number : (log_walked bs).number ≡ w.number
    walk_number = ap (λ (r : Walked). r.number) went_on_lem

    judgement : s.number ≡ judged_plan (set_in true bs) (alloc_in true bs)
    judgement = ap (λ (s : PlanStart). s.number) started

    -- a fault behind the plan's fields
    pub log_fault : w.number ≢ 0 → read_log bs ≡ refused_log w.number
    log_fault some = read_refused bs w.number some (number_walk bs (λ z. some (sym walk_number ∙ z)) ∙ walk_number)

    -- none: the plan's judgement
    pub log_judged : w.number ≡ 0 → s.number ≢ 0 → read_log bs ≡ refused_log s.number
    log_judged z some = read_refused bs s.number some (number_judged bs (walk_number ∙ z) ∙ sym judgement)

    -- nothing is wrong
    pub log_whole : w.number ≡ 0 → s.number ≡ 0 → record { set = s.set; alloc = s.alloc; first = s.at; records = w.records; number = 0 } ≡ read_log bs
    log_whole z none =
        let records : (log_walked bs).records ≡ w.records = ap (λ (r : Walked). r.records) went_on_lem in
        ap (λ (s : PlanStart). record { set = s.set; alloc = s.alloc; first = s.at; records = w.records; number = 0 }) started
        ∙ ap (λ (n : ℕ). record { set = set_in true bs; alloc = alloc_in true bs; first = (scanned true bs).at; records = n; number = 0 }) (sym records)
        ∙ sym (read_accepted bs (number_judged bs (walk_number ∙ z) ∙ sym judgement ∙ none))
