-- The promises hold because the text goes by three tests in their order, the third compares the plans, and plans that do not differ inspect the same records alike.
use Prim.Native.Nat.{ℕ, ◌+◌, ◌^◌, ◌≤◌, ◌<◌}
use mathlib.Core.Path.{◌≡◌, refl, sym, ap, subst, ◌∙◌}
use mathlib.Core.Bool.{Bool, true, false, not, false≢true}
use mathlib.Core.List.{List, [], ◌∷◌, ◌++◌}
use mathlib.Core.Logic.{◌≢◌, ◌↔◌, ⊎_elim}
use native.Mathlib.Omega.{arith}
use borrow.Author.Tests.{eqb-true, eqb-false, eq-eqb, ne_eqb, le-leb}
use lib.Dec.{eqb}
use lib.ListN.{length}
use Rattle.units.specs.Numbers.{most_stations}
use Rattle.units.specs.Places.{at}
use Rattle.units.proofs.JudgingLaws.{true_or_false, and-true, true_and}
use Rattle.sets.specs.Rules.{SameSet}
use Rattle.sets.specs.declared.Set.{Set}
use Rattle.plans.specs.Planned.{judged_plan}
use Rattle.plans.proofs.PlanLaws.{given_none}
use Rattle.plans.specs.declared.Alloc.{Alloc}
use Rattle.fields.specs.Bytes.{AllBytes}
use Rattle.sheets.specs.Reading.{read_plan}
use Rattle.sheets.proofs.ReadLaws.{read_few}
use Rattle.sheets.specs.declared.ReadPlan.{ReadPlan}
use Rattle.sheet_rules.proofs.Promised as sheet-rules
use Rattle.log_records.specs.declared.Entry.{Entry}
use Rattle.logs.specs.Reading.{read_log, entries_in}
use Rattle.promises.proofs.Promised as runs
use Rattle.inspection.specs.Records.{inspection_of}
use Rattle.inspection.specs.Findings.{finding_in}
use Rattle.inspection.specs.declared.Inspection.{Inspection}
use Rattle.inspection.specs.declared.Finding.{Finding}
use Rattle.inspection_rules.specs.Gives.{Gives}
use Rattle.inspection_rules.specs.Broken.{FirstBroken}
use Rattle.inspection_rules.specs.Promised.{Recorded}
use Rattle.inspection_rules.proofs.Logs.{found_there, log_plan, log_recorded}
use Rattle.inspection_rules.proofs.Promised as inspections
use Rattle.accepted_log_rules.specs.Shows.{Shows}
use Rattle.accepted_log_rules.proofs.Promised as accepted-logs
use Rattle.text.specs.Text.{line, line_on, decimal_of, decimal_within, refused_word, refused_line, page_size, Printed}
use Rattle.differences.specs.Differences.{Difference, differences, is_same_plan}
use Rattle.differences.proofs.Promised as difference-rules
use Rattle.command_diff.specs.DiffText.{old_word, new_word, lines_of, diff_text, diff_printed}
use Rattle.command_diff.proofs.AnswerLaws.{or_refused, or_accepted}
use Rattle.plan_inspections.specs.PlanFindings.{visits_in, not_inspected, with_visits, plan_finding}
use Rattle.plan_inspections.specs.declared.PlanFinding.{PlanFinding}
use Rattle.plan_inspections.proofs.FindingLaws.{plan_refused_lem as plan-side, log_refused as log-side, another_plan as other-plan, same_plan as no-other-plan}
use Rattle.inspection_stream.specs.Inspecting.{inspect_number, inspect_start}
use Rattle.inspection_stream.specs.declared.Inspecting.{Inspecting}
use Rattle.inspection_stream.proofs.Promised as in_pieces
use Rattle.command_inspect.specs.FindingText.{accepted_line, finding_text, is_accepted}
use Rattle.command_inspect.specs.Promised.{Names}
use Rattle.command_inspect.specs.declared.Found.{Found}
use Rattle.command_inspect.proofs.Promised as texts
use Rattle.command_inspect_plan.specs.InspectText.{plan_word, another_line, is_another, lines_to, another_text, log_text, answer_text, is_kept, is_answered, AnsweredOn}
use Rattle.log_inspection_rules.specs.Promised.{inspect_pieces, ComesIn}
use Rattle.log_inspection_rules.proofs.Promised.{kept_whole}
use Rattle.plan_inspection_rules.specs.Promised.{printed_of, BothRead, SamePlans, differences_to, ListsTo, Kept, another_said, plan_refused, Promised}

-- ---- words

another_worded : another_line ≡ another_said
unfolding line line_on
another_worded = refl

refused_worded : line (plan_word ∷ refused_word ∷ decimal_of 1 ∷ []) ≡ plan_refused
unfolding line line_on decimal_within
refused_worded = refl

-- ---- what the text goes by

module _ (t : Set) (a : Alloc) (k : Inspecting) where
  text_another : is_another t a k ≡ true → log_text t a k ≡ another_text t a k.start.set k.start.alloc
  unfolding log_text
  text_another e = rw e refl

  text_found : is_another t a k ≡ false → log_text t a k ≡ finding_text k
  unfolding log_text
  text_found e = rw e refl

lines_to_lem : (t : Set) (a : Alloc) (u : Set) (b : Alloc) → u.n ≤ 128 → lines_to t a u b ≡ lines_of (differences t a u b)
unfolding lines_to
lines_to_lem t a u b few = rw (le-leb u.n most_stations few) refl

diff_some : (ds : List Difference) → ds ≢ [] → diff_text ds ≡ lines_of ds
unfolding diff_text
diff_some [] n = absurd (n refl)
diff_some (d ∷ ds) n = refl

not-true : (b : Bool) → not b ≡ true → b ≡ false
not-true true e = absurd (false≢true e)
not-true false e = refl

module _ (plan log : List ℕ) where
  abbrev T : Set
  T = (read_plan plan).set

  abbrev A : Alloc
  A = (read_plan plan).alloc

  abbrev U : Set
  U = (read_log log).set

  abbrev B : Alloc
  B = (read_log log).alloc

  abbrev k : Inspecting
  k = inspect_start log

  abbrev es : List Entry
  es = entries_in log

  few : T.n ≤ 128
  few = read_few true plan

  number_is : inspect_number k ≡ (read_log log).number
  number_is = (in_pieces.promised).same_number log

  read_or : ((read_log log).number ≡ 0 → ⊥) → is_another T A k ≡ false
  read_or n = rw (ne_eqb (inspect_number k) 0 (λ z. n (sym number_is ∙ z))) refl

  -- ---- refused

  plan_refused_lem : (read_plan plan).number ≢ 0 → printed_of plan log ≡ line (plan_word ∷ refused_word ∷ decimal_of (read_plan plan).number ∷ [])
  plan_refused_lem n = or_refused plan_word (read_plan plan).number _ n

  log_refused : (read_plan plan).number ≡ 0 → (read_log log).number ≢ 0 → printed_of plan log ≡ refused_line (read_log log).number
  log_refused z n =
      let same : (finding_in log).number ≡ (read_log log).number = ap (λ (f : Finding). f.number) ((inspections.promised).log_refused log n) in
      or_accepted plan_word (read_plan plan).number (log_text T A k) z ∙ text_found T A k (read_or n) ∙ (texts.promised).refused log (λ e. n (sym same ∙ e)) ∙ ap (λ (x : ℕ). refused_line x) same

  -- ---- both are read

  module _ (z : BothRead plan log) where
    as_read : (text : List ℕ) → log_text T A k ≡ text → printed_of plan log ≡ text
    as_read text e = or_accepted plan_word (read_plan plan).number (log_text T A k) z.0 ∙ e

    plan_is : (k.start.set ≡ U) × (k.start.alloc ≡ B)
    plan_is = (in_pieces.promised).same_plan_read log z.1

    -- whether the log's plan is another one
    another_is : is_another T A k ≡ not (is_same_plan T A U B)
    another_is = rw (eq-eqb (inspect_number k) 0 (number_is ∙ z.1), plan_is.0, plan_is.1) refl

    told_same : (is_same_plan T A U B ≡ true) ↔ SamePlans plan log
    told_same = (difference-rules.promised).same_told T A U B few

    is_same_lem : SamePlans plan log → is_another T A k ≡ false
    is_same_lem same = another_is ∙ ap not (told_same.1 same)

    is_other_lem : ¬ SamePlans plan log → is_another T A k ≡ true
    is_other_lem other =
        another_is ∙ ap not (⊎_elim (λ (e : is_same_plan T A U B ≡ true). absurd (other (told_same.0 e))) (λ e. e) (true_or_false (is_same_plan T A U B)))

    as_ever : SamePlans plan log → printed_of plan log ≡ finding_text k
    as_ever same = as_read _ (text_found T A k (is_same_lem same))

    judged : judged_plan T A ≡ 0
    judged = (runs.promised).sheet_judged plan z.0

    module _ (bytes : AllBytes log) (short : length log < 2 ^ 64) where
      many : U.n ≤ 128
      many = ((given_none U B).0 (log_plan log z.1 bytes short)).0.1

      R : Recorded es
      R = log_recorded log z.1 bytes short

      -- ---- another plan

      another_text_lem : ¬ SamePlans plan log → printed_of plan log ≡ another_line ++ lines_of (differences_to plan log)
      another_text_lem other =
          as_read _
          (text_another T A k (is_other_lem other) ∙ ap (λ (u : Set). another_text T A u k.start.alloc) plan_is.0 ∙ ap (λ (b : Alloc). another_text T A U b) plan_is.1
          ∙ ap (λ (xs : List ℕ). another_line ++ xs) (lines_to_lem T A U B many))

      another : ¬ SamePlans plan log → (printed_of plan log ≡ another_line ++ lines_of (differences_to plan log)) × ListsTo plan log (differences_to plan log)
      another other = (another_text_lem other, (difference-rules.promised).lists T A U B few many)

      as_diff : (sheet : List ℕ) → ¬ SamePlans plan log → (read_plan sheet).number ≡ 0 → (read_plan sheet).set ≡ U → (read_plan sheet).alloc ≡ B
          → printed_of plan log ≡ another_line ++ diff_printed plan sheet
      as_diff sheet other y e f =
          let some : differences_to plan log ≢ [] = λ none. other (((difference-rules.promised).none_listed T A U B few many).0 none) in
          let printed : diff_printed plan sheet ≡ diff_text (differences T A (read_plan sheet).set (read_plan sheet).alloc) =
          or_accepted old_word (read_plan plan).number _ z.0 ∙ or_accepted new_word (read_plan sheet).number _ y in
          let same : differences T A (read_plan sheet).set (read_plan sheet).alloc ≡ differences_to plan log = rw (e, f) refl in
          another_text_lem other ∙ ap (λ (xs : List ℕ). another_line ++ xs) (sym (printed ∙ ap diff_text same ∙ diff_some (differences_to plan log) some))

      -- ---- the same plan

      module _ (same : SamePlans plan log) where
        parts : SameSet T U × ((i : ℕ) → i < T.n → at A.s i ≡ at B.s i)
        parts = ((difference-rules.promised).same_plan T A U B).0 same

        -- the records are inspected alike
        states : inspection_of T A es ≡ inspection_of U B es
        states = (inspections.promised).first_places_lem T U A B es ((given_none T A).0 judged).0 parts.0 parts.1

        rule_is : (finding_in log).rule ≡ (inspection_of T A es).rule
        rule_is = ap (λ (f : Finding). f.rule) (found_there log z.1) ∙ ap (λ (s : Inspection). s.rule) (sym states)

        gives_both : ((finding_in log).rule ≡ 0) ↔ Gives T A es
        gives_both =
            let both = (inspections.promised).accepted T A es judged R.starts in
            (λ e. both.0 (sym rule_is ∙ e), λ g. rule_is ∙ both.1 g)

        first_broken : (finding_in log).rule ≢ 0 → FirstBroken T A es (finding_in log).«record» (finding_in log).rule
        first_broken n =
            let plan-log = log_plan log z.1 bytes short in
            let there = ap (λ (f : Finding). f.rule) (found_there log z.1) in
            let own = (inspections.promised).found U B es plan-log R (λ e. n (there ∙ e)) in
            let named = ((inspections.promised).log_found log bytes short z.1).0 n in
            let one = (inspections.promised).one_finding U B es _ _ _ _ plan-log own named in
            let found = (inspections.promised).found T A es judged R (λ e. n (rule_is ∙ e)) in
            subst (λ (x : ℕ). FirstBroken T A es x (finding_in log).rule) (ap (λ (s : Inspection). s.records + 1) states ∙ one.0)
            (subst (λ (x : ℕ). FirstBroken T A es ((inspection_of T A es).records + 1) x) (sym rule_is) found)

        records_are : (finding_in log).records ≡ length es
        records_are = ((inspections.promised).log_read log z.1).1

        number_none : (finding_in log).number ≡ 0
        number_none = ((inspections.promised).log_read log z.1).0

        few_records : (finding_in log).records < 2 ^ 64
        few_records = omega (arith, records_are, R.few)

        said : Gives T A es → printed_of plan log ≡ accepted_line (length es)
        said g = as_ever same ∙ (texts.promised).accepted log number_none few_records (gives_both.1 g) ∙ ap (λ (n : ℕ). accepted_line n) records_are

        broken : ¬ Kept plan log → Names log (printed_of plan log) × FirstBroken T A es (finding_in log).«record» (finding_in log).rule
        broken not_kept =
            let n : (finding_in log).rule ≢ 0 = λ e. not_kept (record { read = z; same = same; gives = gives_both.0 e }) in
            (subst (λ (text : List ℕ). Names log text) (sym (as_ever same)) ((texts.promised).broken log number_none few_records n), first_broken n)

  -- ---- when the log is accepted

  -- a log without a refusal in its finding was read
  was_read : (finding_in log).number ≡ 0 → (read_log log).number ≡ 0
  was_read e =
      ⊎_elim (λ (y : eqb (read_log log).number 0 ≡ true). eqb-true _ 0 y)
      (λ (y : eqb (read_log log).number 0 ≡ false).
      let n = eqb-false (read_log log).number 0 y in
      absurd (n (sym (ap (λ (f : Finding). f.number) ((inspections.promised).log_refused log n)) ∙ e)))
      (true_or_false (eqb (read_log log).number 0))

  module _ (bytes : AllBytes log) (short : length log < 2 ^ 64) where
    accepted : (is_answered (read_plan plan) k ≡ true) ↔ Kept plan log
    accepted = (
      λ e.
          let parts = and-true (eqb (read_plan plan).number 0) (is_kept T A k) e in
          let both = and-true (not (is_another T A k)) (is_accepted k) parts.1 in
          let found = ((texts.promised).status log).0 both.1 in
          let z : BothRead plan log = (eqb-true (read_plan plan).number 0 parts.0, was_read found.0) in
          let own : not (is_same_plan T A U B) ≡ false = sym (another_is z) ∙ not-true (is_another T A k) both.0 in
          let same = (told_same z).0 (⊎_elim (λ y. y) (λ (y : is_same_plan T A U B ≡ false). absurd (false≢true (sym own ∙ ap not y))) (true_or_false (is_same_plan T A U B))) in
          record { read = z; same = same; gives = (gives_both z bytes short same).0 found.1 },
      λ kept.
          let z = kept.read in
          let rule = (gives_both z bytes short kept.same).1 kept.gives in
          true_and (eqb (read_plan plan).number 0) (is_kept T A k) (eq-eqb (read_plan plan).number 0 z.0)
          (true_and (not (is_another T A k)) (is_accepted k) (ap not (is_same_lem z kept.same)) (((texts.promised).status log).1 (number_none z bytes short kept.same, rule))),
    )

-- ---- for a host

module _ (plan log : List ℕ) where
  host_plan : (read_plan plan).number ≢ 0 → plan_finding plan log ≡ not_inspected 1 (read_plan plan).number 0
  host_plan n = sym (plan-side plan log {p = read_plan plan} refl n)

  host_log : (read_plan plan).number ≡ 0 → (read_log log).number ≢ 0 → plan_finding plan log ≡ not_inspected 2 (read_log log).number 0
  host_log z n = sym (log-side plan log {p = read_plan plan} refl {q = read_log log} refl z n)

  module _ (z : BothRead plan log) where
    host_other : is_same_plan (T plan log) (A plan log) (U plan log) (B plan log) ≡ false → plan_finding plan log ≡ not_inspected 0 0 1
    host_other e = sym (other-plan plan log {p = read_plan plan} refl {q = read_log log} refl z.0 z.1 e)

    host_another : ¬ SamePlans plan log → plan_finding plan log ≡ not_inspected 0 0 1
    host_another other =
        host_other
        (⊎_elim (λ (e : is_same_plan (T plan log) (A plan log) (U plan log) (B plan log) ≡ true). absurd (other ((told_same plan log z).0 e))) (λ e. e)
        (true_or_false (is_same_plan (T plan log) (A plan log) (U plan log) (B plan log))))

    host_found : SamePlans plan log → plan_finding plan log ≡ with_visits (finding_in log) (visits_in (entries_in log))
    host_found same =
        sym (no-other-plan plan log {p = read_plan plan} refl {q = read_log log} refl z.0 z.1 ((told_same plan log z).1 same))
        ∙ ap (λ (f : Finding). with_visits f (visits_in (entries_in log))) (sym (found_there log z.1))

  module _ (bytes : AllBytes log) (short : length log < 2 ^ 64) where
    abbrev f : PlanFinding
    f = plan_finding plan log

    host_kept : (f.refused ≡ 0) × (f.another ≡ 0) × (f.rule ≡ 0) → Kept plan log
    host_kept none =
        let read : (read_plan plan).number ≡ 0 =
        ⊎_elim (λ (y : eqb (read_plan plan).number 0 ≡ true). eqb-true _ 0 y)
        (λ (y : eqb (read_plan plan).number 0 ≡ false).
        absurd (omega (arith, none.0, ap (λ (x : PlanFinding). x.refused) (host_plan (eqb-false (read_plan plan).number 0 y)))))
        (true_or_false (eqb (read_plan plan).number 0)) in
        let log_read : (read_log log).number ≡ 0 =
        ⊎_elim (λ (y : eqb (read_log log).number 0 ≡ true). eqb-true _ 0 y)
        (λ (y : eqb (read_log log).number 0 ≡ false).
        absurd (omega (arith, none.0, ap (λ (x : PlanFinding). x.refused) (host_log read (eqb-false (read_log log).number 0 y)))))
        (true_or_false (eqb (read_log log).number 0)) in
        let z : BothRead plan log = (read, log_read) in
        let same : SamePlans plan log =
        (told_same plan log z).0
        (⊎_elim (λ y. y)
        (λ (y : is_same_plan (T plan log) (A plan log) (U plan log) (B plan log) ≡ false).
        absurd (omega (arith, none.1, ap (λ (x : PlanFinding). x.another) (host_other z y))))
        (true_or_false (is_same_plan (T plan log) (A plan log) (U plan log) (B plan log)))) in
        record { read = z; same = same; gives = (gives_both plan log z bytes short same).0 (sym (ap (λ (x : PlanFinding). x.rule) (host_found z same)) ∙ none.2) }

    kept_host : Kept plan log → (f.refused ≡ 0) × (f.another ≡ 0) × (f.rule ≡ 0)
    kept_host kept =
        let is = host_found kept.read kept.same in (
          ap (λ (x : PlanFinding). x.refused) is,
          ap (λ (x : PlanFinding). x.another) is,
          ap (λ (x : PlanFinding). x.rule) is ∙ (gives_both plan log kept.read bytes short kept.same).1 kept.gives,
        )

-- ---- a log in pieces

module _ (plan log first : List ℕ) (pieces : List (List ℕ)) (comes : ComesIn log first pieces) where
  whole : inspect_pieces (inspect_start first) pieces ≡ inspect_start log
  whole = kept_whole log first pieces comes

  as_whole : answer_text (read_plan plan) (inspect_pieces (inspect_start first) pieces) ≡ printed_of plan log
  as_whole = ap (λ (x : Inspecting). answer_text (read_plan plan) x) whole

  told : {before after : List ℕ} {r : Found} → AllBytes log → length log < 2 ^ 64 → AnsweredOn (read_plan plan) (inspect_pieces (inspect_start first) pieces) before after r
      → page_size ≤ length before → ((r.accepted ≡ true) ↔ Kept plan log) × Printed (printed_of plan log) before after r.length
  told {before} {after} {r} bytes short answered large =
      let on : AnsweredOn (read_plan plan) (inspect_start log) before after r = subst (λ (x : Inspecting). AnsweredOn (read_plan plan) x before after r) whole answered in
      let is : r.accepted ≡ is_answered (read_plan plan) (inspect_start log) = rw (le-leb page_size (length before) large) at on.accepted in
      let both = accepted plan log bytes short in
      ((λ e. both.0 (sym is ∙ e), λ kept. is ∙ both.1 kept), on.printed)

-- ---- what the records show

kept_shows : (plan log : List ℕ) → Kept plan log → Shows (read_plan plan).set (read_plan plan).alloc (entries_in log)
kept_shows plan log kept = (accepted-logs.promised).shown _ _ _ (judged plan log kept.read) kept.gives

pub promised : Promised
promised =
    record {
      plan_refused_lem = plan_refused_lem;
      log_refused = log_refused;
      another = λ plan log bytes short z. another plan log z bytes short;
      as_diff = λ plan log sheet bytes short z. as_diff plan log z bytes short sheet;
      as_ever = as_ever;
      another_worded = another_worded;
      refused_worded = refused_worded;
      accepted = accepted;
      said = λ plan log bytes short kept. said plan log kept.read bytes short kept.same kept.gives;
      shows = kept_shows;
      broken = λ plan log bytes short z. broken plan log z bytes short;
      pieces = as_whole;
      told = λ plan log first pieces before after r bytes short comes answered large. told plan log first pieces comes bytes short answered large;
      host_plan_refused = host_plan;
      host_log_refused = host_log;
      host_another = host_another;
      host_found = host_found;
      host_accepted = λ plan log bytes short. (host_kept plan log bytes short, kept_host plan log bytes short);
      enough_read = λ plan log n l. ap (λ (p : ReadPlan). answer_text p (inspect_start log)) ((sheet-rules.promised).plan_read_lem n l plan);
    }
