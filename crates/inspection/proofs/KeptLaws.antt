-- One record on lent arrays, by the first rule that it breaks; and an inspection that a host keeps: how it begins, and what a record makes of it.
use Rattle.std.proofs.Common.{◌≡◌, ℕ, zero, suc, ◌≢◌, List, sym, refl, ap, ◌∙◌, eq-eqb, ne_eqb}
use Rattle.sets.specs.Judged.{zeros}
use Rattle.sets.specs.Lent.{set_of}
use Rattle.sets.specs.declared.Head.{Head}
use Rattle.sets.specs.declared.Set.{Set}
use Rattle.plans.specs.Lent.{alloc_of}
use Rattle.plans.specs.declared.Alloc.{Alloc}
use Rattle.log_records.specs.Visit.{visit_tag}
use Rattle.log_records.specs.declared.Entry.{Entry}
use Rattle.log_records.specs.declared.Entry.TheVariants.{Visit, Mark}
use Rattle.inspection.specs.Rules.{expected, broken_rule}
use Rattle.inspection.specs.Records.{moved_on, stopped_at, inspected}
use Rattle.inspection.specs.Findings.{compared_by, compared}
use Rattle.inspection.specs.Kept.{none_compared, compared_where, SteppedOn, kept_of, set_in, alloc_in, inspection_in, course_in, keeping, blank_kept, begun_with, entry_of, record_number, recorded_with, compared_at, answer_of, next_of, record_finding, refused_record, answered_with, InspectedOn}
use Rattle.inspection.specs.declared.Inspection.{Inspection}
use Rattle.inspection.specs.declared.Expected.{Expected}
use Rattle.inspection.specs.declared.Compared.{Compared}
use Rattle.inspection.specs.declared.LogEntry.{LogEntry}
use Rattle.inspection.specs.declared.KeptInspection.{KeptInspection}
use Rattle.inspection.specs.declared.KeptNext.{KeptNext}
use Rattle.inspection.specs.declared.RecordFinding.{RecordFinding}
use Rattle.inspection.proofs.RecordLaws.{moved_rule, inspected_stays, inspected_stops, inspected_moves}

-- ---- one record on lent arrays

compared_broken : (k : ℕ) (x : Compared) → k ≢ 0 → compared_where k x ≡ x
unfolding compared_where
compared_broken zero x n = absurd (n refl)
compared_broken (suc k) x n = refl

compared_none : (k : ℕ) (x : Compared) → k ≡ 0 → compared_where k x ≡ none_compared
unfolding compared_where
compared_none k x z = rw z

module _ (s : Inspection) (head : Head) (n : ℕ) (w shares : List ℕ) (e : Entry) (none : s.rule ≡ 0) (due : Expected)
    (asks : (c d p : List ℕ) → due ≡ expected s (set_of head n w c d p) (alloc_of shares)) (rule : ℕ) (is : rule ≡ broken_rule due e) where
  breaks : (c d p : List ℕ) → rule ≡ broken_rule (expected s (set_of head n w c d p) (alloc_of shares)) e
  breaks c d p = is ∙ ap (λ (x : Expected). broken_rule x e) (asks c d p)

  -- it breaks a rule: nothing moves
  pub step_stops : rule ≢ 0 → (x : Compared) → x ≡ compared_by rule due e → SteppedOn s head n w shares e (stopped_at s rule) x
  step_stops broken x says =
      record {
        moved = λ c d p. sym (inspected_stops s (set_of head n w c d p) (alloc_of shares) e none rule (breaks c d p) broken);
        compared = λ c d p. says ∙ ap (λ (y : Expected). compared_by rule y e) (asks c d p) ∙ sym (compared_broken rule _ broken);
      }

  -- it keeps them all: the inspection moves on
  pub step_moves : rule ≡ 0 → (next : Inspection) → ((c d p : List ℕ) → next ≡ moved_on s (set_of head n w c d p) (alloc_of shares) e) → SteppedOn s head n w shares e next none_compared
  step_moves kept next on =
      let still : next.rule ≡ 0 = ap (λ (x : Inspection). x.rule) (on zeros zeros zeros) ∙ moved_rule s (set_of head n w zeros zeros zeros) (alloc_of shares) e ∙ none in
      record {
        moved = λ c d p. on c d p ∙ sym (inspected_moves s (set_of head n w c d p) (alloc_of shares) e none (sym (breaks c d p) ∙ kept));
        compared = λ c d p. sym (compared_none next.rule _ still);
      }

-- ---- an inspection begins

pub begun_refused : (k : ℕ) (i : KeptInspection) → k ≢ 0 → begun_with k i ≡ record { inspection = blank_kept; number = k }
unfolding begun_with
begun_refused zero i n = absurd (n refl)
begun_refused (suc k) i n = refl

pub begun_accepted : (k : ℕ) (i : KeptInspection) → k ≡ 0 → begun_with k i ≡ record { inspection = i; number = 0 }
unfolding begun_with
begun_accepted k i z = rw z

-- ---- a record that is handed in

-- by its kind it is a visit, or a mark
pub entry_visit : (x : LogEntry) → x.kind ≡ visit_tag → Visit x.visit ≡ entry_of x
unfolding entry_of
entry_visit x is = rw (eq-eqb x.kind visit_tag is) refl

pub entry_mark : (x : LogEntry) → x.kind ≢ visit_tag → Mark x.mark ≡ entry_of x
unfolding entry_of
entry_mark x other = rw (ne_eqb x.kind visit_tag other) refl

recorded_refused : (k : ℕ) (i : KeptInspection) (e : Entry) → k ≢ 0 → recorded_with k i e ≡ i
unfolding recorded_with
recorded_refused zero i e n = absurd (n refl)
recorded_refused (suc k) i e n = refl

answered_refused : (k : ℕ) (i : KeptInspection) (e : Entry) → k ≢ 0 → answered_with k i e ≡ refused_record k
unfolding answered_with
answered_refused zero i e n = absurd (n refl)
answered_refused (suc k) i e n = refl

pub recorded_accepted : (k : ℕ) (i : KeptInspection) (e : Entry) → k ≡ 0 → recorded_with k i e ≡ keeping (set_in i) (alloc_in i) (inspected (inspection_in i) (set_in i) (alloc_in i) e)
unfolding recorded_with
recorded_accepted k i e z = rw z

pub answered_accepted : (k : ℕ) (i : KeptInspection) (e : Entry) → k ≡ 0 → answered_with k i e ≡ record_finding (inspection_in i) (set_in i) (alloc_in i) e
unfolding answered_with
answered_accepted k i e z = rw z

module _ (s s' : Inspection) (t : Set) (a : Alloc) (e : Entry) where
  compared_behind : s.rule ≢ 0 → compared_at s s' t a e ≡ none_compared
  unfolding compared_at
  compared_behind n = rw (ne_eqb s.rule 0 n) refl

  compared_now : s.rule ≡ 0 → compared_at s s' t a e ≡ compared_where s'.rule (compared s' t a e)
  unfolding compared_at
  compared_now z = rw (eq-eqb s.rule 0 z) refl

module _ (i : KeptInspection) (x : LogEntry) (number : ℕ) (is : number ≡ record_number i.n x) where
  -- it is refused
  pub record_refused : number ≢ 0 → (answer : RecordFinding) → answer ≡ refused_record number → InspectedOn i x i (record { progress = i.progress; number = number; answer = answer })
  record_refused n answer says =
      let bad : record_number i.n x ≢ 0 = λ z. n (is ∙ z) in
      record {
        kept = sym (recorded_refused (record_number i.n x) i (entry_of x) bad);
        answered = says ∙ ap refused_record is ∙ sym (answered_refused (record_number i.n x) i (entry_of x) bad);
        number = sym (ap (λ (y : RecordFinding). y.number) says);
      }

  -- it is accepted: the inspection behind it, with what was compared, is kept and answered
  record_taken : number ≡ 0 → (s : Inspection) (y : Compared) → let now = inspection_in i in s ≡ inspected now (set_in i) (alloc_in i) (entry_of x)
      → y ≡ compared_at now s (set_in i) (alloc_in i) (entry_of x) → (r : KeptNext) → r ≡ next_of s.course s.records s.rule y
      → InspectedOn i x (kept_of i.w i.s s.base s.sent s.mark i.head i.n r.progress) r
  record_taken z s y goes says r gives =
      let good : record_number i.n x ≡ 0 = sym is ∙ z in
      rw gives
      (record {
        kept = ap (λ (t : Inspection). keeping (set_in i) (alloc_in i) t) goes ∙ sym (recorded_accepted _ i (entry_of x) good);
        answered = ap (λ (c : Compared). answer_of s.records s.rule c) says
            ∙ ap (λ (t : Inspection). answer_of t.records t.rule (compared_at (inspection_in i) t (set_in i) (alloc_in i) (entry_of x))) goes
            ∙ sym (answered_accepted _ i (entry_of x) good);
        number = refl;
      })

  -- a rule was broken before: nothing is looked at
  pub record_behind : number ≡ 0 → i.progress.rule ≢ 0 → (r : KeptNext) → r ≡ next_of (course_in i.progress) i.progress.records i.progress.rule none_compared
      → InspectedOn i x (kept_of i.w i.s i.base i.sent i.mark i.head i.n r.progress) r
  record_behind z broken r gives =
      record_taken z (inspection_in i) none_compared (sym (inspected_stays (inspection_in i) (set_in i) (alloc_in i) (entry_of x) broken))
      (sym (compared_behind (inspection_in i) (inspection_in i) (set_in i) (alloc_in i) (entry_of x) broken)) r gives

  -- none was: it is one record more
  pub record_stepped : number ≡ 0 → i.progress.rule ≡ 0 → (was s : Inspection) (e : Entry) (y : Compared) → was ≡ inspection_in i → e ≡ entry_of x
      → SteppedOn was i.head i.n i.w i.s e s y → (r : KeptNext) → r ≡ next_of s.course s.records s.rule y
      → InspectedOn i x (kept_of i.w i.s s.base s.sent s.mark i.head i.n r.progress) r
  record_stepped z none was s e y same entry on r gives =
      record_taken z s y
      (on.moved zeros zeros zeros ∙ ap (λ (t : Inspection). inspected t (set_in i) (alloc_in i) e) same ∙ ap (inspected (inspection_in i) (set_in i) (alloc_in i)) entry)
      (on.compared zeros zeros zeros ∙ ap (λ (f : Entry). compared_where s.rule (compared s (set_in i) (alloc_in i) f)) entry ∙ sym (compared_now (inspection_in i) s (set_in i) (alloc_in i) (entry_of x) none)) r gives
