-- All bytes of a log, inspected: the number is that of its reading, and the records are those that its reading hands out.
use Prim.Native.Nat.{ℕ, ◌+◌, ◌^◌, ◌<◌}
use mathlib.Core.Path.{◌≡◌, refl, sym, ap, ◌∙◌}
use mathlib.Core.Bool.{Bool, true, false}
use mathlib.Core.List.{List, [], ◌∷◌, ◌++◌}
use mathlib.Core.Logic.{◌≢◌, ⊎_elim}
use native.Mathlib.Omega.{arith}
use lib.ListN.{length, drop, length-append}
use lib.Seq.{drop-append-le}
use Rattle.units.proofs.JudgingLaws.{true_or_false}
use Rattle.sets.specs.declared.Set.{Set}
use Rattle.plans.specs.declared.Alloc.{Alloc}
use Rattle.log_records.specs.declared.Entry.{Entry}
use Rattle.field_reader.proofs.ScannedLaws.{zero_or_not}
use Rattle.sheets.specs.Reading.{then_number, plan_start}
use Rattle.sheets.proofs.ReadLaws.{then_rest, then_keeps, then_none}
use Rattle.sheets.specs.declared.PlanStart.{PlanStart}
use Rattle.sheets.proofs.FirstLaws.{stays, start_same, start_inside}
use Rattle.logs.specs.Walked.{walked}
use Rattle.logs.specs.Reading.{read_log, handed_from, entries_in}
use Rattle.logs.specs.declared.ReadLog.{ReadLog}
use Rattle.logs.specs.declared.Walked.{Walked}
use Rattle.logs.proofs.WalkLaws.{not_all_fault}
use Rattle.logs.proofs.ReadingLaws.{start_says, log_not_all, log_fault, log_judged, log_whole}
use Rattle.log_stream.specs.Pieces.{nothing_read, faulty, number_of, read_over, handed_over}
use Rattle.log_stream.specs.declared.Gathered.{Gathered}
use Rattle.log_stream.proofs.FieldLaws.{read_append, handed_append, read_stopped}
use Rattle.log_stream.proofs.WholeLaws.{whole_read}
use Rattle.inspection.specs.Opening.{begun}
use Rattle.inspection.specs.Records.{inspection_of}
use Rattle.inspection.specs.Findings.{broken_record, found_in, finding_in}
use Rattle.inspection.specs.declared.Inspection.{Inspection}
use Rattle.inspection.specs.declared.Finding.{Finding}
use Rattle.inspection.proofs.FindingLaws.{one_named, handed_length, finding_read}
use Rattle.inspection_stream.specs.Inspecting.{none_looked, looked_all, gathered_from, inspect_from, inspect_over, inspect_start, inspect_number}
use Rattle.inspection_stream.specs.Promised.{Enough, Breaks, Refused}
use Rattle.inspection_stream.specs.declared.Looked.{Looked}
use Rattle.inspection_stream.specs.declared.Inspecting.{Inspecting}
use Rattle.inspection_stream.proofs.LookLaws.{look_append, all_inspects, broken_from, all_counted}

-- ---- pieces

-- what is kept, under other names
pub kept_as : (s : PlanStart) {v w : Gathered} {l m : Looked} → v ≡ w → l ≡ m → ◌≡◌ {A = Inspecting} (record { start = s; gathered = v; looked = l }) (record { start = s; gathered = w; looked = m })
kept_as s p q = rw (p, q) refl

pub over_append : (k : Inspecting) (first rest : List ℕ) → inspect_over k (first ++ rest) ≡ inspect_over (inspect_over k first) rest
over_append k first rest =
    let t = k.start.set in
    let a = k.start.alloc in
    let l = k.looked in
    let read = read_append k.gathered first rest in
    let handed : looked_all t a l (handed_over k.gathered (first ++ rest)) ≡ looked_all t a (looked_all t a l (handed_over k.gathered first)) (handed_over (read_over k.gathered first) rest) =
    ap (looked_all t a l) (handed_append k.gathered first rest) ∙ look_append t a l (handed_over k.gathered first) (handed_over (read_over k.gathered first) rest) in
    kept_as k.start read handed

-- first bytes that are enough give the plan
pub start_stays : (head rest : List ℕ) → Enough head rest → plan_start (head ++ rest) ≡ plan_start head
start_stays head rest enough = stays plan_start _ head rest enough (λ l. start_same head rest (omega arith))

pub first_then : (head rest : List ℕ) → Enough head rest → inspect_over (inspect_start head) rest ≡ inspect_start (head ++ rest)
first_then head rest enough =
    let s = plan_start head in
    sym (over_append (inspect_from s) (drop s.at head) rest)
    ∙ ap (inspect_over (inspect_from s)) (sym (drop-append-le s.at head rest (start_inside head)))
    ∙ ap (λ (x : PlanStart). inspect_over (inspect_from x) (drop x.at (head ++ rest))) (sym (start_stays head rest enough))

-- ---- before the first byte of the records

module _ (passed : Bool) (number : ℕ) where
  pub from_passed : passed ≡ true → gathered_from passed number ≡ nothing_read
  unfolding gathered_from
  from_passed h = rw h refl

  pub from_not : passed ≡ false → gathered_from passed number ≡ faulty nothing_read number
  unfolding gathered_from
  from_not h = rw h refl

  pub from_fault : (v : Gathered) → v ≡ nothing_read → passed ≡ false → faulty v number ≡ gathered_from passed number
  from_fault v e h = ap (λ (w : Gathered). faulty w number) e ∙ sym (from_not h)

-- ---- a plan whose fields have not all passed

stopped_number : (k : ℕ) (bs : List ℕ) → k ≢ 0 → number_of (read_over (faulty nothing_read k) bs) ≡ k
stopped_number k bs some = ap number_of (read_stopped (faulty nothing_read k) bs some) ∙ then_keeps k _ some

module _ (bs : List ℕ) where
  -- it has a number
  not_passed_fault : (plan_start bs).passed ≡ false → (plan_start bs).number ≢ 0
  unfolding plan_start
  not_passed_fault e =
      let h = sym (start_says bs) ∙ e in
      rw h (not_all_fault bs h)

  number_not : (plan_start bs).passed ≡ false → inspect_number (inspect_start bs) ≡ (read_log bs).number
  number_not h =
      let k = (plan_start bs).number in
      let some : (plan_start bs).number ≢ 0 = not_passed_fault h in
      let number : number_of (inspect_start bs).gathered ≡ (plan_start bs).number =
      ap (λ (v : Gathered). number_of (read_over v (drop (plan_start bs).at bs))) (from_not (plan_start bs).passed k h) ∙ stopped_number k (drop (plan_start bs).at bs) some in
      ap (λ (n : ℕ). then_number n k) number ∙ then_keeps k k some ∙ sym (ap (λ (r : ReadLog). r.number) (log_not_all bs (plan_start bs) refl h))

-- ---- all fields of the plan have passed

module _ (bs : List ℕ) (h : (plan_start bs).passed ≡ true) where
  abbrev w : Walked
  w = walked bs (plan_start bs).at

  from : gathered_from (plan_start bs).passed (plan_start bs).number ≡ nothing_read
  from = from_passed (plan_start bs).passed (plan_start bs).number h

  number_walked : number_of (inspect_start bs).gathered ≡ w.number
  number_walked = ap (λ (v : Gathered). number_of (read_over v (drop (plan_start bs).at bs))) from ∙ (whole_read bs (plan_start bs).at (start_inside bs)).ends

  number_passed : inspect_number (inspect_start bs) ≡ (read_log bs).number
  number_passed =
      let s = plan_start bs in
      ap (λ (n : ℕ). then_number n s.number) number_walked
      ∙ ⊎_elim (λ (z : w.number ≡ 0).
      then_rest w.number s.number z
      ∙ ⊎_elim (λ (y : s.number ≡ 0). y ∙ ap (λ (r : ReadLog). r.number) (log_whole bs s refl h w refl z y))
      (λ (some : s.number ≢ 0). sym (ap (λ (r : ReadLog). r.number) (log_judged bs s refl h w refl z some)))
      (zero_or_not s.number))
      (λ (some : w.number ≢ 0). then_keeps w.number s.number some ∙ sym (ap (λ (r : ReadLog). r.number) (log_fault bs s refl h w refl some)))
      (zero_or_not w.number)

  -- the records are those between the plan and the end
  handed_all_lem : handed_over (gathered_from (plan_start bs).passed (plan_start bs).number) (drop (plan_start bs).at bs) ≡ handed_from w.records bs (plan_start bs).at
  handed_all_lem = ap (λ (v : Gathered). handed_over v (drop (plan_start bs).at bs)) from ∙ (whole_read bs (plan_start bs).at (start_inside bs)).hands

-- ---- either way

pub number_whole : (bs : List ℕ) → inspect_number (inspect_start bs) ≡ (read_log bs).number
number_whole bs = ⊎_elim (number_passed bs) (number_not bs) (true_or_false (plan_start bs).passed)

-- ---- behind a fault

then_fault : (k j : ℕ) → k ≢ 0 → then_number k j ≢ 0
then_fault k j some = λ z. some (sym (then_keeps k j some) ∙ z)

pub fault_stays : (k : Inspecting) (bs : List ℕ) → k.gathered.number ≢ 0 → Refused k bs
fault_stays k bs n = (
  omega (arith, ap (λ (v : Gathered). then_number (number_of v) k.start.number) (read_stopped k.gathered bs n)),
  then_fault (number_of k.gathered) k.start.number (then_fault k.gathered.number _ n),
)

-- ---- a log that is read

-- what its plan and its records are inspected to
abbrev looks : List ℕ → Set → Alloc → Looked
looks bs t a = looked_all t a (none_looked t a) (entries_in bs)

module _ (bs : List ℕ) (z : (read_log bs).number ≡ 0) where
  passed : (plan_start bs).passed ≡ true
  passed =
      ⊎_elim (λ h. h)
      (λ (h : (plan_start bs).passed ≡ false). absurd (not_passed_fault bs h (sym (ap (λ (r : ReadLog). r.number) (log_not_all bs (plan_start bs) refl h)) ∙ z)))
      (true_or_false (plan_start bs).passed)

  both : ((walked bs (plan_start bs).at).number ≡ 0) × ((plan_start bs).number ≡ 0)
  both = then_none (walked bs (plan_start bs).at).number (plan_start bs).number (sym (ap (λ (n : ℕ). then_number n (plan_start bs).number) (number_walked bs passed)) ∙ number_whole bs ∙ z)

  was_read : record { set = (plan_start bs).set; alloc = (plan_start bs).alloc; first = (plan_start bs).at; records = (walked bs (plan_start bs).at).records; number = 0 } ≡ read_log bs
  was_read = log_whole bs (plan_start bs) refl passed (walked bs (plan_start bs).at) refl both.0 both.1

  -- the records that are handed out on the way are all of its records
  pub handed_read : handed_over (inspect_from (plan_start bs)).gathered (drop (plan_start bs).at bs) ≡ entries_in bs
  handed_read = handed_all_lem bs passed ∙ ap (λ (r : ReadLog). handed_from r.records bs r.first) was_read

  pub plan_read_lem : ((inspect_start bs).start.set ≡ (read_log bs).set) × ((inspect_start bs).start.alloc ≡ (read_log bs).alloc)
  plan_read_lem = (ap (λ (r : ReadLog). r.set) was_read, ap (λ (r : ReadLog). r.alloc) was_read)

  pub looked_read : (inspect_start bs).looked ≡ looks bs (read_log bs).set (read_log bs).alloc
  looked_read =
      let t = (plan_start bs).set in
      let a = (plan_start bs).alloc in
      ap (looked_all t a (none_looked t a)) handed_read
      ∙ ap (λ (r : ReadLog). looked_all r.set r.alloc (none_looked r.set r.alloc) (entries_in bs)) was_read

  pub inspection_read : (inspect_start bs).looked.inspection ≡ inspection_of (read_log bs).set (read_log bs).alloc (entries_in bs)
  inspection_read =
      let t = (read_log bs).set in
      let a = (read_log bs).alloc in
      ap (λ (l : Looked). l.inspection) looked_read ∙ all_inspects t a (none_looked t a) (entries_in bs)

  found : finding_in bs ≡ found_in bs
  found = finding_read (read_log bs).number (found_in bs) z

  pub rule_read : (inspect_start bs).looked.inspection.rule ≡ (finding_in bs).rule
  rule_read = ap (λ (s : Inspection). s.rule) inspection_read ∙ sym (ap (λ (f : Finding). f.rule) found)

  pub record_read : broken_record (inspect_start bs).looked.inspection ≡ (finding_in bs).«record»
  record_read = ap broken_record inspection_read ∙ sym (ap (λ (f : Finding). f.«record») found)

  -- ---- counted

  module _ (few : (finding_in bs).records < 2 ^ 64) where
    records_are : (finding_in bs).records ≡ length (entries_in bs)
    records_are = ap (λ (f : Finding). f.records) found ∙ sym (handed_length (read_log bs).records bs (read_log bs).first)

    pub records_read_lem : (finding_in bs).rule ≡ 0 → (inspect_start bs).looked.inspection.records ≡ (finding_in bs).records
    unfolding begun
    records_read_lem none =
        let t = (read_log bs).set in
        let a = (read_log bs).alloc in
        let kept : (inspection_of t a (entries_in bs)).rule ≡ 0 = sym (ap (λ (f : Finding). f.rule) found) ∙ none in
        let count : (inspection_of t a (entries_in bs)).records ≡ (finding_in bs).records =
        omega (arith, all_counted t a (begun t a) (entries_in bs) kept (omega (arith, records_are)), records_are) in
        ap (λ (s : Inspection). s.records) inspection_read ∙ count

    pub broken_read : (finding_in bs).rule ≢ 0 → Breaks (read_log bs).set (read_log bs).alloc (entries_in bs) (finding_in bs).«record» (inspect_start bs).looked.before (inspect_start bs).looked.last
    unfolding begun
    broken_read some =
        let t = (read_log bs).set in
        let a = (read_log bs).alloc in
        let es = entries_in bs in
        let state = inspection_of t a es in
        let broken : (inspection_of t a es).rule ≢ 0 = λ y. some (ap (λ (f : Finding). f.rule) found ∙ y) in
        let b = broken_from t a (none_looked t a) es refl broken in
        let last : (looks bs t a).last ≡ (inspect_start bs).looked.last = sym (ap (λ (l : Looked). l.last) looked_read) in
        let long : length es ≡ length b.before + length ((looks bs t a).last ∷ b.behind) = ap length b.place ∙ length-append b.before ((looks bs t a).last ∷ b.behind) in
        let counted : (inspection_of t a es).records ≡ length b.before =
        omega (arith, b.counted, all_counted t a (begun t a) b.before b.kept (omega (arith, records_are))) in
        record {
          before = b.before;
          behind = b.behind;
          place = b.place ∙ ap (λ (x : Entry). b.before ++ x ∷ b.behind) last;
          counted = ap (λ (f : Finding). f.«record») found ∙ one_named state broken (omega (arith, records_are)) ∙ omega arith;
          follows = ap (λ (l : Looked). l.before) looked_read ∙ b.follows;
          kept = b.kept;
          broken = λ y. b.broken (ap (λ (x : Entry). (inspection_of t a (b.before ++ (x ∷ []))).rule) last ∙ y);
        }
