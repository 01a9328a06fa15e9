-- What an inspection compared, rule by rule; and the finding of a log: refused as its reading is, or what the inspection of its records found.
use Rattle.std.proofs.Common.{◌≡◌, ℕ, zero, suc, ◌+◌, ◌%◌, ◌^◌, ◌<◌, ◌≢◌, List, length, sym, refl, ap, ◌∙◌, mod-eq_of_lt, eq-eqb, ne_eqb}
use Rattle.log_records.specs.Entry.{next_entry}
use Rattle.log_records.specs.declared.VisitEntry.{VisitEntry}
use Rattle.logs.specs.Reading.{read_log, handed_from}
use Rattle.logs.specs.declared.ReadLog.{ReadLog}
use Rattle.inspection.specs.Counter.{ticks_between}
use Rattle.inspection.specs.Opening.{begun}
use Rattle.inspection.specs.Records.{inspected_all, inspection_of}
use Rattle.inspection.specs.Findings.{visit_compared, broken_record, finding_of, refused_finding, finding_with, found_in, finding_in}
use Rattle.inspection.specs.declared.Inspection.{Inspection}
use Rattle.inspection.specs.declared.Expected.{Expected}
use Rattle.inspection.specs.declared.Finding.{Finding}

-- ---- the record that is named

-- it stands behind those that keep every rule
pub named : (s : Inspection) (number : ℕ) → s.rule ≢ 0 → number ≡ (s.records + 1) % 2 ^ 64 → number ≡ broken_record s
unfolding broken_record
named s number n is = rw (ne_eqb s.rule 0 n) is

-- and it is counted in 64 bits
pub one_named : (s : Inspection) → s.rule ≢ 0 → s.records + 1 < 2 ^ 64 → broken_record s ≡ s.records + 1
one_named s n small = sym (named s (s.records + 1) n (sym (mod-eq_of_lt small)))

-- none does
pub none_named : (s : Inspection) → s.rule ≡ 0 → broken_record s ≡ 0
unfolding broken_record
none_named s z = rw (eq-eqb s.rule 0 z)

-- ---- the finding of a log

-- as many entries are handed out as were asked for
pub handed_length : (n : ℕ) (bs : List ℕ) (a : ℕ) → length (handed_from n bs a) ≡ n
unfolding handed_from
handed_length zero bs a = refl
handed_length (suc n) bs a = ap suc (handed_length n bs (next_entry bs a).next)

pub finding_refused : (k : ℕ) (f : Finding) → k ≢ 0 → finding_with k f ≡ refused_finding k
unfolding finding_with
finding_refused zero f n = absurd (n refl)
finding_refused (suc k) f n = refl

pub finding_read : (k : ℕ) (f : Finding) → k ≡ 0 → finding_with k f ≡ f
unfolding finding_with
finding_read k f z = rw z

module _ (bs : List ℕ) (read : ReadLog) (is : read ≡ read_log bs) where
  pub refused_in : read.number ≢ 0 → refused_finding read.number ≡ finding_in bs
  refused_in n = sym (finding_refused read.number (found_in bs) n) ∙ ap (λ (x : ReadLog). finding_with x.number (found_in bs)) is

  pub found_in_lem : (b s : Inspection) → read.number ≡ 0 → b ≡ begun read.set read.alloc → s ≡ inspected_all b read.set read.alloc (handed_from read.records bs read.first)
      → finding_of s read.records ≡ finding_in bs
  found_in_lem b s z began over =
      let found : s ≡ inspection_of read.set read.alloc (handed_from read.records bs read.first) =
      over ∙ ap (λ (x : Inspection). inspected_all x read.set read.alloc (handed_from read.records bs read.first)) began in
      let number : (read_log bs).number ≡ 0 = sym (ap (λ (x : ReadLog). x.number) is) ∙ z in
      ap (λ (x : Inspection). finding_of x read.records) found ∙
      ap (λ (x : ReadLog). finding_of (inspection_of x.set x.alloc (handed_from x.records bs x.first)) x.records) is ∙ sym (finding_read (read_log bs).number (found_in bs) number)

-- ---- the numbers that were compared, by the rule's number

module _ (x : Expected) (v : VisitEntry) (k : ℕ) where
  pub station_compared : k ≡ 1 → visit_compared k x v ≡ record { expected = x.station; found = v.station }
  unfolding visit_compared
  station_compared is = rw is

  pub start_compared : k ≡ 2 → visit_compared k x v ≡ record { expected = x.span; found = ticks_between x.last v.start }
  unfolding visit_compared
  start_compared is = rw is

  pub limit_compared : k ≡ 3 → visit_compared k x v ≡ record { expected = x.limit; found = v.limit }
  unfolding visit_compared
  limit_compared is = rw is

  pub synchronous_compared : k ≡ 4 → visit_compared k x v ≡ record { expected = x.share; found = v.synchronous }
  unfolding visit_compared
  synchronous_compared is = rw is

  pub asynchronous_compared : k ≢ 1 → k ≢ 2 → k ≢ 3 → k ≢ 4 → visit_compared k x v ≡ record { expected = x.limit; found = v.asynchronous }
  unfolding visit_compared
  asynchronous_compared n₁ n₂ n₃ n₄ = rw (ne_eqb k 1 n₁, ne_eqb k 2 n₂, ne_eqb k 3 n₃, ne_eqb k 4 n₄)
