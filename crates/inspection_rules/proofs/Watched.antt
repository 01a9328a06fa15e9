-- An inspection that is kept is the log's: a record that a log holds is accepted, what is kept of a plan is all that a record is held to, and an inspection comes back from its numbers.
use Prim.Native.Nat.{ℕ, zero, suc}
use mathlib.Core.Path.{◌≡◌, refl, sym, ap, ◌∙◌}
use mathlib.Core.Bool.{Bool, true, false, cond}
use mathlib.Core.List.{List, [], ◌∷◌, ◌++◌}
use borrow.Author.Tests.{lt-ltb}
use lib.Dec.{eqb}
use Rattle.units.proofs.JudgingLaws.{held, true_and, decides_between}
use Rattle.fields.specs.Bytes.{AllBytes}
use Rattle.sets.specs.Judged.{zeros}
use Rattle.sets.specs.Lent.{set_of}
use Rattle.sets.specs.declared.Set.{Set}
use Rattle.plans.specs.Planned.{judged_plan}
use Rattle.plans.proofs.PlanLaws.{given_none}
use Rattle.plans.specs.declared.Alloc.{Alloc}
use Rattle.log_records.specs.Entry.{EntryFits}
use Rattle.log_records.specs.declared.Entry.{Entry}
use Rattle.log_records.specs.declared.Entry.TheVariants.{Visit, Mark}
use Rattle.rings.specs.Timers.{lead}
use Rattle.logs.specs.Layout.{AllFit}
use Rattle.logs.specs.Reading.{read_log, entries_in}
use Rattle.log_rules.proofs.Promised.{promised as logs-promised}
use Rattle.inspection.specs.Opening.{begun}
use Rattle.inspection.specs.Rules.{expected, broken_rule}
use Rattle.inspection.specs.Records.{visited_on, moved_on, judged, inspected, inspected_all, inspection_of}
use Rattle.inspection.specs.Findings.{finding_of}
use Rattle.inspection.specs.Kept.{standing, set_in, alloc_in, inspection_in, keeping, inspection_begun, is_record, entry_of, told_of, in_field, record_number, recorded, compared_at, answer_of, record_finding, answered}
use Rattle.inspection.specs.declared.Inspection.{Inspection}
use Rattle.inspection.specs.declared.KeptInspection.{KeptInspection}
use Rattle.inspection.specs.declared.BegunInspection.{BegunInspection}
use Rattle.inspection.proofs.KeptLaws.{begun_accepted, recorded_accepted, answered_accepted}
use Rattle.inspection_rules.specs.Watched.{handed_all, Watched}
use Rattle.inspection_rules.proofs.Logs.{found_there}

-- ---- an inspection comes back from its numbers

first_back : (b : Bool) → eqb (cond b 0 1) 0 ≡ b
first_back true = refl
first_back false = refl

comes_back : (t : Set) (a : Alloc) (s : Inspection) → inspection_in (keeping t a s) ≡ s
comes_back t a s =
    let c = s.course in
    λ i. standing s.base s.sent s.mark (record { token = c.token; clock = c.clock; unused = c.unused; first = first_back c.first i; start = c.start; span = c.span }) s.records s.rule

-- ---- C, D and P have no part in a record

abbrev bare : Set → Set
bare t = set_of t.head t.n t.w zeros zeros zeros

moved_bare : (s : Inspection) (t : Set) (a : Alloc) (e : Entry) → moved_on s (bare t) a e ≡ moved_on s t a e
unfolding visited_on lead
moved_bare s t a (Visit v) = refl
moved_bare s t a (Mark m) = refl

judged_bare : (k : ℕ) (s : Inspection) (t : Set) (a : Alloc) (e : Entry) → judged k s (bare t) a e ≡ judged k s t a e
unfolding judged
judged_bare zero s t a e = moved_bare s t a e
judged_bare (suc k) s t a e = refl

inspected_bare : (s : Inspection) (t : Set) (a : Alloc) (e : Entry) → inspected s (bare t) a e ≡ inspected s t a e
unfolding inspected
inspected_bare s t a e = ap (λ (x : Inspection). cond (eqb s.rule 0) x s) (judged_bare (broken_rule (expected s t a) e) s t a e)

-- ---- a record that a log holds is accepted

told_back : (e : Entry) (next : ℕ) → entry_of (told_of e next) ≡ e
unfolding entry_of told_of
told_back (Visit v) next = refl
told_back (Mark m) next = refl

told_known : (e : Entry) (next : ℕ) → is_record (told_of e next) ≡ true
unfolding told_of
told_known (Visit v) next = refl
told_known (Mark m) next = refl

fits_field : (e : Entry) → EntryFits e → in_field e ≡ true
unfolding in_field
fits_field (Visit v) fits = lt-ltb v.station 256 fits.station
fits_field (Mark m) fits = true_and _ _ (lt-ltb m.station 256 fits.station) (lt-ltb m.mark 256 fits.mark)

module _ (t : Set) (a : Alloc) (h : judged_plan t a ≡ 0) where
  none : (e : Entry) (next : ℕ) → EntryFits e → record_number t.n (told_of e next) ≡ 0
  unfolding record_number
  none e next fits =
      held _ _ _ ((decides_between 1 128 t.n).1 ((given_none t a).0 h).0) ∙ held _ _ _ (told_known e next) ∙ held _ _ _ (ap in_field (told_back e next) ∙ fits_field e fits)

  -- of what is kept: one record more is the inspection's
  behind : (s : Inspection) (e : Entry) (next : ℕ) → let k = keeping t a s in inspected (inspection_in k) (set_in k) (alloc_in k) (entry_of (told_of e next)) ≡ inspected s t a e
  behind s e next =
      ap (λ (x : Inspection). inspected x (bare t) a (entry_of (told_of e next))) (comes_back t a s) ∙ ap (inspected s (bare t) a) (told_back e next) ∙ inspected_bare s t a e

  one_kept : (s : Inspection) (e : Entry) (next : ℕ) → EntryFits e → recorded (keeping t a s) (told_of e next) ≡ keeping t a (inspected s t a e)
  one_kept s e next fits = recorded_accepted _ (keeping t a s) (entry_of (told_of e next)) (none e next fits) ∙ ap (λ (x : Inspection). keeping t a x) (behind s e next)

  one_answered : (s : Inspection) (e : Entry) (next : ℕ) → EntryFits e → answered (keeping t a s) (told_of e next) ≡ record_finding s t a e
  unfolding compared_at
  one_answered s e next fits =
      answered_accepted _ (keeping t a s) (entry_of (told_of e next)) (none e next fits)
      ∙ ap (λ (x : Inspection). record_finding x (bare t) a (entry_of (told_of e next))) (comes_back t a s)
      ∙ ap (record_finding s (bare t) a) (told_back e next)
      ∙ ap (λ (x : Inspection). answer_of x.records x.rule (compared_at s x t a e)) (inspected_bare s t a e)

  all_kept : (s : Inspection) (es : List Entry) → AllFit es → handed_all (keeping t a s) es ≡ keeping t a (inspected_all s t a es)
  unfolding handed_all inspected_all
  all_kept s [] fit = refl
  all_kept s (e ∷ es) fit = ap (λ (k : KeptInspection). handed_all k es) (one_kept s e 0 fit.0) ∙ all_kept (inspected s t a e) es fit.1

-- ---- a log that is read

first_fit : (es more : List Entry) → AllFit (es ++ more) → AllFit es
first_fit [] more fit = tt
first_fit (e ∷ es) more fit = (fit.0, first_fit es more fit.1)

next_fits : (es : List Entry) (e : Entry) (more : List Entry) → AllFit (es ++ e ∷ more) → EntryFits e
next_fits [] e more fit = fit.0
next_fits (x ∷ es) e more fit = next_fits es e more fit.1

module _ (bs : List ℕ) (bytes : AllBytes bs) (z : (read_log bs).number ≡ 0) where
  abbrev t : Set
  t = (read_log bs).set

  abbrev a : Alloc
  a = (read_log bs).alloc

  plan : judged_plan t a ≡ 0
  plan = (logs-promised.again bs bytes z).1.0

  fit : AllFit (entries_in bs)
  fit = (logs-promised.again bs bytes z).1.1

  began : inspection_begun t a ≡ record { inspection = keeping t a (begun t a); number = 0 }
  began = begun_accepted (judged_plan t a) (keeping t a (begun t a)) plan

  kept : (es : List Entry) → AllFit es → handed_all (inspection_begun t a).inspection es ≡ keeping t a (inspection_of t a es)
  kept es fits = ap (λ (b : BegunInspection). handed_all b.inspection es) began ∙ all_kept t a plan (begun t a) es fits

  keeps : (es : List Entry) → AllFit es → inspection_in (handed_all (inspection_begun t a).inspection es) ≡ inspection_of t a es
  keeps es fits = ap inspection_in (kept es fits) ∙ comes_back t a (inspection_of t a es)

  pub watched : Watched bs
  watched =
      record {
        begins = ap (λ (b : BegunInspection). b.number) began;
        keeps = λ come rest is. keeps come (first_fit come rest (rw is at fit));
        answers = λ come rest e next is.
            let all : AllFit (come ++ e ∷ rest) = rw is at fit in
            ap (λ (k : KeptInspection). answered k (told_of e next)) (kept come (first_fit come (e ∷ rest) all)) ∙ one_answered t a plan (inspection_of t a come) e next (next_fits come e rest all);
        finding = ap (λ (s : Inspection). finding_of s (read_log bs).records) (keeps (entries_in bs) fit) ∙ sym (found_there bs z);
      }
