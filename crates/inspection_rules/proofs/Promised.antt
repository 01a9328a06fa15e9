-- The proof of what `specs/Promised.antt` promises.
use Prim.Native.Nat.{ℕ, ◌+◌, ◌-◌, ◌%◌, ◌^◌, ◌≤◌, ◌<◌}
use mathlib.Core.Path.{◌≡◌, refl, sym, ap, subst, ◌∙◌}
use mathlib.Core.List.{List, [], ◌∷◌, ◌++◌, map, reverse}
use mathlib.Core.Logic.{◌⊎◌, ◌≢◌, ⊎_elim, ◌↔◌}
use native.Mathlib.Nat.{mod-eq_of_lt}
use native.Mathlib.Omega.{arith}
use lib.ListN.{length, length-append, take}
use Rattle.sets.specs.declared.Set.{Set}
use Rattle.plans.specs.Planned.{judged_plan}
use Rattle.plans.specs.declared.Alloc.{Alloc}
use Rattle.log_records.specs.declared.MarkEntry.{MarkEntry}
use Rattle.log_records.specs.declared.Entry.{Entry}
use Rattle.log_records.specs.declared.Entry.TheVariants.{Visit, Mark}
use Rattle.rings.specs.Opening.{opened_ring}
use Rattle.fields.specs.Bytes.{AllBytes}
use Rattle.sheet_rules.specs.Promised.{plan_length}
use Rattle.logs.specs.Layout.{log_of, AllFit}
use Rattle.logs.specs.Reading.{read_log, entries_in}
use Rattle.log_rules.specs.Recorded.{says, beginning, recorded, kept_of, end_answer, end_buffer, told_in, entries_of}
use Rattle.log_rules.proofs.RunLaws.{run_fits}
use Rattle.promises.specs.Run.{Call, Event, events_of}
use Rattle.promises.proofs.Course.{same_or_not}
use Rattle.inspection.specs.Opening.{begun}
use Rattle.inspection.specs.Records.{inspected_all, inspection_of}
use Rattle.inspection.specs.Findings.{broken_record, found_in, finding_in}
use Rattle.inspection.specs.declared.Inspection.{Inspection}
use Rattle.inspection.specs.declared.Finding.{Finding}
use Rattle.inspection_rules.specs.Gives.{ring_after, Gives}
use Rattle.inspection_rules.specs.Broken.{Rule, FirstBroken}
use Rattle.inspection_rules.specs.Promised.{Started, Starts, Recorded, station_of, Promised}
use Rattle.inspection_rules.proofs.Following.{gives_join, gives_split}
use Rattle.inspection.proofs.RecordLaws.{all_stays}
use Rattle.inspection.proofs.FindingLaws.{one_named, none_named, handed_length, finding_refused}
use Rattle.inspection_rules.proofs.Finding.{all_join, set_is, reaches, could_keeps, keeps_could, Stopped, ends}
use Rattle.inspection_rules.proofs.Further.{further}
use Rattle.inspection_rules.proofs.Watched.{watched}
use Rattle.inspection_rules.proofs.Next.{start_free, start_between, one_more_lem}
use Rattle.inspection_rules.proofs.One.{not_both, one_finding}
use Rattle.inspection_rules.proofs.Amounts.{which_amounts}
use Rattle.inspection_rules.proofs.Comparing.{differs}
use Rattle.inspection_rules.proofs.Expecting.{expects, compares}
use Rattle.inspection_rules.proofs.Model.{marks_so, unmarks_so, model_gives, model_length, no_events, could_written}
use Rattle.inspection_rules.proofs.Marks.{marks_after, judged_in, walks_through, marks_alone, nothing_new}
use Rattle.inspection_rules.proofs.Kept.{kept_entries, kept_length, kept_fit, kept_gives, kept_log}
use Rattle.inspection_rules.proofs.Witness.{late_log_lem, marked_log}
use Rattle.inspection_rules.proofs.Places.{inspection_same}
use Rattle.inspection_rules.proofs.Editions.{editions}
use Rattle.inspection_rules.proofs.Logs.{fit_starts, found_there, log_plan, log_recorded, found_back}

-- ---- what an inspection ends with

module _ (t : Set) (a : Alloc) (es : List Entry) (h : judged_plan t a ≡ 0) where
  accepted_gives : Starts es → ((inspection_of t a es).rule ≡ 0) ↔ Gives t a es
  accepted_gives starts = (
    λ z. ⊎_elim (λ A. (A.counter, A.given)) (λ f. absurd (f.rule z)) (ends t a h es starts),
    λ g. ⊎_elim (λ A. A.stands.rule) (λ f. absurd (not_both t a h es g _ _ f.first)) (ends t a h es starts),
  )

  module _ (R : Recorded es) where
    all_counted : (inspection_of t a es).rule ≡ 0 → (inspection_of t a es).records ≡ length es
    all_counted z = ⊎_elim (λ A. A.counted ∙ mod-eq_of_lt R.few) (λ f. absurd (f.rule z)) (ends t a h es R.starts)

    -- the named record is one of those that a 64-bit number counts
    number_is : (f : Stopped t a h es (inspection_of t a es)) → f.number ≡ (inspection_of t a es).records + 1
    number_is f =
        let F = f.first in
        let long = ap length F.place ∙ length-append F.before (F.entry ∷ F.behind) in
        let few : (f.number - 1) % 2 ^ 64 ≡ f.number - 1 = mod-eq_of_lt (omega (arith, R.few, long, F.counted)) in
        omega (arith, F.counted, f.counted, few)

    first_found : (inspection_of t a es).rule ≢ 0 → FirstBroken t a es ((inspection_of t a es).records + 1) (inspection_of t a es).rule
    first_found n =
        ⊎_elim (λ A. absurd (n A.stands.rule))
        (λ f. subst (λ (number : ℕ). FirstBroken t a es number (inspection_of t a es).rule) (number_is f) f.first)
        (ends t a h es R.starts)

-- ---- the five rules

all_rules : (t : Set) (a : Alloc) (before : List Entry) (e : Entry) → judged_plan t a ≡ 0 → Gives t a before → Started e
    → ((k : ℕ) → Rule t a before e k) ↔ Gives t a (before ++ (e ∷ []))
all_rules t a before e h g small = (
  λ rules.
      let w = keeps_could t a h g.0 before e g.1 small rules in
      (w.0, gives_join w.0 (opened_ring t a) before (e ∷ []) w.1.0.0 (w.1.0.1, tt)),
  λ more.
      let w = gives_split more.0 (opened_ring t a) before (e ∷ []) more.1 in
      could_keeps t a h more.0 before e w.0 w.1.0,
)

-- ---- a station number that is not below N

beyond_n : (t : Set) (a : Alloc) (before : List Entry) (e : Entry) (behind : List Entry) → judged_plan t a ≡ 0 → Gives t a before → t.n ≤ station_of e
    → FirstBroken t a (before ++ e ∷ behind) (length before + 1) 1
beyond_n t a before e behind h g above =
    record {
      before = before;
      entry = e;
      behind = behind;
      place = refl;
      counted = refl;
      given = g;
      known = (omega arith, omega arith);
      kept = λ k low b. absurd (omega arith);
      broken = outside e above;
    }
  where
    outside : (e : Entry) → t.n ≤ station_of e → ¬ Rule t a before e 1
    outside (Visit v) above is = absurd (omega (arith, above, is, (reaches t a h g.0 before g.1).goes.course.token, ap (λ (x : Set). x.n) (set_is t a h before)))
    outside (Mark m) above is = absurd (omega (arith, above, is.0, ap (λ (x : Set). x.n) (set_is t a h before)))

neither : (t : Set) (a : Alloc) (before : List Entry) (m : MarkEntry) (behind : List Entry) → judged_plan t a ≡ 0 → Gives t a before → 2 ≤ m.mark
    → FirstBroken t a (before ++ Mark m ∷ behind) (length before + 1) 1
neither t a before m behind h g above =
    record {
      before = before;
      entry = Mark m;
      behind = behind;
      place = refl;
      counted = refl;
      given = g;
      known = (omega arith, omega arith);
      kept = λ k low b. absurd (omega arith);
      broken = λ is. absurd (omega (arith, above, is.1));
    }

-- ---- a log without records, and those of the model

nothing_recorded : (t : Set) (a : Alloc) → ((inspection_of t a []).rule ≡ 0) × ((inspection_of t a []).records ≡ 0)
unfolding inspected_all begun
nothing_recorded t a = (refl, refl)

-- records that fit their fields and could be given
fit_accepted : (t : Set) (a : Alloc) (es : List Entry) → judged_plan t a ≡ 0 → AllFit es → Gives t a es → (inspection_of t a es).rule ≡ 0
fit_accepted t a es h fit g = (accepted_gives t a es h (fit_starts es fit)).1 g

model_accepted : (t : Set) (a : Alloc) (counter : ℕ) (calls : List Call) → judged_plan t a ≡ 0 → (inspection_of t a (entries_of counter t a calls)).rule ≡ 0
model_accepted t a counter calls h = fit_accepted t a (entries_of counter t a calls) h (run_fits t a counter calls) (counter, model_gives t a counter calls h)

-- of a plan that does not meet the rules there are none
run_accepted : (t : Set) (a : Alloc) (counter : ℕ) (calls : List Call) → (inspection_of t a (entries_of counter t a calls)).rule ≡ 0
run_accepted t a counter calls =
    ⊎_elim (λ h. model_accepted t a counter calls h)
    (λ n.
    let none : entries_of counter t a calls ≡ [] = ap (λ (events : List Event). map (says counter) (reverse (told_in events))) (no_events t a n calls) in
    rw none (nothing_recorded t a).0)
    (same_or_not (judged_plan t a) 0)

-- ---- the finding of a log

module _ (bs : List ℕ) (bytes : AllBytes bs) (short : length bs < 2 ^ 64) (z : (read_log bs).number ≡ 0) where
  h : judged_plan (read_log bs).set (read_log bs).alloc ≡ 0
  h = log_plan bs z bytes short

  R : Recorded (entries_in bs)
  R = log_recorded bs z bytes short

  abbrev state : Inspection
  state = inspection_of (read_log bs).set (read_log bs).alloc (entries_in bs)

  rule_is : (finding_in bs).rule ≡ state.rule
  rule_is = ap (λ (f : Finding). f.rule) (found_there bs z)

  record_is : (finding_in bs).«record» ≡ broken_record state
  record_is = ap (λ (f : Finding). f.«record») (found_there bs z)

  log_gives : ((finding_in bs).rule ≡ 0) ↔ Gives (read_log bs).set (read_log bs).alloc (entries_in bs)
  log_gives =
      let both = accepted_gives (read_log bs).set (read_log bs).alloc (entries_in bs) h R.starts in
      (λ z. both.0 (sym rule_is ∙ z), λ g. rule_is ∙ both.1 g)

  -- the record that is named is the one behind those that are counted
  named_there : state.rule ≢ 0 → broken_record state ≡ state.records + 1
  named_there some =
      let f = first_found (read_log bs).set (read_log bs).alloc (entries_in bs) h R some in
      let long = ap length f.place ∙ length-append f.before (f.entry ∷ f.behind) in
      one_named state some (omega (arith, f.counted, R.few, long))

  log_names : ((finding_in bs).rule ≡ 0) ↔ ((finding_in bs).«record» ≡ 0)
  log_names = (
    λ z. record_is ∙ none_named state (sym rule_is ∙ z),
    λ z. ⊎_elim (λ (none : state.rule ≡ 0). rule_is ∙ none) (λ (some : state.rule ≢ 0). absurd (omega (arith, record_is, named_there some))) (same_or_not state.rule 0),
  )

  log_breaks : ((finding_in bs).rule ≢ 0) ↔ FirstBroken (read_log bs).set (read_log bs).alloc (entries_in bs) (finding_in bs).«record» (finding_in bs).rule
  log_breaks = (
    λ n.
        let some : state.rule ≢ 0 = λ e. n (rule_is ∙ e) in
        rw (rule_is, record_is ∙ named_there some) (first_found (read_log bs).set (read_log bs).alloc (entries_in bs) h R some),
    λ f e. omega (arith, f.known.0),
  )

  log_further : (cs : List ℕ) (before : List Entry) (e : Entry) (other another : List Entry) → (read_log cs).number ≡ 0 → (read_log cs).set ≡ (read_log bs).set → (read_log cs).alloc ≡ (read_log bs).alloc
      → entries_in bs ≡ before ++ e ∷ other → entries_in cs ≡ before ++ e ∷ another → (finding_in bs).«record» ≡ length before + 1
      → ((finding_in cs).«record» ≡ (finding_in bs).«record») × ((finding_in cs).rule ≡ (finding_in bs).rule)
  log_further cs before e other another zc sets allocs here there named =
      let t = (read_log bs).set in
      let a = (read_log bs).alloc in
      let some : state.rule ≢ 0 = λ none. omega (arith, record_is, none_named state none) in
      let is : state ≡ inspection_of t a (before ++ e ∷ other) = ap (inspection_of t a) here in
      let counted : (inspection_of t a (before ++ e ∷ other)).records ≡ length before =
      omega (arith, ap (λ (s : Inspection). s.records) is, record_is, named_there some) in
      let same = further t a before e other another (omega (arith, R.few, ap length here)) (λ none. some (ap (λ (s : Inspection). s.rule) is ∙ none)) counted in
      let all : inspection_of (read_log cs).set (read_log cs).alloc (entries_in cs) ≡ state = rw (sets, allocs, there) (same ∙ sym is) in (
        ap (λ (f : Finding). f.«record») (found_there cs zc) ∙ ap broken_record all ∙ sym record_is,
        ap (λ (f : Finding). f.rule) (found_there cs zc) ∙ ap (λ (s : Inspection). s.rule) all ∙ sym rule_is,
      )

-- the log of records that are accepted
log_clean : (t : Set) (a : Alloc) (es : List Entry) (records : ℕ) → judged_plan t a ≡ 0 → AllFit es → (inspection_of t a es).rule ≡ 0 → length es ≡ records
    → finding_in (log_of t a es) ≡ record { records = records; «record» = 0; rule = 0; number = 0 }
log_clean t a es records h fit none many = found_back t a es h fit ∙ rw (none_named (inspection_of t a es) none, none, many) refl

recorded_accepted : (t : Set) (a : Alloc) (counter : ℕ) (calls : List Call) (out : List ℕ) → judged_plan t a ≡ 0 → plan_length t ≤ length out
    → let begins = beginning t a counter 0 out in
    let told = reverse (told_in (events_of t a calls)) in
    let s = recorded begins told in
    finding_in (take (end_answer s).length (end_buffer s)) ≡ record { records = length (kept_of begins told); «record» = 0; rule = 0; number = 0 }
recorded_accepted t a counter calls out h room =
    let es = kept_entries t a h counter calls out room in
    let fit = kept_fit t a h counter calls out room in
    let none = fit_accepted t a es h fit (counter, kept_gives t a h counter calls out room) in
    ap finding_in (kept_log t a h counter calls out room) ∙ log_clean t a es _ h fit none (kept_length t a h counter calls out room)

pub promised : Promised
promised =
    record {
      accepted = accepted_gives;
      counted = all_counted;
      found = first_found;
      five_rules = all_rules;
      wrapping = λ t a before b v h. start_between t a h before b v;
      free_start = start_free;
      goes_on = λ t a es h. one_more_lem t a h es;
      one_finding = λ t a es number other rule another h. one_finding t a h es number other rule another;
      not_both = λ t a es h. not_both t a h es;
      no_further = further;
      stopped = λ s t a es more n. all_join s t a es more ∙ all_stays (inspected_all s t a es) t a more n;
      pieces = all_join;
      no_record_lem = nothing_recorded;
      beyond = beyond_n;
      no_mark = neither;
      amounts = which_amounts;
      marks = marks_after;
      station_in_lem = judged_in;
      through = walks_through;
      alone = marks_alone;
      as_marked = marks_so;
      as_unmarked = unmarks_so;
      without_marks = nothing_new;
      marked_log = marked_log;
      first_places_lem = λ t u a b es count same shares. inspection_same t u a b count.1 count.0 same shares es;
      written_visit = λ t a before h g counter. could_written counter (ring_after (opened_ring t a) before) (reaches t a h g.0 before g.1);
      runs = run_accepted;
      editions = editions;
      late_log_lem = late_log_lem;
      expects = λ t a before counter h R g. expects t a h before counter R g;
      compares = λ t a es h R number rule f. compares t a h es R number rule f;
      differ = differs;
      log_refused = λ bs n. finding_refused (read_log bs).number (found_in bs) n;
      log_read = λ bs z. (ap (λ (f : Finding). f.number) (found_there bs z), ap (λ (f : Finding). f.records) (found_there bs z) ∙ sym (handed_length (read_log bs).records bs (read_log bs).first));
      log_accepted = log_gives;
      log_unnamed = log_names;
      log_found = log_breaks;
      log_no_further = λ bs cs before e other another bytes short z. log_further bs bytes short z cs before e other another;
      log_of_run = λ t a counter calls h. log_clean t a (entries_of counter t a calls) _ h (run_fits t a counter calls) (model_accepted t a counter calls h) (model_length t a counter calls);
      recorded_run = recorded_accepted;
      watched = watched;
    }
