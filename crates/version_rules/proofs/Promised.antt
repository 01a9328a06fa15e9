-- The promises of plan versions, from the laws beside this file.
use Prim.Native.Nat.{ℕ, zero, suc, ◌+◌, ◌≤◌, ◌<◌, ◌^◌}
use mathlib.Core.Path.{◌≡◌, refl, sym, ap, ◌∙◌}
use mathlib.Core.Bool.{true, false}
use mathlib.Core.List.{List, ◌++◌}
use mathlib.Core.Logic.{◌↔◌, ◌≢◌, inl, ⊎_elim}
use native.Mathlib.Omega.{arith}
use borrow.Author.Tests.{eq-eqb, ne_eqb}
use lib.ListN.{length, length-append}
use lib.Seq.{drop_at}
use Rattle.units.specs.Places.{at}
use Rattle.units.proofs.JudgingLaws.{held, failed, not_given, true_or_false}
use Rattle.fields.specs.Bytes.{bytes_of, AllBytes}
use Rattle.fields.specs.declared.Passed.{Passed}
use Rattle.fields.proofs.SegmentLaws.{stands_itself}
use Rattle.fields.proofs.ByteLaws.{bytes_length}
use Rattle.fields.proofs.HeaderLaws.{same_or_not}
use Rattle.sets.specs.declared.Set.{Set}
use Rattle.plans.specs.Planned.{judged_plan}
use Rattle.plans.specs.declared.Alloc.{Alloc}
use Rattle.field_reader.specs.Scanned.{scanned}
use Rattle.field_reader.specs.FirstFault.{Fault, no_start, not_allowed, cut_body, follows}
use Rattle.field_reader.proofs.ScannedLaws.{stopped}
use Rattle.sheets.specs.Reading.{read_plan, read_sheet, set_in, alloc_in, judged_sheet}
use Rattle.sheets.proofs.ReadLaws.{then_rest, then_keeps, read_number_lem}
use Rattle.versions.specs.Layout.{store_size, last_version, version_start, version_bytes, Kept, count, store_of, empty_store}
use Rattle.versions.specs.Area.{count_in, newest_in, is_store, area_number}
use Rattle.versions.specs.Answers.{is_long, empty_number, emptied_area, store_number, stored_answer, find_number, found_place, found_with, found_version, versions_with, versions_in}
use Rattle.versions.proofs.AreaLaws.{newest_small, store_here}
use Rattle.versions.proofs.AnswerLaws.{found_inside}
use Rattle.version_rules.specs.Keeping.{nothing, newest, Allowed, with_plan, kept_in}
use Rattle.version_rules.specs.Runs.{given}
use Rattle.version_rules.specs.Promised.{FieldOf, Promised}
use Rattle.version_rules.proofs.FieldLaws.{version_length, field_reads}
use Rattle.version_rules.proofs.BackLaws.{store_long, laid_store, kept_back}
use Rattle.version_rules.proofs.AgainLaws.{sheets_count, kept_allowed, kept_again}
use Rattle.version_rules.proofs.FindLaws.{find_two, find_seventeen, finds}
use Rattle.version_rules.proofs.NumberLaws.{store_zero, store_two, store_sheet, store_used, one_more_lem, store_refused, newest_laid, rising_laid, rising, never_twice}
use Rattle.version_rules.proofs.RunLaws.{used_up, stored, stored_allowed, newest_is, stays_store}
use Rattle.version_rules.proofs.FoundLaws.{just_stored, while_newest, no_longer, others, dropped}
use Rattle.version_rules.proofs.LastLaws.{none, newest_kept, reached}

field : (number : ℕ) (sheet : List ℕ) → number < 2 ^ 32 → length sheet ≤ 65_531 → FieldOf number sheet (version_bytes number sheet)
unfolding version_bytes
field number sheet small short =
    let bs = version_bytes number sheet in
    let r = field_reads bs 0 number sheet small short (stands_itself bs) in
    let start = version_start (length sheet) in
    let seven : length (version_start (length sheet) ++ bytes_of number) ≡ 7 = omega (arith, length-append start (bytes_of number), bytes_length number) in
    record {
      tag = r.tag;
      size = r.size;
      numbered = r.numbered;
      plan = drop_at (start ++ bytes_of number) sheet 7 seven;
      long = version_length number sheet;
    }

nothing_allowed : Allowed nothing
nothing_allowed = record { few = omega arith; none_missing_lem = inl refl; numbered = omega arith; plans = λ k l. absurd (omega arith) }

find_refused : (bs : List ℕ) (version : ℕ) → (found_version bs version).number ≢ 0 → ((found_version bs version).place ≡ 0) × ((found_version bs version).length ≡ 0)
unfolding found_with
find_refused bs version = go (find_number bs version)
  where
    go : (k : ℕ) → (found_with k bs (found_place bs version)).number ≢ 0 → ((found_with k bs (found_place bs version)).place ≡ 0) × ((found_with k bs (found_place bs version)).length ≡ 0)
    go zero o = absurd (o refl)
    go (suc k) o = (refl, refl)

versions_two : (bs : List ℕ) → is_store bs ≡ false → versions_in bs ≡ record { oldest = 0; newest = 0; number = 2 }
unfolding versions_with
versions_two bs e = let k : area_number bs ≡ 2 = failed _ _ _ e in rw k refl

versions_none : (bs : List ℕ) → is_store bs ≡ true → count (kept_in bs) ≡ 0 → versions_in bs ≡ record { oldest = 0; newest = 0; number = 0 }
unfolding versions_with
versions_none bs e n = let k : area_number bs ≡ 0 = held _ _ _ e in rw (k, eq-eqb (count_in bs) 0 (sym (sheets_count bs (count_in bs)) ∙ n)) refl

versions_some : (bs : List ℕ) → is_store bs ≡ true → count (kept_in bs) ≢ 0 → versions_in bs ≡ record { oldest = (kept_in bs).before + 1; newest = newest (kept_in bs); number = 0 }
unfolding versions_with
versions_some bs e o =
    let k : area_number bs ≡ 0 = held _ _ _ e in
    let size = sheets_count bs (count_in bs) in
    rw (k, ne_eqb (count_in bs) 0 (λ z. o (size ∙ z)), size) refl

-- ---- plan reading never gives 18

fault_small : (bs : List ℕ) (a : ℕ) (p : Passed) (k : ℕ) → Fault bs a p k → k ≤ 3
fault_small bs a p _ (no_start s) = omega arith
fault_small bs a p _ (not_allowed t w) = omega arith
fault_small bs a p _ (cut_body t m c) = omega arith
fault_small bs a p _ (follows w e r) = omega arith

judged_other : (t : Set) (a : Alloc) → judged_sheet true t a ≢ 18
unfolding judged_sheet judged_plan
judged_other t a = not_given _ 2 _ 18 (omega arith) (not_given _ 4 _ 18 (omega arith) (not_given _ 5 _ 18 (omega arith) (not_given _ 7 0 18 (omega arith) (omega arith))))

read_other : (sheet : List ℕ) → (read_plan sheet).number ≢ 18
unfolding read_sheet
read_other sheet e =
    let number = sym (read_number_lem _ (set_in true sheet) (alloc_in true sheet)) ∙ e in
    let s = (stopped true sheet).why in
    ⊎_elim (λ w. omega (arith, fault_small sheet _ _ _ w.1, sym (then_keeps (scanned true sheet).number _ w.0) ∙ number))
    (λ w. judged_other (set_in true sheet) (alloc_in true sheet) (sym (then_rest (scanned true sheet).number _ w.0) ∙ number))
    s

eighteen : (bs sheet : List ℕ) → AllBytes bs → (store_number bs sheet ≡ 18) ↔ ((is_store bs ≡ true) × (((read_plan sheet).number ≡ 0) × (newest_in bs ≡ last_version)))
eighteen bs sheet bytes = (
  λ h.
      ⊎_elim (λ (e : is_store bs ≡ true).
      ⊎_elim (λ (r : (read_plan sheet).number ≡ 0).
      let small = newest_small bs bytes (omega (arith, (store_here bs e).long)) in
      ⊎_elim (λ (n : newest_in bs ≡ last_version). (e, (r, n))) (λ (o : newest_in bs ≢ last_version). absurd (omega (arith, h, (store_zero bs sheet).1 (e, (r, omega (arith, o)))))) (same_or_not (newest_in bs) last_version))
      (λ (o : (read_plan sheet).number ≢ 0). absurd (read_other sheet (sym (store_sheet bs sheet e o) ∙ h)))
      (same_or_not (read_plan sheet).number 0))
      (λ (e : is_store bs ≡ false). absurd (omega (arith, h, store_two bs sheet e)))
      (true_or_false (is_store bs)),
  λ w. store_used bs sheet w.0 w.1.0 w.1.1,
)

emptied : (bs : List ℕ) → length bs ≡ store_size → (empty_number bs ≡ 0) × (emptied_area bs ≡ empty_store)
unfolding emptied_area
emptied bs l = let e : is_long bs ≡ true = eq-eqb _ _ l in (held _ _ _ e, rw e refl)

empty_refused : (bs : List ℕ) → length bs ≢ store_size → (empty_number bs ≡ 2) × (emptied_area bs ≡ bs)
unfolding emptied_area
empty_refused bs o = let e : is_long bs ≡ false = ne_eqb _ _ o in (failed _ _ _ e, rw e refl)

empty_is_store : is_store empty_store ≡ true
empty_is_store = ap is_store (sym none) ∙ laid_store nothing nothing_allowed

from_one : (sheets : List (List ℕ)) (i : ℕ) → i < length (given empty_store sheets) → at (given empty_store sheets) i ≡ 1 + i
from_one sheets i l =
    let some : i < length (given (store_of nothing) sheets) = rw none l in
    rw none at (rising_laid nothing nothing_allowed sheets i some) ∙ omega arith

empty_newest : newest_in empty_store ≡ 0
empty_newest = ap newest_in (sym none) ∙ newest_laid nothing nothing_allowed

empty_next : (sheet : List ℕ) → (read_plan sheet).number ≡ 0 → stored_answer empty_store sheet ≡ record { version = 1; number = 0 }
empty_next sheet r =
    one_more_lem empty_store sheet ((store_zero empty_store sheet).1 (empty_is_store, (r, omega (arith, empty_newest)))) ∙ ap (λ (n : ℕ). record { version = n + 1; number = 0 }) empty_newest

exactly : (bs : List ℕ) → AllBytes bs → (is_store bs ≡ true) ↔ ((v : Kept) × (Allowed v × (bs ≡ store_of v)))
exactly bs bytes = (λ e. (kept_in bs, (kept_allowed bs bytes e, sym (kept_again bs bytes e))), λ h. ap is_store h.1.1 ∙ laid_store h.0 h.1.0)

pub promised : Promised
promised =
    record {
      field = field;
      long = store_long;
      none = none;
      laid_out = laid_store;
      back = kept_back;
      read = kept_allowed;
      again = kept_again;
      exactly = exactly;
      reached = reached;
      newest_kept = newest_kept;
      newest_in_lem = λ bs. omega (arith, sheets_count bs (count_in bs));
      stored = stored;
      kept_after = λ bs sheet bytes z. ap kept_in (stored bs sheet bytes z) ∙ kept_back (with_plan (kept_in bs) sheet) (stored_allowed bs sheet bytes z);
      stays_store = stays_store;
      one_more_lem = one_more_lem;
      newest_is = newest_is;
      just_stored = just_stored;
      while_newest = while_newest;
      no_longer = no_longer;
      others = others;
      dropped = dropped;
      rising = rising;
      from_one = from_one;
      never_twice = never_twice;
      find_two = find_two;
      find_seventeen = find_seventeen;
      finds = finds;
      find_refused = find_refused;
      find_inside = found_inside;
      find_zero = λ bs e. (find_seventeen bs 0).1 (e, λ m. omega (arith, m.1.1));
      versions_two = versions_two;
      versions_none = versions_none;
      versions_some = versions_some;
      store_two = store_two;
      store_sheet = store_sheet;
      eighteen = eighteen;
      store_zero = store_zero;
      used_up = used_up;
      store_refused = store_refused;
      empty_refused = empty_refused;
      emptied = emptied;
      empty_is_store = empty_is_store;
      empty_keeps = ap kept_in (sym none) ∙ kept_back nothing nothing_allowed;
      empty_next = empty_next;
    }
