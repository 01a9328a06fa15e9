-- The laws of reading: what has passed lies inside the bytes, and the answers of a refused reading.
use Prim.Native.Nat.{ℕ, zero, suc, ◌+◌, ◌≤◌, ◌<◌}
use mathlib.Core.Path.{◌≡◌, refl, sym, ap, subst, ◌∙◌}
use mathlib.Core.Bool.{Bool, true, false, cond, ◌||◌}
use mathlib.Core.List.{List}
use mathlib.Core.Logic.{⊎_elim, ◌≢◌}
use native.Mathlib.Omega.{arith}
use lib.Dec.{eqb}
use borrow.Author.Tests.{ne_eqb}
use Rattle.units.proofs.JudgingLaws.{true_or_false}
use Rattle.units.proofs.SmallLaws.{below_or_not}
use Rattle.sets.specs.Header.{head_number}
use Rattle.sets.specs.Rules.{CountAllowed, HeadInRange}
use Rattle.sets.specs.Judged.{blank_set}
use Rattle.sets.proofs.SetLaws.{judged_four}
use Rattle.sets.specs.declared.Head.{Head}
use Rattle.sets.specs.declared.Set.{Set}
use Rattle.plans.specs.Planned.{blank_alloc}
use Rattle.plans.specs.declared.Alloc.{Alloc}
use Rattle.plans.proofs.Promised.{promised}
use Rattle.fields.specs.Fields.{mode_tag, frame_tag, grid_tag}
use Rattle.fields.specs.Header.{further_count, further_place, given_at}
use Rattle.fields.proofs.FieldLaws.{allocations_few}
use Rattle.fields.proofs.HeaderLaws.{behind_least, place_next, place_of_lem}
use Rattle.field_reader.specs.Scanned.{scanned}
use Rattle.fields.specs.declared.Passed.{Passed}
use Rattle.field_reader.proofs.ScannedLaws.{stopped}
use Rattle.field_reader.proofs.PassedLaws.{AllPassed, all_passed, scanned_ended}
use Rattle.sheets.specs.Bounds.{PassedFits}
use Rattle.sheets.specs.Layout.{most_of}
use Rattle.sheets.specs.Reading.{number_in, head_in, plan_passed, set_in, alloc_in, then_number, judged_sheet, read_number, read_sheet, read_answer, given_answer, given_sheet, fields_answer}
use Rattle.sheets.proofs.ReadLaws.{then_rest, then_keeps, then_none, read_refused, read_number_lem, sheet_accepted}

-- where all fields but the end have passed, there is room for all that is read from them
pub passed_fits : (plan : Bool) (bs : List ℕ) (p : Passed) (a : ℕ) → AllPassed plan bs p a → PassedFits bs p
passed_fits plan bs p a e =
    let few = e.few in
    record {
      header = e.header.behind;
      some = e.some;
      few = few;
      fewer = omega (arith, e.all, allocations_few plan p.stations);
      inside = omega (arith, e.place, e.inside);
    }

-- an answer by its number
given_refused : (k : ℕ) (plan : Bool) (t : Set) (a : Alloc) → k ≢ 0 → given_answer k plan t a ≡ record { set = blank_set; alloc = blank_alloc; number = k }
unfolding given_answer
given_refused zero plan t a h = absurd (h refl)
given_refused (suc k) plan t a h = refl

given_then_lem : (k : ℕ) (plan : Bool) (t : Set) (a : Alloc) → (given_answer k plan t a).number ≡ then_number k (judged_sheet plan t a)
unfolding given_answer then_number
given_then_lem zero plan t a = refl
given_then_lem (suc k) plan t a = refl

answered : (k : ℕ) (t : Set) (a : Alloc)
    → cond (false || eqb k 0) (record { set = t; alloc = a; number = k }) (record { set = blank_set; alloc = blank_alloc; number = k }) ≡ read_answer k t a
unfolding read_answer
answered zero t a = refl
answered (suc k) t a = rw (ne_eqb (suc k) 0 (λ e. absurd (omega arith))) refl

-- what is blank, and what is not, of fields that have passed, by the number that was judged
module _ (kept plan : Bool) (t : Set) (a : Alloc) {k : ℕ} (said : k ≡ judged_sheet plan t a) where
  pub answer_blank : (kept || eqb k 0) ≡ false → record { set = blank_set; alloc = blank_alloc; number = k } ≡ fields_answer kept plan t a
  unfolding fields_answer
  answer_blank test =
      let same : (kept || eqb (judged_sheet plan t a) 0) ≡ false = ap (λ (i : ℕ). kept || eqb i 0) (sym said) ∙ test in
      rw same (ap (λ (i : ℕ). record { set = blank_set; alloc = blank_alloc; number = i }) said)

  pub answer_whole : (kept || eqb k 0) ≡ true → record { set = t; alloc = a; number = k } ≡ fields_answer kept plan t a
  unfolding fields_answer
  answer_whole test =
      let same : (kept || eqb (judged_sheet plan t a) 0) ≡ true = ap (λ (i : ℕ). kept || eqb i 0) (sym said) ∙ test in
      rw same (ap (λ (i : ℕ). record { set = t; alloc = a; number = i }) said)

module _ (plan : Bool) (bs : List ℕ) where
  -- so it is with a sheet without a fault
  pub scanned_fits : (scanned plan bs).number ≡ 0 → PassedFits bs (scanned plan bs).passed
  scanned_fits h = passed_fits plan bs (scanned plan bs).passed _ (scanned_ended plan bs h).before

  -- and where the walk stopped behind all fields but the end
  pub start_fits : plan_passed (scanned plan bs).passed ≡ true → PassedFits bs (scanned plan bs).passed
  start_fits may = passed_fits plan bs (scanned plan bs).passed (scanned plan bs).at (all_passed plan bs _ _ (stopped plan bs).before may)

  -- what a sheet holds
  pub given_misshapen : (scanned plan bs).number ≢ 0 → given_sheet plan bs ≡ record { set = blank_set; alloc = blank_alloc; number = (scanned plan bs).number }
  unfolding given_sheet
  given_misshapen h = given_refused (scanned plan bs).number plan (set_in plan bs) (alloc_in plan bs) h

  pub given_read : (scanned plan bs).number ≡ 0 → given_sheet plan bs ≡ record { set = set_in plan bs; alloc = alloc_in plan bs; number = judged_sheet plan (set_in plan bs) (alloc_in plan bs) }
  unfolding given_sheet given_answer
  given_read h = rw h refl

  -- it has the number of reading
  pub given_number : (given_sheet plan bs).number ≡ read_number plan bs
  unfolding given_sheet
  given_number = given_then_lem (scanned plan bs).number plan (set_in plan bs) (alloc_in plan bs)

  -- a sheet that is not refused is read as it is
  pub sheet_given : (given_sheet plan bs).number ≡ 0 → read_sheet plan bs ≡ given_sheet plan bs
  sheet_given h =
      let none = then_none (scanned plan bs).number (judged_sheet plan (set_in plan bs) (alloc_in plan bs)) (sym given_number ∙ h) in
      sheet_accepted plan bs none.0 none.1 ∙ rw (given_read none.0, none.1) refl

  -- the number of reading, by the walk and then by the judgement
  pub number_misshapen : (scanned plan bs).number ≢ 0 → (scanned plan bs).number ≡ (read_sheet plan bs).number
  unfolding read_sheet
  number_misshapen h = sym (read_number_lem _ _ _ ∙ then_keeps _ _ h)

  pub number_judged : (scanned plan bs).number ≡ 0 → judged_sheet plan (set_in plan bs) (alloc_in plan bs) ≡ (read_sheet plan bs).number
  unfolding read_sheet
  number_judged h = sym (read_number_lem _ _ _ ∙ then_rest _ _ h)

  -- what is read, kept or not, of a sheet with a fault and of one without
  pub kept_misshapen : (kept : Bool) → (scanned plan bs).number ≢ 0
      → cond kept (given_sheet plan bs) (read_sheet plan bs) ≡ record { set = blank_set; alloc = blank_alloc; number = (scanned plan bs).number }
  unfolding read_sheet
  kept_misshapen true h = given_misshapen h
  kept_misshapen false h = rw (then_keeps (scanned plan bs).number (judged_sheet plan (set_in plan bs) (alloc_in plan bs)) h) (read_refused _ _ _ h)

  pub kept_read : (kept : Bool) → (scanned plan bs).number ≡ 0
      → fields_answer kept plan (set_in plan bs) (alloc_in plan bs) ≡ cond kept (given_sheet plan bs) (read_sheet plan bs)
  unfolding fields_answer read_sheet
  kept_read true h = sym (given_read h)
  kept_read false h =
      let k = judged_sheet plan (set_in plan bs) (alloc_in plan bs) in
      answered k (set_in plan bs) (alloc_in plan bs) ∙ ap (λ (i : ℕ). read_answer i (set_in plan bs) (alloc_in plan bs)) (sym (then_rest (scanned plan bs).number k h))

-- ---- the header's numbers

-- they are in their ranges, each by its tag
pub head_ranges : (h : Head) → HeadInRange h → (tag : ℕ) → (1 ≤ head_number h tag) × (head_number h tag ≤ most_of tag)
unfolding head_number most_of
head_ranges h r tag =
    ⊎_elim (λ (e : eqb tag mode_tag ≡ true). rw e r.mode)
    (λ (e : eqb tag mode_tag ≡ false).
    ⊎_elim (λ (f : eqb tag frame_tag ≡ true). rw (e, f) r.frame) (λ (f : eqb tag frame_tag ≡ false). rw (e, f) r.grid) (true_or_false (eqb tag frame_tag)))
    (true_or_false (eqb tag mode_tag))

-- a set with one that is not is judged 4
pub head_out : (plan : Bool) (t : Set) (a : Alloc) (tag : ℕ) → CountAllowed t
    → ¬ ((1 ≤ head_number t.head tag) × (head_number t.head tag ≤ most_of tag)) → judged_sheet plan t a ≡ 4
unfolding judged_sheet
head_out true t a tag count out = (promised.given_four t a).1 (count, λ r. out (head_ranges t.head r.0.header tag))
head_out false t a tag count out = (judged_four t).1 (count, λ r. out (head_ranges t.head r.header tag))

-- ---- the header that is read

module _ (bs : List ℕ) where
  -- the number of a tag is the one that is read for it
  pub number_of : (tag : ℕ) → mode_tag ≤ tag → tag ≤ grid_tag → head_number (head_in bs) tag ≡ number_in bs tag
  unfolding head_number
  number_of tag low high =
      ⊎_elim (λ (b : tag < 5). let e : tag ≡ 4 = omega arith in subst (λ (k : ℕ). head_number (head_in bs) k ≡ number_in bs k) (sym e) refl)
      (λ (b : 5 ≤ tag).
      ⊎_elim (λ (d : tag < 6). let e : tag ≡ 5 = omega arith in subst (λ (k : ℕ). head_number (head_in bs) k ≡ number_in bs k) (sym e) refl)
      (λ (d : 6 ≤ tag). let e : tag ≡ 6 = omega arith in subst (λ (k : ℕ). head_number (head_in bs) k ≡ number_in bs k) (sym e) refl)
      (below_or_not tag 6))
      (below_or_not tag 5)

  -- the same by the field
  pub number_at_lem : (k : ℕ) → k < further_count → head_number (head_in bs) (mode_tag + k) ≡ given_at bs (further_place bs k) (mode_tag + k)
  number_at_lem k l = number_of (mode_tag + k) (omega arith) (omega arith) ∙ ap (λ (a : ℕ). given_at bs a (mode_tag + k)) (place_of_lem bs k)

  -- a field further on stands no earlier
  pub places_rise : (k : ℕ) → k ≤ further_count → further_place bs k ≤ further_place bs further_count
  places_rise k l = go further_count l
    where
      go : (n : ℕ) → k ≤ n → further_place bs k ≤ further_place bs n
      go zero m = let e : k ≡ 0 = omega arith in omega (arith, ap (further_place bs) e)
      go (suc n) m =
          ⊎_elim (λ (b : k < suc n). omega (arith, go n (omega arith), place_next bs n, behind_least bs (mode_tag + n) (further_place bs n)))
          (λ (b : suc n ≤ k). let e : k ≡ suc n = omega arith in omega (arith, ap (further_place bs) e))
          (below_or_not k (suc n))
