-- Records that are looked at one after another: some at a time, up to the first that breaks a rule, and counted.
use Prim.Native.Nat.{ℕ, zero, suc, ◌+◌, ◌%◌, ◌^◌, ◌<◌}
use mathlib.Core.Path.{◌≡◌, refl, sym, ap, ◌∙◌}
use mathlib.Core.List.{List, [], ◌∷◌, ◌++◌}
use mathlib.Core.Logic.{◌≢◌, ⊎_elim}
use native.Mathlib.Nat.{mod-eq_of_lt}
use native.Mathlib.Omega.{arith}
use borrow.Author.Tests.{eq-eqb, ne_eqb}
use lib.ListN.{length}
use Rattle.sets.specs.declared.Set.{Set}
use Rattle.plans.specs.declared.Alloc.{Alloc}
use Rattle.log_records.specs.declared.Entry.{Entry}
use Rattle.log_records.specs.declared.Entry.TheVariants.{Visit, Mark}
use Rattle.field_reader.proofs.ScannedLaws.{zero_or_not}
use Rattle.inspection.specs.Rules.{expected, broken_rule}
use Rattle.inspection.specs.Records.{visited_on, switched_on, moved_on, judged, inspected, inspected_all}
use Rattle.inspection.specs.declared.Inspection.{Inspection}
use Rattle.inspection.proofs.RecordLaws.{inspected_stays, inspected_stops, inspected_moves, all_stays}
use Rattle.inspection_stream.specs.Inspecting.{looked_at, looked_all}
use Rattle.inspection_stream.specs.Promised.{last_or}
use Rattle.inspection_stream.specs.declared.Looked.{Looked}

-- what was looked at, under other names
pub looked_as : {s u : Inspection} {b c e f : Entry} → s ≡ u → b ≡ c → e ≡ f → ◌≡◌ {A = Looked} (record { inspection = s; before = b; last = e }) (record { inspection = u; before = c; last = f })
looked_as p q r = rw (p, q, r) refl

module _ (t : Set) (a : Alloc) where
  -- ---- one record more

  pub look_stopped : (l : Looked) (e : Entry) → l.inspection.rule ≢ 0 → looked_at t a l e ≡ l
  unfolding looked_at
  look_stopped l e some = rw (ne_eqb l.inspection.rule 0 some) refl

  pub look_on : (l : Looked) (e : Entry) → l.inspection.rule ≡ 0 → looked_at t a l e ≡ record { inspection = inspected l.inspection t a e; before = l.last; last = e }
  unfolding looked_at
  look_on l e none = rw (eq-eqb l.inspection.rule 0 none) refl

  -- the inspection is that of the records
  pub look_inspects : (l : Looked) (e : Entry) → (looked_at t a l e).inspection ≡ inspected l.inspection t a e
  look_inspects l e =
      ⊎_elim (λ (none : l.inspection.rule ≡ 0). ap (λ (k : Looked). k.inspection) (look_on l e none))
      (λ (some : l.inspection.rule ≢ 0). ap (λ (k : Looked). k.inspection) (look_stopped l e some) ∙ sym (inspected_stays l.inspection t a e some))
      (zero_or_not l.inspection.rule)

  -- ---- one after another

  pub look_append : (l : Looked) (first rest : List Entry) → looked_all t a l (first ++ rest) ≡ looked_all t a (looked_all t a l first) rest
  unfolding looked_all
  look_append l [] rest = refl
  look_append l (e ∷ first) rest = look_append (looked_at t a l e) first rest

  pub all_inspects : (l : Looked) (es : List Entry) → (looked_all t a l es).inspection ≡ inspected_all l.inspection t a es
  unfolding looked_all inspected_all
  all_inspects l [] = refl
  all_inspects l (e ∷ es) = all_inspects (looked_at t a l e) es ∙ ap (λ (s : Inspection). inspected_all s t a es) (look_inspects l e)

  all_stopped : (l : Looked) (es : List Entry) → l.inspection.rule ≢ 0 → looked_all t a l es ≡ l
  unfolding looked_all
  all_stopped l [] some = refl
  all_stopped l (e ∷ es) some = ap (λ (k : Looked). looked_all t a k es) (look_stopped l e some) ∙ all_stopped l es some

  -- ---- the first record that breaks a rule

  moved_rule : (s : Inspection) (e : Entry) → (moved_on s t a e).rule ≡ s.rule
  unfolding visited_on switched_on
  moved_rule s (Visit v) = refl
  moved_rule s (Mark m) = refl

  -- from an inspection with no broken rule on: the records that keep every rule, the one that does not, that it was looked at last, and the record before it
  pub record BrokenFrom (l : Looked) (es : List Entry) : Type 0 where
    pub before : List Entry
    pub behind : List Entry
    pub place : es ≡ before ++ (looked_all t a l es).last ∷ behind
    pub follows : (looked_all t a l es).before ≡ last_or l.last before
    pub kept : (inspected_all l.inspection t a before).rule ≡ 0
    pub broken : (inspected_all l.inspection t a (before ++ ((looked_all t a l es).last ∷ []))).rule ≢ 0
    pub counted : (inspected_all l.inspection t a es).records ≡ (inspected_all l.inspection t a before).records

  -- a record that breaks a rule is not counted
  not_counted : (s : Inspection) (e : Entry) (es : List Entry) → s.rule ≡ 0 → (inspected s t a e).rule ≢ 0 → (inspected_all (inspected s t a e) t a es).records ≡ s.records
  not_counted s e es none some =
      ap (λ (r : Inspection). r.records) (all_stays (inspected s t a e) t a es some)
      ∙ ap (λ (r : Inspection). r.records)
      (inspected_stops s t a e none (broken_rule (expected s t a) e) refl
      (λ z. some (ap (λ (r : Inspection). r.rule) (inspected_moves s t a e none z) ∙ moved_rule s e ∙ none)))

  -- a record that keeps every rule goes before
  kept_before : (l k : Looked) (e : Entry) (es : List Entry) → k ≡ looked_at t a l e → k.inspection ≡ inspected l.inspection t a e → k.last ≡ e → BrokenFrom k es → BrokenFrom l (e ∷ es)
  unfolding looked_all inspected_all last_or
  kept_before l k e es same here looked rest =
      let last : (looked_all t a k es).last ≡ (looked_all t a (looked_at t a l e) es).last = ap (λ (x : Looked). (looked_all t a x es).last) same in
      let on : (xs : List Entry) → inspected_all k.inspection t a xs ≡ inspected_all (inspected l.inspection t a e) t a xs = λ xs. ap (λ (s : Inspection). inspected_all s t a xs) here in
      record {
        before = e ∷ rest.before;
        behind = rest.behind;
        place = ap (λ (xs : List Entry). e ∷ xs) (rest.place ∙ ap (λ (x : Entry). rest.before ++ x ∷ rest.behind) last);
        follows = ap (λ (x : Looked). (looked_all t a x es).before) (sym same) ∙ rest.follows ∙ ap (λ (x : Entry). last_or x rest.before) looked;
        kept = ap (λ (s : Inspection). s.rule) (sym (on rest.before)) ∙ rest.kept;
        broken =
            λ y. rest.broken
            (ap (λ (s : Inspection). s.rule) (on (rest.before ++ ((looked_all t a k es).last ∷ [])))
            ∙ ap (λ (x : Entry). (inspected_all (inspected l.inspection t a e) t a (rest.before ++ (x ∷ []))).rule) last ∙ y);
        counted = ap (λ (s : Inspection). s.records) (sym (on es)) ∙ rest.counted ∙ ap (λ (s : Inspection). s.records) (on rest.before);
      }

  -- one that breaks a rule is the first, and is looked at last
  broken_here : (l k : Looked) (e : Entry) (es : List Entry) → k ≡ looked_at t a l e → k ≡ record { inspection = inspected l.inspection t a e; before = l.last; last = e }
      → l.inspection.rule ≡ 0 → (inspected l.inspection t a e).rule ≢ 0 → BrokenFrom l (e ∷ es)
  unfolding looked_all inspected_all last_or
  broken_here l k e es same here none some =
      let stays : looked_all t a k es ≡ k = all_stopped k es (λ y. some (ap (λ (x : Looked). x.inspection.rule) (sym here) ∙ y)) in
      let last : (looked_all t a (looked_at t a l e) es).last ≡ e = ap (λ (x : Looked). (looked_all t a x es).last) (sym same) ∙ ap (λ (x : Looked). x.last) (stays ∙ here) in
      record {
        before = [];
        behind = es;
        place = ap (λ (x : Entry). x ∷ es) (sym last);
        follows = ap (λ (x : Looked). (looked_all t a x es).before) (sym same) ∙ ap (λ (x : Looked). x.before) (stays ∙ here);
        kept = none;
        broken = λ y. some (ap (λ (x : Entry). (inspected l.inspection t a x).rule) (sym last) ∙ y);
        counted = not_counted l.inspection e es none some;
      }

  pub broken_from : (l : Looked) (es : List Entry) → l.inspection.rule ≡ 0 → (inspected_all l.inspection t a es).rule ≢ 0 → BrokenFrom l es
  unfolding inspected_all
  broken_from l [] none some = absurd (some none)
  broken_from l (e ∷ es) none some =
      let k = looked_at t a l e in
      let one = look_on l e none in
      let here : k.inspection ≡ inspected l.inspection t a e = ap (λ (x : Looked). x.inspection) one in
      ⊎_elim (λ (z : (inspected l.inspection t a e).rule ≡ 0).
      kept_before l k e es refl here (ap (λ (x : Looked). x.last) one)
      (broken_from k es (ap (λ (s : Inspection). s.rule) here ∙ z) (λ y. some (ap (λ (s : Inspection). (inspected_all s t a es).rule) (sym here) ∙ y))))
      (λ (z : (inspected l.inspection t a e).rule ≢ 0). broken_here l k e es refl one none z)
      (zero_or_not (inspected l.inspection t a e).rule)

  -- ---- the count

  moved_counts : (s : Inspection) (e : Entry) → (moved_on s t a e).records ≡ (s.records + 1) % 2 ^ 64
  unfolding visited_on switched_on
  moved_counts s (Visit v) = refl
  moved_counts s (Mark m) = refl

  judged_counts : (k : ℕ) (s : Inspection) (e : Entry) → (judged k s t a e).rule ≡ 0 → (judged k s t a e).records ≡ (s.records + 1) % 2 ^ 64
  unfolding judged
  judged_counts zero s e z = moved_counts s e
  judged_counts (suc k) s e z = absurd (omega arith)

  one_counted : (s : Inspection) (e : Entry) → s.rule ≡ 0 → (inspected s t a e).rule ≡ 0 → (inspected s t a e).records ≡ (s.records + 1) % 2 ^ 64
  unfolding inspected
  one_counted s e none z =
      let same = eq-eqb s.rule 0 none in
      rw same (judged_counts (broken_rule (expected s t a) e) s e (rw same at z))

  -- behind a broken rule none is kept, so before a kept one none is broken
  still : (s : Inspection) (es : List Entry) → (inspected_all s t a es).rule ≡ 0 → s.rule ≡ 0
  still s es z = ⊎_elim (λ y. y) (λ some. absurd (some (ap (λ (r : Inspection). r.rule) (sym (all_stays s t a es some)) ∙ z))) (zero_or_not s.rule)

  -- records that keep every rule are all counted
  pub all_counted : (s : Inspection) (es : List Entry) → (inspected_all s t a es).rule ≡ 0 → s.records + length es < 2 ^ 64 → (inspected_all s t a es).records ≡ s.records + length es
  unfolding inspected_all
  all_counted s [] z few = omega arith
  all_counted s (e ∷ es) z few =
      let kept : (inspected s t a e).rule ≡ 0 = still (inspected s t a e) es z in
      let none : s.rule ≡ 0 = still s (e ∷ []) kept in
      let one : (inspected s t a e).records ≡ s.records + 1 = one_counted s e none kept ∙ mod-eq_of_lt (omega arith) in
      let rest = all_counted (inspected s t a e) es z (omega arith) in
      omega (arith, one, rest)
