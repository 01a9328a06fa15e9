-- The records that keep every rule: the numbers of the stations are theirs, and stay from the named record on; the laps are those of all.
use Rattle.std.proofs.Common.{◌≡◌, ℕ, ◌≢◌, List, [], ◌∷◌, ◌++◌, sym, refl, ap, ◌∙◌, subst, ⊎_elim, arith, ne_eqb}
use Rattle.sets.specs.declared.Set.{Set}
use Rattle.plans.specs.declared.Alloc.{Alloc}
use Rattle.log_records.specs.declared.Entry.{Entry}
use Rattle.field_reader.proofs.ScannedLaws.{zero_or_not}
use Rattle.inspection.specs.Records.{inspected, inspected_all}
use Rattle.inspection.specs.declared.Inspection.{Inspection}
use Rattle.inspection_stream.specs.Inspecting.{looked_at}
use Rattle.inspection_stream.specs.declared.Looked.{Looked}
use Rattle.inspection_stream.proofs.LookLaws.{look_stopped, look_inspects}
use Rattle.tallies.specs.Laps.{lapped_all}
use Rattle.tallies.specs.Tallies.{seen, seen_all}
use Rattle.tallies.specs.declared.Lap.{Lap}
use Rattle.tallies.specs.declared.Seen.{Seen}
use Rattle.picture_stream.proofs.OverLaws.{seen_over, seen_lap}

module _ (t : Set) (a : Alloc) where
  -- ---- the laps

  over_lap : (l : Looked) (s : Seen) (es : List Entry) → (seen_over t a l s es).course.all ≡ lapped_all t.n t.w s.course.all es
  unfolding seen_over lapped_all
  over_lap l s [] = refl
  over_lap l s (e ∷ es) =
      let rule = (looked_at t a l e).inspection.rule in
      over_lap (looked_at t a l e) (seen t.n t.w rule s e) es
      ∙ ap (λ (x : Lap). lapped_all t.n t.w x es) (seen_lap t.n t.w rule s e)

  pub all_lap : (s : Seen) (es : List Entry) → (seen_all t.n t.w s es).course.all ≡ lapped_all t.n t.w s.course.all es
  unfolding seen_all lapped_all
  all_lap s [] = refl
  all_lap s (e ∷ es) = all_lap (seen t.n t.w 0 s e) es ∙ ap (λ (x : Lap). lapped_all t.n t.w x es) (seen_lap t.n t.w 0 s e)

  -- ---- behind a broken rule

  record Stays (s s' : Seen) : Type 0 where
    numbers : s'.numbers ≡ s.numbers
    lap : s'.course.kept ≡ s.course.kept

  stays_then : (s s' s'' : Seen) → Stays s s' → Stays s' s'' → Stays s s''
  stays_then s s' s'' p q = record { numbers = q.numbers ∙ p.numbers; lap = q.lap ∙ p.lap }

  one_stays : (rule : ℕ) (s : Seen) (e : Entry) → rule ≢ 0 → Stays s (seen t.n t.w rule s e)
  unfolding seen
  one_stays rule s e some = rw (ne_eqb rule 0 some) (record { numbers = refl; lap = refl })

  over_stays : (l : Looked) (s : Seen) (es : List Entry) → l.inspection.rule ≢ 0 → Stays s (seen_over t a l s es)
  unfolding seen_over
  over_stays l s [] some = record { numbers = refl; lap = refl }
  over_stays l s (e ∷ es) some =
      rw (look_stopped t a l e some)
      (stays_then s (seen t.n t.w l.inspection.rule s e) _ (one_stays l.inspection.rule s e some) (over_stays l (seen t.n t.w l.inspection.rule s e) es some))

  -- ---- up to the named record

  pub record KeptFrom (l : Looked) (s : Seen) (es : List Entry) (s' : Seen) : Type 0 where
    pub kept : List Entry
    pub behind : List Entry
    pub place : es ≡ kept ++ behind
    pub rule : (inspected_all l.inspection t a kept).rule ≡ 0
    pub named : (e : Entry) (more : List Entry) → behind ≡ e ∷ more → (inspected_all l.inspection t a (kept ++ (e ∷ []))).rule ≢ 0
    pub numbers : s'.numbers ≡ (seen_all t.n t.w s kept).numbers
    pub lap : s'.course.kept ≡ (seen_all t.n t.w s kept).course.all

  not_empty : (e : Entry) (more : List Entry) → ◌≡◌ {A = List Entry} [] (e ∷ more) → ⊥
  not_empty e more h =
      let z : ◌≡◌ {A = ℕ} 0 1 = cc in
      omega arith

  first_same : (e f : Entry) (es fs : List Entry) → ◌≡◌ {A = List Entry} (e ∷ es) (f ∷ fs) → e ≡ f
  first_same e f es fs h = cc

  -- this record keeps every rule
  kept_on : (l k : Looked) (s : Seen) (e : Entry) (es : List Entry) (s' : Seen) → k.inspection ≡ inspected l.inspection t a e → KeptFrom k (seen t.n t.w 0 s e) es s' → KeptFrom l s (e ∷ es) s'
  unfolding inspected_all seen_all
  kept_on l k s e es s' here rest =
      let on : (xs : List Entry) → (inspected_all (inspected l.inspection t a e) t a xs).rule ≡ (inspected_all k.inspection t a xs).rule = λ xs. ap (λ (i : Inspection). (inspected_all i t a xs).rule) (sym here) in
      record {
        kept = e ∷ rest.kept;
        behind = rest.behind;
        place = ap (λ (xs : List Entry). e ∷ xs) rest.place;
        rule = on rest.kept ∙ rest.rule;
        named = λ f more h y. rest.named f more h (sym (on (rest.kept ++ (f ∷ []))) ∙ y);
        numbers = rest.numbers;
        lap = rest.lap;
      }

  -- this one is named
  named_here : (l : Looked) (s : Seen) (e : Entry) (es : List Entry) (s' : Seen) → l.inspection.rule ≡ 0 → (inspected l.inspection t a e).rule ≢ 0 → s.course.kept ≡ s.course.all → Stays s s' → KeptFrom l s (e ∷ es) s'
  unfolding inspected_all seen_all
  named_here l s e es s' none some same stays =
      record {
        kept = [];
        behind = e ∷ es;
        place = refl;
        rule = none;
        named = λ f more h y. some (ap (λ (x : Entry). (inspected l.inspection t a x).rule) (first_same e f es more h) ∙ y);
        numbers = stays.numbers;
        lap = stays.lap ∙ same;
      }

  both_laps : (s : Seen) (e : Entry) → (seen t.n t.w 0 s e).course.kept ≡ (seen t.n t.w 0 s e).course.all
  unfolding seen
  both_laps s e = refl

  pub kept_from : (l : Looked) (s : Seen) (es : List Entry) → l.inspection.rule ≡ 0 → s.course.kept ≡ s.course.all → KeptFrom l s es (seen_over t a l s es)
  unfolding inspected_all seen_all seen_over
  kept_from l s [] none same =
      record {
        kept = [];
        behind = [];
        place = refl;
        rule = none;
        named = λ e more h. absurd (not_empty e more h);
        numbers = refl;
        lap = same;
      }
  kept_from l s (e ∷ es) none same =
      let k = looked_at t a l e in
      let here = look_inspects t a l e in
      ⊎_elim
      (λ (z : (looked_at t a l e).inspection.rule ≡ 0).
      subst (λ (rule : ℕ). KeptFrom l s (e ∷ es) (seen_over t a k (seen t.n t.w rule s e) es)) (sym z)
      (kept_on l k s e es (seen_over t a k (seen t.n t.w 0 s e) es) here (kept_from k (seen t.n t.w 0 s e) es z (both_laps s e))))
      (λ (some : (looked_at t a l e).inspection.rule ≢ 0).
      let rule = k.inspection.rule in
      named_here l s e es _ none (λ y. some (ap (λ (i : Inspection). i.rule) here ∙ y)) same
      (stays_then s (seen t.n t.w rule s e) _ (one_stays rule s e some) (over_stays k (seen t.n t.w rule s e) es some)))
      (zero_or_not (looked_at t a l e).inspection.rule)

  pub laps_of_all : (l : Looked) (s : Seen) (es : List Entry) → (seen_over t a l s es).course.all ≡ (seen_all t.n t.w s es).course.all
  laps_of_all l s es = over_lap l s es ∙ sym (all_lap s es)
