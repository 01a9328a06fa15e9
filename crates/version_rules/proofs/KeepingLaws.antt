-- What is kept with one plan more is allowed again, and its newest number is one more.
use Prim.Native.Nat.{ℕ, ◌+◌, ◌≤◌, ◌<◌}
use mathlib.Core.Path.{◌≡◌, ap, ◌∙◌}
use mathlib.Core.List.{List, [], ◌∷◌, ◌++◌}
use mathlib.Core.Logic.{inl, inr, ◌≢◌, ⊎_elim}
use native.Mathlib.Omega.{arith}
use lib.ListN.{length, drop, get_or, length-append, length-drop, get_or-append}
use lib.Seq.{get_or-drop, get_or-append_seam}
use Rattle.units.proofs.SmallLaws.{below_or_not}
use Rattle.fields.proofs.HeaderLaws.{same_or_not}
use Rattle.sheets.specs.Reading.{read_plan}
use Rattle.versions.specs.Layout.{most_kept, last_version, Kept, count}
use Rattle.version_rules.specs.Keeping.{newest, Allowed, with_plan}
use Rattle.version_rules.proofs.StoredLaws.{plan_fewer, plan_sixteen}

-- a plan put behind others: which is read at a place
behind_others : (ss : List (List ℕ)) (sheet : List ℕ) → ((k : ℕ) → k < length ss → (read_plan (get_or ss k [])).number ≡ 0) → (read_plan sheet).number ≡ 0
    → (k : ℕ) → k < length (ss ++ (sheet ∷ [])) → (read_plan (get_or (ss ++ (sheet ∷ [])) k [])).number ≡ 0
behind_others ss sheet all one k l =
    ⊎_elim (λ (b : k < length ss). ap (λ (x : List ℕ). (read_plan x).number) (get_or-append ss (sheet ∷ []) [] k b) ∙ all k b)
    (λ (b : length ss ≤ k).
    let e : k ≡ length ss = omega (arith, length-append ss (sheet ∷ [])) in
    ap (λ (i : ℕ). (read_plan (get_or (ss ++ (sheet ∷ [])) i [])).number) e ∙ ap (λ (x : List ℕ). (read_plan x).number) (get_or-append_seam ss sheet [] []) ∙ one)
    (below_or_not k (length ss))

module _ (v : Kept) (a : Allowed v) (sheet : List ℕ) (one : (read_plan sheet).number ≡ 0) where
  -- the newest number is one more
  pub newest_more : newest (with_plan v sheet) ≡ newest v + 1
  newest_more =
      ⊎_elim (λ (e : count v ≡ most_kept).
      ap newest (plan_sixteen v sheet e) ∙ omega (arith, length-append (drop 1 v.sheets) (sheet ∷ []), length-drop 1 v.sheets))
      (λ (o : count v ≢ most_kept). ap newest (plan_fewer v sheet o) ∙ omega (arith, length-append v.sheets (sheet ∷ [])))
      (same_or_not (count v) most_kept)

  fewer_allowed : newest v < last_version → count v ≢ most_kept → Allowed (record { before = v.before; sheets = v.sheets ++ (sheet ∷ []) })
  fewer_allowed l o =
      let size = length-append v.sheets (sheet ∷ []) in
      record {
        few = omega (arith, a.few);
        none_missing_lem = inl (⊎_elim (λ (z : v.before ≡ 0). z) (λ (f : count v ≡ most_kept). absurd (o f)) a.none_missing_lem);
        numbered = omega arith;
        plans = behind_others v.sheets sheet a.plans one;
      }

  sixteen_allowed : newest v < last_version → count v ≡ most_kept → Allowed (record { before = v.before + 1; sheets = drop 1 v.sheets ++ (sheet ∷ []) })
  sixteen_allowed l e =
      let size = length-append (drop 1 v.sheets) (sheet ∷ []) in
      let left = length-drop 1 v.sheets in
      record {
        few = omega arith;
        none_missing_lem = inr (omega arith);
        numbered = omega arith;
        plans = behind_others (drop 1 v.sheets) sheet (λ k b. ap (λ (x : List ℕ). (read_plan x).number) (get_or-drop 1 v.sheets k []) ∙ a.plans (1 + k) (omega arith)) one;
      }

  pub more_allowed : newest v < last_version → Allowed (with_plan v sheet)
  more_allowed l =
      ⊎_elim (λ (e : count v ≡ most_kept). rw (plan_sixteen v sheet e) (sixteen_allowed l e)) (λ (o : count v ≢ most_kept). rw (plan_fewer v sheet o) (fewer_allowed l o))
      (same_or_not (count v) most_kept)
