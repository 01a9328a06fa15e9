-- Plans stored one after another on the empty store: the sixteen newest are kept; and every store is reached so.
use Prim.Native.Nat.{ℕ, ◌+◌, ◌-◌, ◌≤◌, ◌<◌}
use mathlib.Core.Path.{◌≡◌, refl, sym, ap, ◌∙◌}
use mathlib.Core.Bool.{true}
use mathlib.Core.List.{List, [], ◌∷◌, ◌++◌, append_assoc, append-nil}
use mathlib.Core.Logic.{inl, inr, ◌↔◌, ◌≢◌, ⊎_elim}
use native.Mathlib.Omega.{arith}
use lib.ListN.{length, drop, get_or, replicate, length-append, length-drop, length-replicate, get_or-replicate, get_or-append}
use lib.Seq.{drop-append-le, drop-drop, drop_at, get_or-drop, get_or-append-add, get_or-append_seam}
use Rattle.units.proofs.SmallLaws.{below_or_not}
use Rattle.fields.proofs.RowLaws.{rows_none}
use Rattle.fields.specs.Bytes.{AllBytes}
use Rattle.fields.proofs.HeaderLaws.{same_or_not}
use Rattle.sheets.specs.Layout.{end_bytes}
use Rattle.sheets.specs.Reading.{read_plan}
use Rattle.versions.specs.Layout.{most_kept, last_version, Kept, count, field_of, filled_up, store_of, empty_store}
use Rattle.versions.specs.Area.{is_store}
use Rattle.versions.specs.Answers.{store_number}
use Rattle.version_rules.specs.Keeping.{nothing, newest, Allowed, with_plan, last_kept, kept_in}
use Rattle.version_rules.specs.Runs.{after_stores, Reached}
use Rattle.version_rules.proofs.BackLaws.{laid_store}
use Rattle.version_rules.proofs.AgainLaws.{kept_allowed, kept_again}
use Rattle.version_rules.proofs.StoredLaws.{plan_fewer, plan_sixteen}
use Rattle.version_rules.proofs.NumberLaws.{store_zero, newest_laid, next_area}
use Rattle.version_rules.proofs.RunLaws.{after_none, after_one}

pub none : store_of nothing ≡ empty_store
unfolding store_of
none = ap (λ (x : List ℕ). filled_up (x ++ end_bytes)) (rows_none (field_of nothing))

-- plans that plan reading accepts
abbrev AllRead : List (List ℕ) → Type 0
AllRead plans = (k : ℕ) → k < length plans → (read_plan (get_or plans k [])).number ≡ 0

-- the newest of them are allowed
pub last_allowed : (plans : List (List ℕ)) → AllRead plans → length plans ≤ last_version → Allowed (last_kept plans)
last_allowed plans all few =
    let size = length-drop (length plans - most_kept) plans in
    record {
      few = omega arith;
      none_missing_lem =
          ⊎_elim (λ (b : length plans < most_kept). inl (omega arith)) (λ (b : most_kept ≤ length plans). inr (omega arith)) (below_or_not (length plans) most_kept);
      numbered = omega arith;
      plans = λ k l. ap (λ (x : List ℕ). (read_plan x).number) (get_or-drop (length plans - most_kept) plans k []) ∙ all (length plans - most_kept + k) (omega arith);
    }

same_kept : (b b' : ℕ) (ss ss' : List (List ℕ)) → b ≡ b' → ss ≡ ss' → ◌≡◌ {A = Kept} (record { before = b; sheets = ss }) (record { before = b'; sheets = ss' })
same_kept b b' ss ss' p q = rw (p, q) refl

-- one more of them
last_more : (done : List (List ℕ)) (sheet : List ℕ) → with_plan (last_kept done) sheet ≡ last_kept (done ++ (sheet ∷ []))
last_more done sheet =
    let n = length done in
    let size = length-drop (length done - most_kept) done in
    let more = length-append done (sheet ∷ []) in
    ⊎_elim (λ (e : count (last_kept done) ≡ most_kept).
    let k : length (done ++ (sheet ∷ [])) - most_kept ≡ length done - most_kept + 1 = omega arith in
    let fits : length done - most_kept + 1 ≤ length done = omega arith in
    plan_sixteen (last_kept done) sheet e
    ∙ same_kept _ _ _ _ (sym k)
    (ap (λ (x : List (List ℕ)). x ++ (sheet ∷ [])) (drop-drop 1 (length done - most_kept) done)
    ∙ sym (ap (λ (i : ℕ). drop i (done ++ (sheet ∷ []))) k ∙ drop-append-le (length done - most_kept + 1) done (sheet ∷ []) fits)))
    (λ (o : count (last_kept done) ≢ most_kept).
    let none-gone : length done - most_kept ≡ 0 = omega (arith, o) in
    let k : length (done ++ (sheet ∷ [])) - most_kept ≡ length done - most_kept = omega (arith, o) in
    let fits : length done - most_kept ≤ length done = omega arith in
    plan_fewer (last_kept done) sheet o
    ∙ same_kept _ _ _ _ (sym k) (sym (ap (λ (i : ℕ). drop i (done ++ (sheet ∷ []))) k ∙ drop-append-le (length done - most_kept) done (sheet ∷ []) fits)))
    (same_or_not (count (last_kept done)) most_kept)

-- storing the rest behind those that are stored
stored_on : (done rest : List (List ℕ)) → AllRead (done ++ rest) → length (done ++ rest) ≤ last_version → after_stores (store_of (last_kept done)) rest ≡ store_of (last_kept (done ++ rest))
stored_on done [] all few = after_none (store_of (last_kept done)) ∙ ap (λ (x : List (List ℕ)). store_of (last_kept x)) (sym (append-nil done))
stored_on done (sheet ∷ rest) all few =
    let more = length-append done (sheet ∷ rest) in
    let size = length-drop (length done - most_kept) done in
    let before : AllRead done = λ k l. ap (λ (x : List ℕ). (read_plan x).number) (sym (get_or-append done (sheet ∷ rest) [] k l)) ∙ all k (omega arith) in
    let this : (read_plan sheet).number ≡ 0 = ap (λ (x : List ℕ). (read_plan x).number) (sym (get_or-append_seam done sheet rest [])) ∙ all (length done) (omega arith) in
    let allowed = last_allowed done before (omega arith) in
    let below : newest (last_kept done) < last_version = omega arith in
    let zero : store_number (store_of (last_kept done)) sheet ≡ 0 = (store_zero (store_of (last_kept done)) sheet).1 (laid_store (last_kept done) allowed, (this, omega (arith, newest_laid (last_kept done) allowed))) in
    let split : done ++ (sheet ∷ []) ++ rest ≡ done ++ (sheet ∷ rest) = append_assoc done (sheet ∷ []) rest in
    after_one (store_of (last_kept done)) sheet rest
    ∙ ap (λ (b : List ℕ). after_stores b rest) (next_area (last_kept done) allowed sheet zero ∙ ap store_of (last_more done sheet))
    ∙ stored_on (done ++ (sheet ∷ [])) rest (rw split all) (rw split few)
    ∙ ap (λ (x : List (List ℕ)). store_of (last_kept x)) split

pub newest_kept : (plans : List (List ℕ)) → AllRead plans → length plans ≤ last_version → after_stores empty_store plans ≡ store_of (last_kept plans)
newest_kept plans all few = ap (λ (b : List ℕ). after_stores b plans) (sym none) ∙ stored_on [] plans all few

-- every store is reached: by as many plans as there were numbers before, whichever they were, and then by those that are kept
unfoldable pub plans_for : Kept → List (List ℕ)
plans_for v = replicate v.before (get_or v.sheets 0 []) ++ v.sheets

module _ (v : Kept) (a : Allowed v) where
  plans_long : length (plans_for v) ≡ newest v
  unfolding plans_for
  plans_long = length-append (replicate v.before (get_or v.sheets 0 [])) v.sheets ∙ ap (λ (k : ℕ). k + count v) (length-replicate v.before (get_or v.sheets 0 []))

  before_is : newest v - most_kept ≡ v.before
  before_is = ⊎_elim (λ (z : v.before ≡ 0). omega (arith, a.few)) (λ (f : count v ≡ most_kept). omega arith) a.none_missing_lem

  plans_last : last_kept (plans_for v) ≡ v
  unfolding plans_for
  plans_last =
      let k : length (plans_for v) - most_kept ≡ v.before = ap (λ (i : ℕ). i - most_kept) plans_long ∙ before_is in
      same_kept _ _ _ _ k
      (ap (λ (i : ℕ). drop i (plans_for v)) k ∙ drop_at (replicate v.before (get_or v.sheets 0 [])) v.sheets v.before (length-replicate v.before (get_or v.sheets 0 [])))

  plans_read : AllRead (plans_for v)
  unfolding plans_for
  plans_read k l =
      let s = get_or v.sheets 0 [] in
      let long = length-replicate v.before (get_or v.sheets 0 []) in
      ⊎_elim (λ (b : k < v.before).
      let some : 0 < count v = ⊎_elim (λ (z : v.before ≡ 0). absurd (omega arith)) (λ (f : count v ≡ most_kept). omega arith) a.none_missing_lem in
      ap (λ (x : List ℕ). (read_plan x).number) (get_or-append (replicate v.before s) v.sheets [] k (omega arith) ∙ get_or-replicate v.before k s [] b) ∙ a.plans 0 some)
      (λ (b : v.before ≤ k).
      let e : k ≡ length (replicate v.before (get_or v.sheets 0 [])) + (k - v.before) = omega arith in
      ap (λ (i : ℕ). (read_plan (get_or (plans_for v) i [])).number) e
      ∙ ap (λ (x : List ℕ). (read_plan x).number) (get_or-append-add (replicate v.before s) v.sheets (k - v.before) [])
      ∙ a.plans (k - v.before) (omega (arith, plans_long)))
      (below_or_not k v.before)

pub reached : (bs : List ℕ) → AllBytes bs → (is_store bs ≡ true) ↔ Reached bs
reached bs bytes = (
  λ e.
      let v = kept_in bs in
      let a = kept_allowed bs bytes e in
      let few : length (plans_for (kept_in bs)) ≤ last_version = omega (arith, plans_long v a, a.numbered) in
      record {
        plans = plans_for (kept_in bs);
        read = plans_read v a;
        few = few;
        gives = sym (newest_kept (plans_for (kept_in bs)) (plans_read v a) few ∙ ap store_of (plans_last v a) ∙ kept_again bs bytes e);
      },
  λ r. ap is_store (r.gives ∙ newest_kept r.plans r.read r.few) ∙ laid_store (last_kept r.plans) (last_allowed r.plans r.read r.few),
)
