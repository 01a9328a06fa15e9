-- Runs of plans: what they leave, that 18 is for ever, and that the store of plans stored one after another keeps the sixteen newest.
use Prim.Native.Nat.{ℕ, ◌+◌, ◌≤◌}
use mathlib.Core.Path.{◌≡◌, refl, sym, ap, ◌∙◌}
use mathlib.Core.Bool.{true}
use mathlib.Core.List.{List, [], ◌∷◌}
use mathlib.Core.Logic.{◌≢◌, ⊎_elim}
use native.Mathlib.Omega.{arith}
use lib.ListN.{length}
use Rattle.fields.specs.Bytes.{AllBytes}
use Rattle.fields.proofs.HeaderLaws.{same_or_not}
use Rattle.versions.specs.Layout.{most_kept, last_version, Kept, count, store_of}
use Rattle.versions.specs.Area.{newest_in, is_store}
use Rattle.versions.specs.Answers.{store_number, stored_area}
use Rattle.version_rules.specs.Keeping.{newest, Allowed, with_plan, kept_in}
use Rattle.version_rules.specs.Runs.{after_stores, given}
use Rattle.version_rules.proofs.BackLaws.{laid_store}
use Rattle.version_rules.proofs.AgainLaws.{kept_count, kept_allowed, kept_again}
use Rattle.version_rules.proofs.StoredLaws.{plan_fewer, plan_sixteen}
use Rattle.version_rules.proofs.NumberLaws.{store_zero, store_refused, newest_laid, next_area, next_allowed, next_newest, given_none, given_same, given_next}

pub after_none : (bs : List ℕ) → after_stores bs [] ≡ bs
unfolding after_stores
after_none bs = refl

pub after_one : (bs sheet : List ℕ) (sheets : List (List ℕ)) → after_stores bs (sheet ∷ sheets) ≡ after_stores (stored_area bs sheet) sheets
unfolding after_stores
after_one bs sheet sheets = refl

-- a refused plan leaves what was, an accepted one what is kept then
pub after_same : (bs sheet : List ℕ) (sheets : List (List ℕ)) → store_number bs sheet ≢ 0 → after_stores bs (sheet ∷ sheets) ≡ after_stores bs sheets
after_same bs sheet sheets o = after_one bs sheet sheets ∙ ap (λ (b : List ℕ). after_stores b sheets) (store_refused bs sheet o).0

pub after_next : (v : Kept) → Allowed v → (sheet : List ℕ) → store_number (store_of v) sheet ≡ 0 → (sheets : List (List ℕ)) → after_stores (store_of v) (sheet ∷ sheets) ≡ after_stores (store_of (with_plan v sheet)) sheets
after_next v a sheet z sheets = after_one (store_of v) sheet sheets ∙ ap (λ (b : List ℕ). after_stores b sheets) (next_area v a sheet z)

-- ---- 18 for ever

pub used_up : (bs : List ℕ) → newest_in bs ≡ last_version → (later : List (List ℕ)) → (after_stores bs later ≡ bs) × (given bs later ≡ [])
used_up bs n [] = (after_none bs, given_none bs)
used_up bs n (sheet ∷ later) =
    let o : store_number bs sheet ≢ 0 = λ z. absurd (omega (arith, ((store_zero bs sheet).0 z).1.1)) in
    let rest = used_up bs n later in
    (after_same bs sheet later o ∙ rest.0, given_same bs sheet later o ∙ rest.1)

-- ---- one plan more, of any area

module _ (bs sheet : List ℕ) (bytes : AllBytes bs) (z : store_number bs sheet ≡ 0) where
  store : is_store bs ≡ true
  store = ((store_zero bs sheet).0 z).0

  again : store_of (kept_in bs) ≡ bs
  again = kept_again bs bytes store

  pub allowed : Allowed (kept_in bs)
  allowed = kept_allowed bs bytes store

  pub zero_laid : store_number (store_of (kept_in bs)) sheet ≡ 0
  zero_laid = ap (λ (b : List ℕ). store_number b sheet) again ∙ z

  pub stored : stored_area bs sheet ≡ store_of (with_plan (kept_in bs) sheet)
  stored = ap (λ (b : List ℕ). stored_area b sheet) (sym again) ∙ next_area (kept_in bs) allowed sheet zero_laid

  pub stored_allowed : Allowed (with_plan (kept_in bs) sheet)
  stored_allowed = next_allowed (kept_in bs) allowed sheet zero_laid

  pub newest_is : newest_in (stored_area bs sheet) ≡ newest_in bs + 1
  newest_is =
      let size = kept_count bs bytes store in
      ap newest_in stored ∙ newest_laid (with_plan (kept_in bs) sheet) stored_allowed ∙ next_newest (kept_in bs) allowed sheet zero_laid ∙ omega arith

pub stays_store : (bs sheet : List ℕ) → AllBytes bs → is_store bs ≡ true → is_store (stored_area bs sheet) ≡ true
stays_store bs sheet bytes e =
    ⊎_elim (λ (z : store_number bs sheet ≡ 0). ap is_store (stored bs sheet bytes z) ∙ laid_store (with_plan (kept_in bs) sheet) (stored_allowed bs sheet bytes z))
    (λ (o : store_number bs sheet ≢ 0). ap is_store (store_refused bs sheet o).0 ∙ e)
    (same_or_not (store_number bs sheet) 0)

-- ---- what was dropped stays so

-- the numbers before the oldest never fall
before_rises : (v : Kept) (sheet : List ℕ) → v.before ≤ (with_plan v sheet).before
before_rises v sheet =
    ⊎_elim (λ (e : count v ≡ most_kept). omega (arith, ap (λ (w : Kept). w.before) (plan_sixteen v sheet e))) (λ (o : count v ≢ most_kept). omega (arith, ap (λ (w : Kept). w.before) (plan_fewer v sheet o)))
    (same_or_not (count v) most_kept)

-- what a run leaves; its newest number has risen by as many as were given
pub record Left (v : Kept) (later : List (List ℕ)) : Type 0 where
  pub kept : Kept
  pub allowed : Allowed kept
  pub laid : after_stores (store_of v) later ≡ store_of kept
  pub risen : newest kept ≡ newest v + length (given (store_of v) later)
  pub begun : v.before ≤ kept.before

pub run_leaves : (v : Kept) → Allowed v → (later : List (List ℕ)) → Left v later
run_leaves v a [] = record { kept = v; allowed = a; laid = after_none (store_of v); risen = omega (arith, ap length (given_none (store_of v))); begun = omega arith }
run_leaves v a (sheet ∷ later) =
    ⊎_elim (λ (z : store_number (store_of v) sheet ≡ 0).
    let rest = run_leaves (with_plan v sheet) (next_allowed v a sheet z) later in
    record {
      kept = rest.kept;
      allowed = rest.allowed;
      laid = after_next v a sheet z later ∙ rest.laid;
      risen = omega (arith, rest.risen, next_newest v a sheet z, ap length (given_next v a sheet z later));
      begun = omega (arith, before_rises v sheet, rest.begun);
    })
    (λ (o : store_number (store_of v) sheet ≢ 0).
    let rest = run_leaves v a later in
    record {
      kept = rest.kept;
      allowed = rest.allowed;
      laid = after_same (store_of v) sheet later o ∙ rest.laid;
      risen = omega (arith, rest.risen, ap length (given_same (store_of v) sheet later o));
      begun = rest.begun;
    })
    (same_or_not (store_number (store_of v) sheet) 0)
