-- What is found after storing: a plan while fewer than sixteen are newer, and 17 for ever where a version was dropped.
use Prim.Native.Nat.{ℕ, ◌+◌, ◌-◌, ◌≤◌, ◌<◌}
use mathlib.Core.Path.{◌≡◌, refl, sym, ap, ◌∙◌}
use mathlib.Core.Bool.{true, false}
use mathlib.Core.List.{List, [], ◌∷◌, ◌++◌}
use mathlib.Core.Logic.{◌≢◌, ⊎_elim}
use native.Mathlib.Omega.{arith}
use borrow.Author.Tests.{le-ltb, eqb-true, eq-eqb}
use lib.Dec.{leb, ltb}
use lib.ListN.{length, take, drop, get_or, length-append, length-drop, get_or-append}
use lib.Seq.{get_or-append_seam, get_or-drop}
use Rattle.units.proofs.SmallLaws.{below_or_not}
use Rattle.fields.specs.Bytes.{AllBytes}
use Rattle.fields.proofs.HeaderLaws.{same_or_not}
use Rattle.versions.specs.Layout.{most_kept, Kept, count, number_of, sheet_of, store_of}
use Rattle.versions.specs.Area.{before_in, newest_in, is_store}
use Rattle.versions.specs.Answers.{is_full, is_kept, store_number, stored_area, found_version}
use Rattle.versions.proofs.AreaLaws.{and_first}
use Rattle.version_rules.specs.Keeping.{newest, Allowed, with_plan, kept_in, Finds}
use Rattle.version_rules.specs.Runs.{after_stores, given}
use Rattle.version_rules.proofs.BackLaws.{begun, laid_store, kept_back}
use Rattle.version_rules.proofs.AgainLaws.{kept_count}
use Rattle.version_rules.proofs.StoredLaws.{plan_fewer, plan_sixteen}
use Rattle.version_rules.proofs.FindLaws.{number_found, not_kept, kept_among, kept_found, finds}
use Rattle.version_rules.proofs.NumberLaws.{store_zero, next_allowed, next_newest, given_same, given_next}
use Rattle.version_rules.proofs.RunLaws.{after_none, after_same, after_next, allowed, zero_laid, stored, stored_allowed, run_leaves}

same_finds : {area area' : List ℕ} {n n' : ℕ} {s s' : List ℕ} → area ≡ area' → n ≡ n' → s ≡ s' → Finds area n s → Finds area' n' s'
same_finds p q r f = rw (← p, ← q, ← r) f

-- every version that is laid out is found
pub finds_laid : (v : Kept) → Allowed v → (k : ℕ) → k < count v → Finds (store_of v) (number_of v k) (sheet_of v k)
finds_laid v a k l =
    let back = kept_back v a in
    same_finds refl (ap (λ (w : Kept). w.before + k + 1) back) (ap (λ (w : Kept). get_or w.sheets k []) back) (finds (store_of v) (laid_store v a) k (omega (arith, ap count back)))

-- the last of what is kept is the plan just stored
last_is : (ss : List (List ℕ)) (sheet : List ℕ) → get_or (ss ++ (sheet ∷ [])) (length (ss ++ (sheet ∷ [])) - 1) [] ≡ sheet
last_is ss sheet =
    let e : length (ss ++ (sheet ∷ [])) - 1 ≡ length ss = omega (arith, length-append ss (sheet ∷ [])) in
    ap (λ (i : ℕ). get_or (ss ++ (sheet ∷ [])) i []) e ∙ get_or-append_seam ss sheet [] []

last_kept_lem : (v : Kept) (sheet : List ℕ) → sheet_of (with_plan v sheet) (count (with_plan v sheet) - 1) ≡ sheet
last_kept_lem v sheet =
    ⊎_elim (λ (e : count v ≡ most_kept). ap (λ (w : Kept). sheet_of w (count w - 1)) (plan_sixteen v sheet e) ∙ last_is (drop 1 v.sheets) sheet)
    (λ (o : count v ≢ most_kept). ap (λ (w : Kept). sheet_of w (count w - 1)) (plan_fewer v sheet o) ∙ last_is v.sheets sheet)
    (same_or_not (count v) most_kept)

some_kept : (v : Kept) (sheet : List ℕ) → 1 ≤ count (with_plan v sheet)
some_kept v sheet =
    ⊎_elim (λ (e : count v ≡ most_kept). omega (arith, ap count (plan_sixteen v sheet e), length-append (drop 1 v.sheets) (sheet ∷ [])))
    (λ (o : count v ≢ most_kept). omega (arith, ap count (plan_fewer v sheet o), length-append v.sheets (sheet ∷ [])))
    (same_or_not (count v) most_kept)

-- where a version that stays stands then
pub record Stays (v : Kept) (sheet : List ℕ) (k : ℕ) : Type 0 where
  pub place : ℕ
  pub kept : place < count (with_plan v sheet)
  pub numbered : number_of (with_plan v sheet) place ≡ number_of v k
  pub plan : sheet_of (with_plan v sheet) place ≡ sheet_of v k

stays_sixteen : (v : Kept) (sheet : List ℕ) (k : ℕ) → k < count v → count v ≡ most_kept → 1 ≤ k → Stays v sheet k
stays_sixteen v sheet k l e some =
    let is = plan_sixteen v sheet e in
    let size = length-append (drop 1 v.sheets) (sheet ∷ []) in
    let left = length-drop 1 v.sheets in
    let next : 1 + (k - 1) ≡ k = omega arith in
    record {
      place = k - 1;
      kept = omega (arith, ap count is);
      numbered = omega (arith, ap (λ (x : Kept). x.before) is);
      plan = ap (λ (x : Kept). sheet_of x (k - 1)) is
          ∙ get_or-append (drop 1 v.sheets) (sheet ∷ []) [] (k - 1) (omega arith)
          ∙ get_or-drop 1 v.sheets (k - 1) []
          ∙ ap (λ (i : ℕ). get_or v.sheets i []) next;
    }

stays_fewer : (v : Kept) (sheet : List ℕ) (k : ℕ) → k < count v → count v ≢ most_kept → Stays v sheet k
stays_fewer v sheet k l o =
    let is = plan_fewer v sheet o in
    record {
      place = k;
      kept = omega (arith, ap count is, length-append v.sheets (sheet ∷ []));
      numbered = ap (λ (x : Kept). number_of x k) is;
      plan = ap (λ (x : Kept). sheet_of x k) is ∙ get_or-append v.sheets (sheet ∷ []) [] k l;
    }

-- a version that is not the oldest of sixteen stays
stays : (v : Kept) (sheet : List ℕ) (k : ℕ) → k < count v → (count v ≡ most_kept → 1 ≤ k) → Stays v sheet k
stays v sheet k l some =
    ⊎_elim (λ (e : count v ≡ most_kept). stays_sixteen v sheet k l e (some e)) (λ (o : count v ≢ most_kept). stays_fewer v sheet k l o) (same_or_not (count v) most_kept)

-- whatever is stored later, a version is found while at most fifteen are newer
found_on_lem : (v : Kept) → Allowed v → (k : ℕ) → k < count v → (later : List (List ℕ)) → count v + length (given (store_of v) later) ≤ k + most_kept
    → Finds (after_stores (store_of v) later) (number_of v k) (sheet_of v k)
found_on_lem v a k l [] few = same_finds (sym (after_none (store_of v))) refl refl (finds_laid v a k l)
found_on_lem v a k l (sheet ∷ later) few =
    ⊎_elim (λ (z : store_number (store_of v) sheet ≡ 0).
    let one = ap length (given_next v a sheet z later) in
    let more = next_newest v a sheet z in
    let there = stays v sheet k l (λ e. omega (arith, one)) in
    let newer : count (with_plan v sheet) + length (given (store_of (with_plan v sheet)) later) ≤ there.place + most_kept = omega (arith, one, more, there.numbered) in
    same_finds (sym (after_next v a sheet z later)) there.numbered there.plan (found_on_lem (with_plan v sheet) (next_allowed v a sheet z) there.place there.kept later newer))
    (λ (o : store_number (store_of v) sheet ≢ 0).
    same_finds (sym (after_same (store_of v) sheet later o)) refl refl (found_on_lem v a k l later (omega (arith, ap length (given_same (store_of v) sheet later o)))))
    (same_or_not (store_number (store_of v) sheet) 0)

-- a number before the oldest is 17
gone : (v : Kept) → Allowed v → (version : ℕ) → version ≤ v.before → (found_version (store_of v) version).number ≡ 17
gone v a version l =
    let low : version ≤ before_in (store_of v) = omega (arith, begun v a) in
    let none : is_kept (store_of v) version ≡ false = and_first (ltb (before_in (store_of v)) version) (leb version (newest_in (store_of v))) (le-ltb _ _ low) in
    number_found (store_of v) version ∙ not_kept (store_of v) version (laid_store v a) none

module _ (bs sheet : List ℕ) (bytes : AllBytes bs) (z : store_number bs sheet ≡ 0) where
  abbrev w : Kept
  w = with_plan (kept_in bs) sheet

  is_store_lem : is_store bs ≡ true
  is_store_lem = ((store_zero bs sheet).0 z).0

  -- what is kept then, its newest number, and that of its last plan
  newest_then : newest (with_plan (kept_in bs) sheet) ≡ newest_in bs + 1
  newest_then = omega (arith, kept_count bs bytes is_store_lem, next_newest (kept_in bs) (allowed bs sheet bytes z) sheet (zero_laid bs sheet bytes z))

  last_number_lem : number_of (with_plan (kept_in bs) sheet) (count (with_plan (kept_in bs) sheet) - 1) ≡ newest_in bs + 1
  last_number_lem = omega (arith, some_kept (kept_in bs) sheet, newest_then)

  -- the same, after later plans
  later_same : (later : List (List ℕ)) → after_stores (stored_area bs sheet) later ≡ after_stores (store_of w) later
  later_same later = ap (λ (b : List ℕ). after_stores b later) (stored bs sheet bytes z)

  later_given : (later : List (List ℕ)) → length (given (stored_area bs sheet) later) ≡ length (given (store_of w) later)
  later_given later = ap (λ (b : List ℕ). length (given b later)) (stored bs sheet bytes z)

  pub just_stored : Finds (stored_area bs sheet) (newest_in bs + 1) sheet
  just_stored =
      same_finds (sym (stored bs sheet bytes z)) last_number_lem (last_kept_lem (kept_in bs) sheet) (finds_laid w (stored_allowed bs sheet bytes z) (count w - 1) (omega (arith, some_kept (kept_in bs) sheet)))

  pub while_newest : (later : List (List ℕ)) → length (given (stored_area bs sheet) later) < most_kept → Finds (after_stores (stored_area bs sheet) later) (newest_in bs + 1) sheet
  while_newest later few =
      let some = some_kept (kept_in bs) sheet in
      same_finds (sym (later_same later)) last_number_lem (last_kept_lem (kept_in bs) sheet)
      (found_on_lem w (stored_allowed bs sheet bytes z) (count w - 1) (omega arith) later (omega (arith, later_given later)))

  pub no_longer : (later : List (List ℕ)) → most_kept ≤ length (given (stored_area bs sheet) later) → (found_version (after_stores (stored_area bs sheet) later) (newest_in bs + 1)).number ≡ 17
  no_longer later many =
      let left = run_leaves w (stored_allowed bs sheet bytes z) later in
      let old : newest_in bs + 1 ≤ left.kept.before = omega (arith, left.risen, left.allowed.few, newest_then, later_given later) in
      ap (λ (b : List ℕ). (found_version b (newest_in bs + 1)).number) (later_same later ∙ left.laid) ∙ gone left.kept left.allowed (newest_in bs + 1) old

  pub dropped : is_full bs ≡ true → (later : List (List ℕ)) → (found_version (after_stores (stored_area bs sheet) later) (before_in bs + 1)).number ≡ 17
  dropped full later =
      let left = run_leaves w (stored_allowed bs sheet bytes z) later in
      let all : count (kept_in bs) ≡ most_kept = kept_count bs bytes is_store_lem ∙ eqb-true _ _ full in
      let before : (with_plan (kept_in bs) sheet).before ≡ before_in bs + 1 = ap (λ (x : Kept). x.before) (plan_sixteen (kept_in bs) sheet all) in
      ap (λ (b : List ℕ). (found_version b (before_in bs + 1)).number) (later_same later ∙ left.laid) ∙ gone left.kept left.allowed (before_in bs + 1) (omega (arith, left.begun))

  pub others : (version : ℕ) (plan : List ℕ) → Finds bs version plan → (is_full bs ≡ true → version ≢ before_in bs + 1) → Finds (stored_area bs sheet) version plan
  others version plan f stay =
      let among = kept_among bs version (kept_found bs version is_store_lem f.found) in
      let k = among.0 in
      let l : k < count (kept_in bs) = among.1.0 in
      let e : version ≡ number_of (kept_in bs) k = among.1.1 in
      let size = kept_count bs bytes is_store_lem in
      let same : sheet_of (kept_in bs) k ≡ plan =
      sym (finds bs is_store_lem k l).bytes ∙ ap (λ (n : ℕ). take (found_version bs n).length (drop (found_version bs n).place bs)) (sym e) ∙ f.bytes in
      let there : Stays (kept_in bs) sheet k =
      stays (kept_in bs) sheet k l
      (λ all.
      let full : is_full bs ≡ true = eq-eqb _ _ (sym size ∙ all) in
      ⊎_elim (λ (b : k < 1). absurd (stay full (omega arith))) (λ (b : 1 ≤ k). b) (below_or_not k 1)) in
      same_finds (sym (stored bs sheet bytes z)) (there.numbered ∙ sym e) (there.plan ∙ same) (finds_laid w (stored_allowed bs sheet bytes z) there.place there.kept)
