-- Finding: each number exactly when its line holds, and the bytes that are found.
use Prim.Native.Nat.{ℕ, zero, suc, ◌+◌, ◌-◌, ◌≤◌, ◌<◌}
use mathlib.Core.Path.{◌≡◌, refl, sym, ap, ◌∙◌}
use mathlib.Core.Bool.{true, false}
use mathlib.Core.List.{List, []}
use mathlib.Core.Logic.{◌↔◌, ⊎_elim}
use native.Mathlib.Omega.{arith}
use borrow.Author.Tests.{lt-ltb, le-leb, ltb-true, leb-true}
use lib.Dec.{leb, ltb}
use lib.ListN.{length, get_or}
use Rattle.units.proofs.JudgingLaws.{held, failed, true_and, and-true, true_or_false}
use Rattle.sheets.proofs.ReadLaws.{then_rest, then_keeps}
use Rattle.versions.specs.Layout.{most_kept, count}
use Rattle.versions.specs.Area.{place_of, before_in, count_in, newest_in, is_store, area_number}
use Rattle.versions.specs.Answers.{is_kept, find_number, found_place, found_with, found_version}
use Rattle.versions.proofs.AreaLaws.{kept_here, sheet_length_lem}
use Rattle.version_rules.specs.Keeping.{Among, kept_in, Finds}
use Rattle.version_rules.proofs.AgainLaws.{sheets_count, sheet_read}

found_number : (k : ℕ) (bs : List ℕ) (a : ℕ) → (found_with k bs a).number ≡ k
unfolding found_with
found_number zero bs a = refl
found_number (suc k) bs a = refl

module _ (bs : List ℕ) (version : ℕ) where
  pub number_found : (found_version bs version).number ≡ find_number bs version
  number_found = found_number (find_number bs version) bs (found_place bs version)

  pub no_store : is_store bs ≡ false → find_number bs version ≡ 2
  no_store e = let k : area_number bs ≡ 2 = failed _ _ _ e in then_keeps _ _ (λ z. absurd (omega (arith, k, z))) ∙ k

  pub not_kept : is_store bs ≡ true → is_kept bs version ≡ false → find_number bs version ≡ 17
  not_kept e n = then_rest _ _ (held _ _ _ e) ∙ failed _ _ _ n

  pub is_kept_lem : is_store bs ≡ true → is_kept bs version ≡ true → find_number bs version ≡ 0
  is_kept_lem e n = then_rest _ _ (held _ _ _ e) ∙ held _ _ _ n

  pub find_two : ((found_version bs version).number ≡ 2) ↔ (is_store bs ≡ false)
  find_two = (
    λ h.
        ⊎_elim (λ (e : is_store bs ≡ true).
        ⊎_elim (λ (n : is_kept bs version ≡ true). absurd (omega (arith, h, number_found, is_kept_lem e n))) (λ (n : is_kept bs version ≡ false). absurd (omega (arith, h, number_found, not_kept e n)))
        (true_or_false (is_kept bs version)))
        (λ (e : is_store bs ≡ false). e)
        (true_or_false (is_store bs)),
    λ e. number_found ∙ no_store e,
  )

  -- a kept version's number lies between the numbers before and the newest, and the other way round
  among_kept : Among (kept_in bs) version → is_kept bs version ≡ true
  among_kept m =
      let size = sheets_count bs (count_in bs) in
      let k = m.1.0 in
      let e = m.1.1 in
      let low : before_in bs < version = omega arith in
      let high : version ≤ newest_in bs = omega arith in
      true_and (ltb (before_in bs) version) (leb version (newest_in bs)) (lt-ltb _ _ low) (le-leb _ _ high)

  pub kept_among : is_kept bs version ≡ true → Among (kept_in bs) version
  kept_among h =
      let w = and-true (ltb (before_in bs) version) (leb version (newest_in bs)) h in
      let low : before_in bs < version = ltb-true _ _ w.0 in
      let high : version ≤ newest_in bs = leb-true _ _ w.1 in
      let size = sheets_count bs (count_in bs) in
      (version - before_in bs - 1, (omega arith, omega arith))

  -- what is found is kept
  pub kept_found : is_store bs ≡ true → (found_version bs version).number ≡ 0 → is_kept bs version ≡ true
  kept_found e h =
      ⊎_elim (λ (n : is_kept bs version ≡ true). n) (λ (n : is_kept bs version ≡ false). absurd (omega (arith, h, number_found, not_kept e n))) (true_or_false (is_kept bs version))

  pub find_seventeen : ((found_version bs version).number ≡ 17) ↔ ((is_store bs ≡ true) × (Among (kept_in bs) version → ⊥))
  find_seventeen = (
    λ h.
        ⊎_elim (λ (e : is_store bs ≡ true). (e, λ m. omega (arith, h, number_found, is_kept_lem e (among_kept m)))) (λ (e : is_store bs ≡ false). absurd (omega (arith, h, number_found, no_store e)))
        (true_or_false (is_store bs)),
    λ h.
        ⊎_elim (λ (n : is_kept bs version ≡ true). absurd (h.1 (kept_among n))) (λ (n : is_kept bs version ≡ false). number_found ∙ not_kept h.0 n)
        (true_or_false (is_kept bs version)),
  )

-- a kept version is found, and these are its plan's bytes
pub finds : (bs : List ℕ) → is_store bs ≡ true → (k : ℕ) → k < count (kept_in bs) → Finds bs ((kept_in bs).before + k + 1) (get_or (kept_in bs).sheets k [])
unfolding found_with
finds bs store k l =
    let size = sheets_count bs (count_in bs) in
    let b : k < count_in bs = omega arith in
    let low : before_in bs < before_in bs + k + 1 = omega arith in
    let high : before_in bs + k + 1 ≤ newest_in bs = omega arith in
    let kept : is_kept bs (before_in bs + k + 1) ≡ true = true_and (ltb (before_in bs) (before_in bs + k + 1)) (leb (before_in bs + k + 1) (newest_in bs)) (lt-ltb _ _ low) (le-leb _ _ high) in
    let zero : find_number bs (before_in bs + k + 1) ≡ 0 = is_kept_lem bs (before_in bs + k + 1) store kept in
    let place : before_in bs + k + 1 - before_in bs - 1 ≡ k = omega arith in
    record {
      found = number_found bs (before_in bs + k + 1) ∙ zero;
      long = rw (zero, place) (sym (ap length (sheet_read bs (count_in bs) k b) ∙ sheet_length_lem bs (place_of bs k) (kept_here bs most_kept k b).field));
      bytes = rw (zero, place) (sym (sheet_read bs (count_in bs) k b));
    }
