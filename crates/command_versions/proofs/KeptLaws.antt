-- The laws of what `kept` finds and of what `versions` prints, for the proofs of this layer. No rule stands here.
use Prim.Native.Nat.{ℕ, zero, suc, ◌+◌, ◌≤◌, ◌<◌}
use mathlib.Core.Path.{◌≡◌, refl, sym, ap, ◌∙◌}
use mathlib.Core.List.{List}
use mathlib.Core.Logic.{◌≢◌, ⊎_elim}
use native.Mathlib.Omega.{arith}
use borrow.Author.Tests.{eq-eqb, ne_eqb}
use Rattle.units.proofs.SmallLaws.{below_or_not}
use Rattle.fields.specs.Rows.{rows}
use Rattle.text.specs.Text.{text_or, refused_line}
use Rattle.text.proofs.TextLaws.{text_accepted, text_refused}
use Rattle.versions.specs.declared.FoundVersion.{FoundVersion}
use Rattle.versions.specs.declared.VersionsIn.{VersionsIn}
use Rattle.versions.specs.Answers.{found_version, versions_in}
use Rattle.versions.proofs.AnswerLaws.{found_inside}
use Rattle.command_versions.specs.VersionWord.{version_asked}
use Rattle.command_versions.specs.VersionsText.{line_in, count_from, count_of, version_lines, versions_printed}
use Rattle.command_versions.specs.Kept.{kept_with, KeptAt}

-- ---- a version that is asked for

with_refused : (k : ℕ) (found : FoundVersion) → k ≢ 0 → record { from = 0; end = 0; number = k } ≡ kept_with k found
unfolding kept_with
with_refused zero found z = absurd (z refl)
with_refused (suc k) found z = refl

with_found : (k : ℕ) (found : FoundVersion) → k ≡ 0 → record { from = found.place; end = found.place + found.length; number = 0 } ≡ kept_with k found
unfolding kept_with
with_found zero found z = refl
with_found (suc k) found z = absurd (omega arith)

module _ (bs word : List ℕ) (version : ℕ) (r : FoundVersion) (asked : version ≡ version_asked word) (e : r ≡ found_version bs version) where
  same : r ≡ found_version bs (version_asked word)
  same = e ∙ ap (λ (v : ℕ). found_version bs v) asked

  pub kept_refused : r.number ≢ 0 → KeptAt bs word (record { from = 0; end = 0; number = r.number })
  kept_refused z =
      record {
        answer = with_refused r.number r z ∙ ap (λ (x : FoundVersion). kept_with x.number x) same;
        order = omega arith;
        inside = omega arith;
      }

  pub kept_found : r.number ≡ 0 → KeptAt bs word (record { from = r.place; end = r.place + r.length; number = 0 })
  kept_found z =
      record {
        answer = with_found r.number r z ∙ ap (λ (x : FoundVersion). kept_with x.number x) same;
        order = omega arith;
        inside = rw e (found_inside bs version);
      }

-- ---- the lines of `versions`

-- the numbers from the oldest on stay within 32 bits
pub count_top : (oldest newest : ℕ) → oldest ≤ newest → newest < 4_294_967_296 → oldest + count_from oldest newest ≤ 4_294_967_296
unfolding count_from
count_top oldest newest h l =
    ⊎_elim (λ (b : oldest < 1). let none : oldest ≡ 0 = omega arith in rw (eq-eqb _ _ none) (omega arith))
    (λ (b : 1 ≤ oldest). rw (ne_eqb oldest 0 (λ e. omega arith)) (omega arith))
    (below_or_not oldest 1)

module _ (bs : List ℕ) (kept : VersionsIn) (e : kept ≡ versions_in bs) where
  pub all_lines : (i n : ℕ) → i ≡ n → n ≡ count_of kept → rows i (λ k. line_in bs (kept.oldest + k)) ≡ version_lines bs
  all_lines i n end counted =
      ap (λ (j : ℕ). rows j (λ k. line_in bs (kept.oldest + k))) (end ∙ counted)
      ∙ ap (λ (x : VersionsIn). rows (count_of x) (λ k. line_in bs (x.oldest + k))) e

  pub number_said : kept.number ≡ (versions_in bs).number
  number_said = ap (λ (x : VersionsIn). x.number) e

  pub refused_said_lem : kept.number ≢ 0 → refused_line kept.number ≡ versions_printed bs
  refused_said_lem z = sym (text_refused kept.number (version_lines bs) z) ∙ ap (λ (k : ℕ). text_or k (version_lines bs)) number_said

  pub lines_said : kept.number ≡ 0 → version_lines bs ≡ versions_printed bs
  lines_said z = sym (text_accepted kept.number (version_lines bs) z) ∙ ap (λ (k : ℕ). text_or k (version_lines bs)) number_said
