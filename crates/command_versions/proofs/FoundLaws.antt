-- The laws of what is found in a store, for the proofs of this layer. No rule stands here.
use Prim.Native.Nat.{ℕ, zero, suc, ◌+◌, ◌-◌, ◌≤◌, ◌<◌}
use mathlib.Core.Path.{◌≡◌, ap}
use mathlib.Core.Bool.{false}
use mathlib.Core.List.{List}
use mathlib.Core.Logic.{⊎_elim}
use native.Mathlib.Omega.{arith}
use borrow.Author.Tests.{eq-eqb, ne_eqb}
use lib.Dec.{eqb}
use lib.ListN.{length, take, drop}
use Rattle.units.proofs.SmallLaws.{below_or_not}
use Rattle.sheets.specs.Reading.{read_plan}
use Rattle.versions.specs.Layout.{most_kept}
use Rattle.versions.specs.Area.{before_in, kept_at, count_in, area_number}
use Rattle.versions.specs.declared.FoundVersion.{FoundVersion}
use Rattle.versions.specs.declared.VersionsIn.{VersionsIn}
use Rattle.versions.specs.Answers.{found_version, versions_with, versions_in}
use Rattle.versions.proofs.AreaLaws.{leading_most}
use Rattle.versions.proofs.AnswerLaws.{found_inside}
use Rattle.command_versions.specs.VersionsText.{plan_in, count_from, count_of}

-- ---- a version that is found

module _ (bs : List ℕ) where
  -- where an answer says that it stands
  module _ (version : ℕ) (r : FoundVersion) (e : r ≡ found_version bs version) where
    pub found_fits : r.place + r.length ≤ length bs
    found_fits = rw e (found_inside bs version)

    pub plan_there : read_plan (take ((r.place + r.length) - r.place) (drop r.place bs)) ≡ plan_in bs version
    plan_there =
        let gone : (r.place + r.length) - r.place ≡ r.length = omega arith in
        rw gone (ap (λ (x : FoundVersion). read_plan (take x.length (drop x.place bs))) e)

  -- ---- which versions there are

  versions_most : (number : ℕ) → ((versions_with number bs).oldest ≤ (versions_with number bs).newest)
      × (count_of (versions_with number bs) ≤ 16)
  unfolding versions_with count_from
  versions_most zero =
      let most = leading_most (kept_at bs) most_kept in
      ⊎_elim (λ (b : count_in bs < 1).
      let none : count_in bs ≡ 0 = omega arith in
      rw (eq-eqb _ _ none) (omega arith, omega arith))
      (λ (b : 1 ≤ count_in bs).
      let some : eqb (count_in bs) 0 ≡ false = ne_eqb (count_in bs) 0 (λ e. omega arith) in
      let given : eqb (before_in bs + 1) 0 ≡ false = ne_eqb (before_in bs + 1) 0 (λ e. omega arith) in
      rw (some, given) (omega (arith, most), omega (arith, most)))
      (below_or_not (count_in bs) 1)
  versions_most (suc k) = (omega arith, omega arith)

  -- the oldest is not above the newest, and there are at most sixteen
  pub versions_few : ((versions_in bs).oldest ≤ (versions_in bs).newest) × (count_of (versions_in bs) ≤ 16)
  versions_few = versions_most (area_number bs)

  -- the same of an answer
  pub answer_few : (kept : VersionsIn) → kept ≡ versions_in bs → (kept.oldest ≤ kept.newest) × (count_of kept ≤ 16)
  answer_few kept e = rw e versions_few
