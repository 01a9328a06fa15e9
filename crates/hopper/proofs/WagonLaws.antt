-- Each test decides its sentence, the judgement of a list goes by its two tests, and a wagon put in changes its place alone.
use Prim.Native.Nat.{ℕ, ◌+◌, ◌≤◌, ◌<◌}
use mathlib.Core.Path.{◌≡◌, refl, ◌∙◌}
use mathlib.Core.Bool.{true, false}
use mathlib.Core.Logic.{◌↔◌}
use native.Mathlib.Omega.{arith}
use lib.ListN.{set}
use borrow.Author.Tests.{le-leb, lt-leb}
use Rattle.units.proofs.JudgingLaws.{decides_le, decides_both, decides_between, held, failed, given_later, iff_then, iff_under}
use Rattle.units.proofs.PlaceLaws.{decides_all}
use Rattle.units.specs.Judging.{Decides}
use Rattle.hopper.specs.Wagons.{most_wagons, WagonFits, CountFits, WagonsFit, ListFits, wagon_fits, wagon_fits_at, count_fits, wagons_fit, judged_list, with_wagon, with_count, with_more}
use Rattle.hopper.specs.declared.Wagon.{Wagon}
use Rattle.hopper.specs.declared.WagonList.{WagonList}

-- ---- each test decides its sentence

pub decides_wagon : (boxes brake door : ℕ) → Decides (wagon_fits boxes brake door) (WagonFits boxes brake door)
unfolding wagon_fits
decides_wagon boxes brake door =
    let two = decides_both _ _ _ _ (decides_le boxes 8) (decides_le brake 1) in
    let all = decides_both _ _ _ _ two (decides_le door 1) in (
      λ h. let f = all.0 h in record { axles = f.0.0; braked = f.0.1; doored = f.1 },
      λ f. all.1 ((f.axles, f.braked), f.doored),
    )

pub decides_count : (l : WagonList) → Decides (count_fits l) (CountFits l)
decides_count l = decides_between 1 most_wagons l.n

pub decides_wagons : (l : WagonList) → Decides (wagons_fit l) (WagonsFit l)
decides_wagons l = decides_all l.n (wagon_fits_at l) _ (λ i. decides_wagon _ _ _)

-- ---- the judgement of a list

pub list_2 : (l : WagonList) → count_fits l ≡ false → judged_list l ≡ 2
unfolding judged_list
list_2 l h = failed _ _ _ h

pub list_4 : (l : WagonList) → count_fits l ≡ true → wagons_fit l ≡ false → judged_list l ≡ 4
unfolding judged_list
list_4 l h₂ h₄ = held _ _ _ h₂ ∙ failed _ _ _ h₄

pub list_0 : (l : WagonList) → count_fits l ≡ true → wagons_fit l ≡ true → judged_list l ≡ 0
unfolding judged_list
list_0 l h₂ h₄ = held _ _ _ h₂ ∙ held _ _ _ h₄

-- judged 0 exactly if it is one of the product's
pub list_fits : (l : WagonList) → (judged_list l ≡ 0) ↔ ListFits l
unfolding judged_list
list_fits l =
    let later = iff_then (given_later _ _ 2 _ 0 (decides_count l) (omega arith)) (iff_under (given_later _ _ 4 0 0 (decides_wagons l) (omega arith))) in (
      λ h. let f = later.0 h in record { count = f.0; wagons = f.1.0 },
      λ f. later.1 (f.count, (f.wagons, refl)),
    )

-- ---- a list with one wagon changed, more or less

pub with_past : (l : WagonList) (i : ℕ) (v : Wagon) → 12 ≤ i → with_wagon l i v ≡ l
unfolding with_wagon
with_past l i v h = rw (le-leb 12 i h) refl

pub with_at : (l : WagonList) (i : ℕ) (v : Wagon) → i < 12
    → with_wagon l i v ≡ record { n = l.n; boxes = set l.boxes i v.boxes; brake = set l.brake i v.brake; door = set l.door i v.door }
unfolding with_wagon
with_at l i v h = rw (lt-leb 12 i h) refl

pub more_full : (l : WagonList) (v : Wagon) → most_wagons ≤ l.n → with_more l v ≡ with_count l 13
unfolding with_more
more_full l v h = rw (le-leb most_wagons l.n h) refl

pub more_room : (l : WagonList) (v : Wagon) → l.n < most_wagons → with_more l v ≡ with_count (with_wagon l l.n v) (l.n + 1)
unfolding with_more
more_room l v h = rw (lt-leb most_wagons l.n h) refl
