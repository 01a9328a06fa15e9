-- Numbers that are stored at the first places by themselves, and what stands behind them.
use Prim.Native.Nat.{ℕ, ◌+◌, ◌-◌, ◌≤◌, ◌<◌}
use mathlib.Core.Path.{◌≡◌, sym, ap, ◌∙◌}
use mathlib.Core.List.{List, ◌++◌}
use mathlib.Core.Logic.{⊎_elim}
use native.Mathlib.Omega.{arith}
use lib.ListN.{length, drop, length-append, length-drop, get_or-append}
use lib.Seq.{get_or-drop, get_or-append-add, ext_get_or}
use Rattle.units.specs.Places.{at, fill}
use Rattle.units.proofs.PlaceLaws.{fill_length, fill_inside, fill_outside}
use Rattle.units.proofs.SmallLaws.{below_or_not}

-- n numbers that are f, and behind them what stood there, are the fill with f
pub front_filled : (n : ℕ) (f : ℕ → ℕ) (xs ys : List ℕ) → n ≤ length xs → length ys ≡ n → ((i : ℕ) → i < n → at ys i ≡ f i) → ys ++ drop n xs ≡ fill n f xs
front_filled n f xs ys l long same =
    let whole : length (ys ++ drop n xs) ≡ length (fill n f xs) = rw fill_length (simp (length-append, length-drop) (omega arith)) in
    ext_get_or 0 _ _ whole
    (λ i _. ⊎_elim
    (λ (inside : i < n). get_or-append ys (drop n xs) 0 i (omega (arith, long)) ∙ same i inside ∙ sym (fill_inside n f xs i inside l))
    (λ (past : n ≤ i).
    let e : i ≡ length ys + (i - n) = omega (arith, long) in
    let d : n + (i - n) ≡ i = omega arith in
    ap (at (ys ++ drop n xs)) e
    ∙ get_or-append-add ys (drop n xs) (i - n) 0
    ∙ get_or-drop n xs (i - n) 0
    ∙ ap (at xs) d
    ∙ sym (fill_outside n f xs i past))
    (below_or_not i n))
