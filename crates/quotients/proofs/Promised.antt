-- The proof of what `specs/Promised.antt` promises.
use Prim.Native.Nat.{ℕ, ◌+◌, ◌*◌, ◌/◌, ◌^◌, ◌<◌, ◌≤◌}
use mathlib.Core.Path.{◌≡◌, sym, ◌∙◌}
use native.Mathlib.Omega.{arith}
use native.Mathlib.Numerals.{add-one}
use native.Mathlib.Nat.{mod-lt, div-zero, mod-zero, mul_comm, add-mul, two-pow-succ, dvd_iff_mod-eq-zero, le-div_iff_mul-le, div-lt_iff_lt-mul}
use Rattle.units.proofs.SmallLaws.{shares_enough, shares_least}
use Rattle.units.specs.Grid.{stepped}
use Rattle.units.proofs.GridLaws.{decides_grid, decides_grids, step_multiple, step_enough, step_least, step_none}
use Rattle.quotients.specs.Steps.{SmallestMultiple}
use Rattle.quotients.specs.Promised.{Promised}
use Rattle.quotients.proofs.Laws.{kept_last, together}

-- k doublings stay within the dividend, and k + 1 do not
turns_bits : (a d p k : ℕ) → 0 < d → p ≡ d * 2 ^ k → p ≤ a → a < p + p → (2 ^ k ≤ a / d) × (a / d < 2 ^ (k + 1))
turns_bits a d p k pos is within highest =
    let once : 2 ^ k * d ≡ d * 2 ^ k = mul_comm (2 ^ k) d in
    let more : 2 ^ (k + 1) * d ≡ 2 ^ k * d + 2 ^ k * d = rw (add-one, two-pow-succ) (add-mul (2 ^ k) (2 ^ k) d) in
    ((le-div_iff_mul-le pos).1 (omega arith), (div-lt_iff_lt-mul pos).1 (omega arith))

smallest_multiple : (g q x : ℕ) → 0 < g → 0 < q → SmallestMultiple g q x (stepped g q x)
smallest_multiple g q x some shared =
    record { multiple = step_multiple g q x; enough = step_enough g q x shared some; least = step_least g q x }

pub promised : Promised
promised =
    record {
      together = λ a d q r h. together h;
      below = λ a d q r pos h. rw h.left (mod-lt a pos);
      no_second = λ a d q r is below. kept_last (record { is = sym is; below = below });
      by_zero = λ a q r h. (h.whole ∙ div-zero a, h.left ∙ mod-zero a);
      divides = λ a d q r h. rw h.left ((dvd_iff_mod-eq-zero d).1, (dvd_iff_mod-eq-zero d).0);
      enough = λ a d n pos h. rw (h.is, mul_comm) (shares_enough a d pos);
      least = λ a d n z pos h enough. rw h.is (shares_least a d z pos (rw mul_comm enough));
      share_by_zero = λ a n h. h.is ∙ div-zero (a + 0);
      turns = λ a d p pos h. turns_bits a d p h.doubled.turns pos h.doubled.is h.within h.highest;
      smallest_multiple = smallest_multiple;
      no_second_multiple = λ g q x r some shared h.
          let own = smallest_multiple g q x some shared in
          omega (arith, h.least (stepped g q x) own.multiple own.enough, own.least r h.multiple h.enough);
      no_multiple = step_none;
      on_grid_lem = decides_grid;
      all_on_grid_lem = decides_grids;
    }
