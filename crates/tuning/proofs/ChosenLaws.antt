-- One more number that may be chosen: the choice stays, or the new one is taken.
use Prim.Native.Nat.{ℕ, ◌<◌}
use mathlib.Core.Path.{◌≡◌, refl}
use mathlib.Core.Bool.{Bool, true, false, cond}
use mathlib.Core.Logic.{◌⊎◌, ⊎_elim}
use native.Mathlib.Omega.{arith}
use Rattle.tuning.specs.Shown.{Chosen}

-- what holds of both holds of the choice
pub either : (P : ℕ → Type 0) (b : Bool) (x y : ℕ) → (b ≡ true → P x) → (b ≡ false → P y) → P (cond b x y)
either P true x y f g = f refl
either P false x y f g = g refl

module _ {P Q : ℕ → Type 0} {before : ℕ → ℕ → Type 0} where
  -- no number more
  pub same : {r : ℕ} → ((x : ℕ) → P x → Q x) → ((x : ℕ) → Q x → P x) → Chosen P before r → Chosen Q before r
  same there back h =
      record {
        one = λ l. there _ (h.one l);
        none = λ e x q. h.none e x (back x q);
        first = λ x q. h.first x (back x q);
      }

  module _ (z : ℕ) (split : (x : ℕ) → Q x → P x ⊎ (x ≡ z)) where
    -- one more that comes behind it
    pub stays : {r : ℕ} → ((x : ℕ) → P x → Q x) → 0 < r → before r z → Chosen P before r → Chosen Q before r
    stays {r} there some behind h =
        record {
          one = λ l. there _ (h.one l);
          none = λ e. absurd (omega arith);
          first = λ x q. ⊎_elim (λ p. h.first x p) (λ e. rw e behind) (split x q);
        }

    -- one more that comes first
    pub taken : Q z → 0 < z → before z z → ((x : ℕ) → P x → before z x) → Chosen Q before z
    taken new some own first =
        record {
          one = λ l. new;
          none = λ e. absurd (omega arith);
          first = λ x q. ⊎_elim (λ p. first x p) (λ e. rw e own) (split x q);
        }
