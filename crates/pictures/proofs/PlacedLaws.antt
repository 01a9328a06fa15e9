-- The place of a moment is that of the moment as far as a line asks for it: what lies behind the end of a line is cut.
use Rattle.std.proofs.Common.{◌≡◌, ℕ, ◌<◌, ◌≤◌, max, refl, arith}
use Rattle.tallies.specs.declared.Lap.{Lap}
use Rattle.pictures.specs.Parts.{held, placed, frame}
use Rattle.pictures.specs.declared.Scene.{Scene}

placed_held : (c : Scene) (m : ℕ) → placed c (held c m) ≡ placed c m
placed_held c m = omega arith

-- of two moments the later one lies behind the end of the line, or does not
module _ (c : Scene) (m n : ℕ) {a b later : ℕ} (first : a ≡ held c m) (second : b ≡ held c n) (is : later ≡ max a b) where
  pub past : c.bound < later → c.bound < max m n
  past h = omega arith

  pub within : later ≤ c.bound → max m n ≤ c.bound
  within h = omega arith

pub frame_held : (c : Scene) (l : Lap) (m : ℕ) → frame c l (held c m) ≡ frame c l m
unfolding frame
frame_held c l m = rw (placed_held c m) refl
