-- The tags of the header's fields behind TTRT follow one another, from the mode's on.
use Prim.Native.Nat.{ℕ, zero, suc, ◌+◌, ◌<◌}
use mathlib.Core.Path.{◌≡◌, refl}
use mathlib.Core.List.{[], ◌∷◌}
use native.Mathlib.Omega.{arith}
use Rattle.units.specs.Places.{at}
use Rattle.fields.specs.Fields.{mode_tag, frame_tag, grid_tag}
use Rattle.fields.specs.Header.{further_count}

pub tag_at : (k : ℕ) → k < further_count → at (mode_tag ∷ frame_tag ∷ grid_tag ∷ []) k ≡ mode_tag + k
tag_at zero l = refl
tag_at (suc zero) l = refl
tag_at (suc (suc zero)) l = refl
tag_at (suc (suc (suc k))) l = absurd (omega arith)
