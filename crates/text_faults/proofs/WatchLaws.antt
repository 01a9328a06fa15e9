-- A text that is watched in pieces, and byte by byte.
use Prim.Native.Nat.{ℕ}
use mathlib.Core.Path.{◌≡◌, refl}
use mathlib.Core.List.{List, [], ◌∷◌, ◌++◌}
use Rattle.text_faults.specs.declared.Watch.{Watch}
use Rattle.text_faults.specs.Watching.{watched, watch_after}

pub pieces : (w : Watch) (first rest : List ℕ) → watch_after w (first ++ rest) ≡ watch_after (watch_after w first) rest
unfolding watch_after
pieces w [] rest = refl
pieces w (b ∷ first) rest = pieces (watched w b) first rest

pub watch_snoc : (w : Watch) (bs : List ℕ) (b : ℕ) → watch_after w (bs ++ b ∷ []) ≡ watched (watch_after w bs) b
unfolding watch_after
watch_snoc w bs b = pieces w bs (b ∷ [])
