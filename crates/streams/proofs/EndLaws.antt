-- The law of how a command ends.
use Prim.Native.Nat.{ℕ}
use mathlib.Core.Path.{◌≡◌}
use Rattle.streams.specs.Ends.{Ends}

-- a status that is the same ends the same
pub ends_with : {s t r : ℕ} → s ≡ t → Ends s r → Ends t r
ends_with e h = rw e at h
