-- How a command ends.
use Rattle.std.specs.Prelude.{ℕ, ◌≡◌, ◌⊎◌}

-- the status of a command that could not be done: its words, its input or its output failed
abbrev pub failed : ℕ
failed = 2

-- with this status; or, where it could not be said, as failed
abbrev pub Ends : ℕ → ℕ → Type 0
Ends status r = (r ≡ status) ⊎ (r ≡ failed)
