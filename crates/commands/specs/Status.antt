-- The status that a command ends with: 0 done, 1 refused, 2 failed.
use Rattle.std.specs.Prelude.{ℕ, cond, eqb}

-- the status of an answer with this number: a refusal has one, and 0 is none
unfoldable pub status_of : ℕ → ℕ
status_of number = cond (eqb number 0) 0 1
