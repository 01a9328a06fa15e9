-- What is read where reading fails.
use Rattle.std.specs.Prelude.{ℕ, List, Result, IfErr}
use Rattle.io.specs.Counts.{IsPrefixLen}
use Rattle.streams.specs.declared.loading.Unfilled.{Unfilled}

-- where it fails, as many bytes had come as there is room for at most
abbrev pub FailsWithin : Result ℕ Unfilled → List ℕ → Type 0
FailsWithin r xs = IfErr r (λ unfilled. IsPrefixLen unfilled.length xs)
