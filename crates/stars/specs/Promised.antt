-- What is promised: the ★ tables of 01 hold of the rules; `proofs/Promised.antt` proves it.
use Rattle.stars.specs.Allocations.{Allocations}
use Rattle.stars.specs.Run.{WorkedRun}

pub record Promised : Type 0 where
  -- the ★ cases of "Allocations"
  pub allocations : Allocations
  -- the ★ worked run of "The ring"
  pub run : WorkedRun
