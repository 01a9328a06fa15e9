-- The tables hold: each is proved in a module of its own.
use Rattle.stars.specs.Promised.{Promised}
use Rattle.stars.proofs.Allocations.{allocations}
use Rattle.stars.proofs.Run.{worked_run}

pub promised : Promised
promised = record { allocations = allocations; run = worked_run }
