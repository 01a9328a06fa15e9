-- The run is computed.
use mathlib.Core.Path.{refl}
use native.Mathlib.Omega.{arith}
use Rattle.promises.specs.BulkWitness.{BulkWaits}
use Rattle.promises.proofs.Computed.{running}

pub bulk_waits : BulkWaits
unfolding running
bulk_waits =
    record {
      plan = refl;
      spare = refl;
      judged = refl;
      asks = (λ _ _. omega arith, (tt, (λ _ _. omega arith, (λ _ _. omega arith, (λ _ _. omega arith, (λ _ _. omega arith, tt))))));
      waits = refl;
      ends = refl;
      begin = refl;
      promised = refl;
      nine_asks = (
        λ _ _. omega arith,
        (
          tt,
          (
            λ _ _. omega arith,
            (
              λ _ _. omega arith,
              (
                λ _ _. omega arith,
                (
                  λ _ _. omega arith,
                  (λ _ _. omega arith, (λ _ _. omega arith, (λ _ _. omega arith, (λ _ _. omega arith, tt)))),
                ),
              ),
            ),
          ),
        ),
      );
      nine_visits = refl;
      nine_clock = refl;
    }
