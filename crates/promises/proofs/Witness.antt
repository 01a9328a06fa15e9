-- The run is computed.
use mathlib.Core.Path.{◌≡◌, refl, sym, ap}
use mathlib.Core.Option.{Option, some}
use native.Mathlib.Omega.{arith}
use lib.IntN.{pos}
use Rattle.rings.specs.declared.Message.{Message}
use Rattle.rings.specs.declared.VisitRecord.{VisitRecord}
use Rattle.promises.specs.Run.{run_of, ring_of, records_of, messages_of}
use Rattle.promises.specs.History.{latest, latest_of, latest_for}
use Rattle.promises.specs.Valid.{Regular}
use Rattle.promises.specs.Witness.{pair, shares, thirty, waited, row, Happens}
use Rattle.promises.proofs.Computed.{running}

-- what is there is one thing
only : {A : Type 0} (o : Option A) (x y : A) → o ≡ some x → o ≡ some y → x ≡ y
only o x y e f = cc (e, f)

-- station 0 may get its second message: the first arrived 250 before, and its last visit started at 202
regular : Regular pair (run_of pair shares waited) (thirty 250)
unfolding running latest
regular =
    let message : latest_for 0 (messages_of pair shares waited) ≡ some (thirty 0) = refl in
    let visit : latest_of 0 (records_of pair shares waited) ≡ some (row 0 202 2 83 0 83 0 (pos 0) 0) = refl in
    let clock : (ring_of pair shares waited).clock ≡ 286 = refl in
    record {
      length = (omega arith, omega arith);
      gap = λ o e.
          let same : thirty 0 ≡ o = only (latest_for 0 (messages_of pair shares waited)) (thirty 0) o message e in
          let arrival : o.arrival.0 ≡ 0 = ap (λ (m : Message). m.arrival.0) (sym same) in
          omega arith;
      arrived = omega arith;
      later = λ u e.
          let same : row 0 202 2 83 0 83 0 (pos 0) 0 ≡ u = only (latest_of 0 (records_of pair shares waited)) (row 0 202 2 83 0 83 0 (pos 0) 0) u visit e in
          let start : u.start.0 ≡ 202 = ap (λ (v : VisitRecord). v.start.0) (sym same) in
          omega arith;
    }

pub happens : Happens
unfolding running
happens =
    record {
      plan = refl;
      spare = refl;
      judged = refl;
      records = refl;
      accepted = refl;
      held = refl;
      refused = refl;
      early_clock = refl;
      early = refl;
      early_too = refl;
      unserved = refl;
      regular = regular;
      taken = refl;
      waited_clock = refl;
      just = refl;
      not_yet = refl;
    }
