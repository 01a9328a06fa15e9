-- `nth` is right because it asks for the places in their order.
use mathlib.Core.Path.{refl, sym}
use native.Mathlib.Omega.{arith}
use Rattle.differences.specs.Views.{nth_of}
use Rattle.faults.proofs.RangeLaws.{nth_last}
use Rattle.faults.proofs.nth.Goals as goal

pub returns-in-0 : goal.returns-in-0
unfolding nth_of
returns-in-0 c =
    rw c.in-0.is refl

pub returns-in-1 : goal.returns-in-1
unfolding nth_of
returns-in-1 c =
    rw c.in-1.is refl

pub returns-in-2 : goal.returns-in-2
unfolding nth_of
returns-in-2 c =
    rw c.in-2.is refl

pub returns-in-3 : goal.returns-in-3
unfolding nth_of
returns-in-3 c =
    rw c.in-3.is refl

pub returns-in_default : goal.returns-in_default
returns-in_default c =
    sym (nth_last _ _ _ _ _ _ (omega arith))
