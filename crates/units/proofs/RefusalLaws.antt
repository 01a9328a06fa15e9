-- A refusal's number is at least 1, so 0 says that nothing is refused.
use Prim.Native.Nat.{◌≤◌}
use mathlib.Core.Path.{◌≡◌, refl, sym}
use mathlib.Core.Bool.{true, false, true≢false}
use Rattle.std.proofs.Common.{Result, Ok, Err, ◌==◌}
use Rattle.std.proofs.lemmas.Bool.Decides.{eqb_tells}
use Rattle.std.specs.Result.{is_ok, is_err}
use mathlib.Core.Logic.{◌≢◌, ⊎_elim}
use native.Mathlib.Omega.{arith}
use Rattle.units.specs.Refusals.{refusal_number, answer_number}
use Rattle.units.specs.declared.refusals.Refusal.{Refusal}
use Rattle.units.specs.declared.refusals.Refusal.TheVariants.{CutShort, WrongShape, RunsOn, OutOfRange, BadWalkTime, NoAllocation, RulesBroken, Unsound, NoSuchStation, BadLength, StillHeld, BadArrival, ClockTooHigh, BufferTooShort, NotArrived, Retired, NoVersion, VersionsUsed}

pub some_number : (r : Refusal) → 1 ≤ refusal_number r
some_number CutShort = omega arith
some_number WrongShape = omega arith
some_number RunsOn = omega arith
some_number OutOfRange = omega arith
some_number BadWalkTime = omega arith
some_number NoAllocation = omega arith
some_number RulesBroken = omega arith
some_number Unsound = omega arith
some_number NoSuchStation = omega arith
some_number BadLength = omega arith
some_number StillHeld = omega arith
some_number BadArrival = omega arith
some_number ClockTooHigh = omega arith
some_number BufferTooShort = omega arith
some_number NotArrived = omega arith
some_number Retired = omega arith
some_number NoVersion = omega arith
some_number VersionsUsed = omega arith

-- what is refused is not accepted
pub refused_is_not : (r : Refusal) → refusal_number r ≢ 0
refused_is_not r e = let some : 1 ≤ refusal_number r = some_number r in absurd (omega arith)

-- ---- an answer asked whether it is accepted or refused, by its number

pub ok_none : {A : Type 0} (x : Result A Refusal) → is_ok x ≡ true → answer_number x ≡ 0
ok_none (Ok a) e = refl
ok_none (Err r) e = absurd (true≢false (sym e))

pub not_ok_some : {A : Type 0} (x : Result A Refusal) → is_ok x ≡ false → answer_number x ≢ 0
not_ok_some (Ok a) e = absurd (true≢false e)
not_ok_some (Err r) e = refused_is_not r

pub err_some : {A : Type 0} (x : Result A Refusal) → is_err x ≡ true → answer_number x ≢ 0
err_some (Ok a) e = absurd (true≢false (sym e))
err_some (Err r) e = refused_is_not r

pub not_err_none : {A : Type 0} (x : Result A Refusal) → is_err x ≡ false → answer_number x ≡ 0
not_err_none (Ok a) e = refl
not_err_none (Err r) e = absurd (true≢false e)

-- the test that says so of the number
pub ok_test : {A : Type 0} (x : Result A Refusal) → is_ok x ≡ (answer_number x == 0)
ok_test (Ok a) = refl
ok_test (Err r) = ⊎_elim (λ t. absurd (refused_is_not r t.1)) (λ t. sym t.0) (eqb_tells (refusal_number r) 0)
