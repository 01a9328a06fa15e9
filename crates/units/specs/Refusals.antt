-- Each refusal of 01 and its number; 0 stands for "accepted". `src/refusals.rt` has the same for the code.
use Rattle.std.specs.Prelude.{ℕ, Result, Ok, Err}
use Rattle.units.specs.declared.refusals.Refusal.{Refusal}
use Rattle.units.specs.declared.refusals.Refusal.TheVariants.{CutShort, WrongShape, RunsOn, OutOfRange, BadWalkTime, NoAllocation, RulesBroken, Unsound, NoSuchStation, BadLength, StillHeld, BadArrival, ClockTooHigh, BufferTooShort, NotArrived, Retired, NoVersion, VersionsUsed}

-- the listed number of a refusal
abbrev pub refusal_number : Refusal → ℕ
refusal_number CutShort = 1
refusal_number WrongShape = 2
refusal_number RunsOn = 3
refusal_number OutOfRange = 4
refusal_number BadWalkTime = 5
refusal_number NoAllocation = 6
refusal_number RulesBroken = 7
refusal_number Unsound = 8
refusal_number NoSuchStation = 9
refusal_number BadLength = 10
refusal_number StillHeld = 11
refusal_number BadArrival = 12
refusal_number ClockTooHigh = 13
refusal_number BufferTooShort = 14
refusal_number NotArrived = 15
refusal_number Retired = 16
refusal_number NoVersion = 17
refusal_number VersionsUsed = 18

-- 0 where a call is accepted, else the number of its refusal
abbrev pub answer_number : {A : Type 0} → Result A Refusal → ℕ
answer_number (Ok _) = 0
answer_number (Err refusal) = refusal_number refusal
