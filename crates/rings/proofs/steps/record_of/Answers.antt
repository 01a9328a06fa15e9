-- `record_of` is right because its numbers are the definition's, and its branch is that of a completed message.
use Prim.Native.Nat.{ℕ, ◌<◌, ◌^◌}
use mathlib.Core.Path.{◌≡◌}
use native.Mathlib.Omega.{arith}
use mathlib.Core.Bool.{cond}
use lib.IntN.{pos}
use Rattle.rings.specs.Bounds.{Safe, Sendable}
use Rattle.rings.specs.Timers.{limit}
use Rattle.rings.specs.Steps.{completes, deadline, finish, margin}
use Rattle.rings.proofs.TimerLaws.{lead_within}
use Rattle.rings.specs.Views.{point_of, record_at}
use Rattle.rings.specs.declared.VisitRecord.{VisitRecord}
use Rattle.rings.specs.declared.view.View.{View}
use Rattle.rings.proofs.steps.record_of.Goals as goal

-- a record is the definition's if its numbers are
told : (v : View) (token sync async : ℕ) (x : VisitRecord) → x.station.0 ≡ token → x.start.0 ≡ v.clock → x.trt.0 ≡ v.trt → x.limit.0 ≡ limit (point_of v)
    → x.synchronous.0 ≡ sync → x.asynchronous.0 ≡ async → x.finish.0 ≡ cond (completes (point_of v) sync) (finish (point_of v) sync async) 0
    → x.margin ≡ cond (completes (point_of v) sync) (margin (point_of v) sync async) (pos 0) → x.completed ≡ cond (completes (point_of v) sync) 1 0 → x ≡ record_at v token sync async
told v token sync async x station start trt lim sent extra end late done =
    λ i. record {
      station = record { 0 = station i };
      start = record { 0 = start i };
      trt = record { 0 = trt i };
      limit = record { 0 = lim i };
      synchronous = record { 0 = sent i };
      asynchronous = record { 0 = extra i };
      finish = record { 0 = end i };
      margin = late i;
      completed = done i;
    }

-- the deadline and the finish of a safe ring are far below the signed range's end
due_small : (v : View) → Safe (point_of v) → deadline (point_of v) < 2 ^ 62
due_small v s = omega (arith, s.arrival, s.deadline)

end_small : (v : View) (sync async : ℕ) → Safe (point_of v) → Sendable (point_of v) sync async → finish (point_of v) sync async < 2 ^ 62
end_small v sync async s t = omega (arith, lead_within (point_of v).set async, s.clock, s.rotation, t.short)

pub overflow_add-finish : goal.overflow_add-finish
overflow_add-finish c =
    let small = end_small c.args.v c.args.sync c.args.asynchronous c.requires.0 c.requires.1 in
    omega (arith, small, c.sync_start-start.ensures)

pub margin_of-margin-requires : goal.margin_of-margin-requires
margin_of-margin-requires c =
    let v = c.args.v in (
      rw c.deadline_of.ensures (due_small v c.requires.0),
      rw c.sync_start-start.ensures (end_small v c.args.sync c.args.asynchronous c.requires.0 c.requires.1),
    )
