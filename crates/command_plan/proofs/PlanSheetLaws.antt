-- The laws of what `plan-sheet` writes, for the proofs of this layer. No rule stands here.
use Prim.Native.Nat.{ℕ, zero, suc, ◌≤◌}
use mathlib.Core.Path.{◌≡◌, refl, sym, ap, ◌∙◌}
use mathlib.Core.Bool.{true}
use mathlib.Core.List.{List}
use mathlib.Core.Logic.{◌≢◌}
use native.Mathlib.Omega.{arith}
use lib.ListN.{length}
use lib.Seq.{length-take-le}
use Rattle.plans.specs.Planned.{planned}
use Rattle.plans.specs.declared.Planned.{Planned}
use Rattle.sheets.specs.Reading.{then_number}
use Rattle.sheets.specs.Writing.{refused_writing, Wrote}
use Rattle.sheets.proofs.WriteLaws.{written_fits}
use Rattle.sheets.specs.declared.ReadRequest.{ReadRequest}
use Rattle.sheets.specs.declared.ReadPlan.{ReadPlan}
use Rattle.sheets.specs.declared.Written.{Written}
use Rattle.command_plan.specs.PlanSheet.{planning_number, plan_of, answer_or, buffer_or, WrotePlan}

-- what was read and what was planned, with the first of their numbers
pub plan_made : (r q : ReadRequest) (p : Planned) (k : ℕ) → r ≡ q → p ≡ planned r.set → then_number r.number p.number ≡ k
    → record { set = r.set; alloc = p.alloc; number = k } ≡ plan_of q
plan_made r q p k e made told =
    ap (λ (n : ℕ). record { set = r.set; alloc = p.alloc; number = n }) (sym told)
    ∙ ap (λ (x : Planned). record { set = r.set; alloc = x.alloc; number = then_number r.number x.number }) made
    ∙ ap plan_of e

-- a refused reading or planning
pub wrote_none : (r : ReadRequest) (before : List ℕ) (k : ℕ) → planning_number r ≡ k → k ≢ 0 → WrotePlan r before before (refused_writing k)
unfolding answer_or buffer_or
wrote_none r before zero n z = absurd (z refl)
wrote_none r before (suc k) n z = record { answer = rw n refl; buffer = rw n refl; fits = omega arith; counts = refl }

-- an accepted one, and what writing then did
pub wrote_plan : (q : ReadRequest) (p : ReadPlan) (before after : List ℕ) (w : Written) → p ≡ plan_of q → p.number ≡ 0
    → Wrote true p.set p.alloc before after w → length after ≡ length before → WrotePlan q before after w
unfolding answer_or buffer_or
wrote_plan q p before after w e k h same =
    let none : planning_number q ≡ 0 = sym (ap (λ (x : ReadPlan). x.number) e) ∙ k in
    let wrote : Wrote true q.set (planned q.set).alloc before after w = rw e at h in
    let inside : w.length ≤ length after = omega (arith, written_fits true p.set p.alloc before, ap (λ (x : Written). x.length) h.answer) in
    record {
      answer = rw none wrote.answer;
      buffer = rw none wrote.buffer;
      fits = inside;
      counts = sym (length-take-le w.length after inside);
    }
