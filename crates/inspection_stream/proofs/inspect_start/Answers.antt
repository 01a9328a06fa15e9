-- `inspect_start` is right because it reads the plan, and inspects what stands behind it.
use mathlib.Core.Path.{ap, ◌∙◌}
use lib.ListN.{drop}
use Rattle.sheets.specs.declared.PlanStart.{PlanStart}
use Rattle.inspection_stream.specs.Inspecting.{inspect_from, inspect_over}
use Rattle.inspection_stream.specs.declared.Inspecting.{Inspecting}
use Rattle.inspection_stream.proofs.inspect_start.Goals as goal

pub returns : goal.returns
returns c =
    let head = c.args.head.now in
    c.inspect_from.ensures
    ∙ ap (λ (k : Inspecting). inspect_over k (drop c.read_start-start.result.at head)) c.begin-begun.ensures
    ∙ ap (λ (s : PlanStart). inspect_over (inspect_from s) (drop s.at head)) c.read_start-start.ensures
