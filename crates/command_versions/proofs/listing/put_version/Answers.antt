-- `put_version` is right because it puts the line of the plan that it reads.
use mathlib.Core.Path.{ap}
use native.Mathlib.Omega.{arith}
use Rattle.sheets.specs.declared.ReadPlan.{ReadPlan}
use Rattle.text.proofs.PageLaws.{puts_as}
use Rattle.command_versions.specs.VersionsText.{version_line}
use Rattle.command_versions.proofs.listing.put_version.Goals as goal

pub returns : goal.returns
returns c =
    puts_as c.put_line.ensures (ap (λ (p : ReadPlan). version_line c.args.version p.set p.alloc) c.plan_in-plan.ensures) (omega arith)
