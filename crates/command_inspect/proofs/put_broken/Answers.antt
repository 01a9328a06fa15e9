-- `put_broken` is right because the line for people stands behind the one that names the record.
use mathlib.Core.Path.{refl, ap}
use native.Mathlib.Omega.{arith}
use Rattle.inspection.specs.declared.Finding.{Finding}
use Rattle.text.proofs.PageLaws.{puts_then, puts_as}
use Rattle.command_inspect.specs.FindingText.{broken_text}
use Rattle.command_inspect.proofs.put_broken.Goals as goal

pub returns : goal.returns
unfolding broken_text
returns c =
    puts_as (puts_then c.put_record.ensures c.put_people.ensures (omega (arith, c.requires)))
    (rw (ap (λ (f : Finding). f.«record») c.found-finding.ensures, c.compare-compared.ensures) refl) (omega arith)
