-- `put_sheet` is right because the stations' lines stand behind the header's.
use mathlib.Core.Path.{refl}
use native.Mathlib.Omega.{arith}
use Rattle.sheet_text_rules.specs.ShowText.{sheet_text}
use Rattle.text.proofs.PageLaws.{puts_then, puts_as}
use Rattle.command_show.proofs.showing.put_sheet.Goals as goal

pub returns : goal.returns
unfolding sheet_text
returns c =
    puts_as (puts_then c.put_header.ensures c.put_stations.ensures (omega (arith, c.requires.1))) refl (omega arith)
