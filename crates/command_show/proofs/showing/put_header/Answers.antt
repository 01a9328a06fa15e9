-- `put_header` is right because the lines behind TTRT's stand one behind the other.
use native.Mathlib.Omega.{arith}
use Rattle.fields.specs.Header.{further_count}
use Rattle.text.proofs.PageLaws.{puts_then, puts_as}
use Rattle.sheet_text_rules.specs.ShowText.{ttrt_line}
use Rattle.sheet_text_rules.proofs.ShowLaws.{lines_rows}
use Rattle.command_show.proofs.showing.put_header.Goals as goal

pub returns : goal.returns
returns c =
    let ttrt = puts_as {t = ttrt_line c.args.h.ttrt} {more = 42} c.put_named.ensures (rw c.from.ensures) (omega arith) in
    rw (lines_rows c.args.h further_count) (puts_then ttrt c.put_numbers.ensures (omega (arith, c.requires)))
