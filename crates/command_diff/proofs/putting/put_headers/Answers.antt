-- `put_headers` is right because the lines of the four numbers stand one behind another.
use mathlib.Core.Path.{sym}
use native.Mathlib.Omega.{arith}
use Rattle.sets.specs.Header.{head_number}
use Rattle.differences.specs.Views.{header_of}
use Rattle.text.proofs.PageLaws.{puts_then, puts_as}
use Rattle.command_diff.proofs.LineLaws.{lines_headers}
use Rattle.command_diff.proofs.putting.put_headers.Goals as goal

pub returns : goal.returns
unfolding header_of head_number
returns c =
    let two = puts_then c.put_header.ensures c.put_header-2.ensures (omega (arith, c.requires)) in
    let three = puts_then two c.put_header-3.ensures (omega (arith, c.requires)) in
    puts_as (puts_then three c.put_header-4.ensures (omega (arith, c.requires))) (sym (lines_headers (header_of c.args.h) (header_of c.args.k))) (omega arith)
