-- `put_differences` is right because the lines of the header, of the stations that both have and of those that one has stand one behind another.
use mathlib.Core.Path.{◌≡◌}
use native.Mathlib.Omega.{arith}
use Rattle.text.proofs.PageLaws.{puts_then, puts_as}
use Rattle.command_diff.proofs.LineLaws.{sizes, lines_four}
use Rattle.command_diff.proofs.putting.put_differences.Goals as goal

pub returns : goal.returns
returns c =
    let n : c.places-n.result ≡ c.args.t.n = omega (arith, c.places-n.ensures, c.requires.0.0) in
    let m : c.places-m.result ≡ c.args.u.n = omega (arith, c.places-m.ensures, c.requires.0.1) in
    let parts = sizes _ _ _ _ _ (omega (arith, n, c.requires.0.0)) (omega (arith, m, c.requires.0.1)) c.min-shared.ensures c.requires.1 in
    let two = puts_then c.put_headers.ensures c.put_stations.ensures (omega (arith, parts.shared_fit)) in
    let three = puts_then two c.put_alones.ensures (omega (arith, parts.come_fit)) in
    let four = puts_then three c.put_alones-2.ensures (omega (arith, parts.gone_fit)) in
    puts_as four (rw (c.min-shared.ensures, n, m) (lines_four _ _ _ _)) parts.all_fit
