-- `go_on` is right because as many TTRT as the definition says are tried from the next one on; that one is at most TO, so it has 32 bits.
use mathlib.Core.Path.{◌≡◌, sym, ◌∙◌}
use mathlib.Core.Bool.{false}
use borrow.Author.Tests.{ltb-false}
use native.Mathlib.Omega.{arith}
use Rattle.command_tune.specs.Tune.{is_done}
use Rattle.command_tune.proofs.TuneLaws.{went_more, went_done}
use Rattle.command_tune.proofs.go_on.Goals as goal

pub returns-then-is_done : goal.returns-then-is_done
returns-then-is_done c =
    sym (went_done _ (sym c.is_done.ensures ∙ c.if-is_done.true))

pub overflow_cast-first : goal.overflow_cast-first
overflow_cast-first c =
    let left : is_done c.args.k ≡ false = sym c.is_done.ensures ∙ c.if-is_done.false in
    let k = c.args.k in
    omega (arith, ltb-false k.to k.next left)

pub returns : goal.returns
returns c =
    let left : is_done c.args.k ≡ false = sym c.is_done.ensures ∙ c.if-is_done.false in
    rw (c.from.ensures, c.tune_over-seen.ensures, c.size_of-size.ensures) (sym (went_more c.args.k left))
