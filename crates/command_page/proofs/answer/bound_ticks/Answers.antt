-- `bound_ticks` is right because its body is the definition; the sum is far below 2^64.
use Rattle.std.proofs.Common.{refl, eq-eqb, ne_eqb}
use Rattle.command_page.specs.Account.{bound_ticks}
use Rattle.command_page.proofs.answer.bound_ticks.Goals as goal

pub returns-then-t-eq-FDDI : goal.returns-then-t-eq-FDDI
unfolding bound_ticks
returns-then-t-eq-FDDI c =
    rw (eq-eqb _ _ c.if-t-eq-FDDI.true, c.sum_first.ensures.sum, c.saturating_sub-more.ensures, c.from.ensures, c.from-ttrt.ensures) refl

pub returns : goal.returns
unfolding bound_ticks
returns c =
    rw (ne_eqb _ _ c.if-t-eq-FDDI.false, c.from-ttrt.ensures) refl
