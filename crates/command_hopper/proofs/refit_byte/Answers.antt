-- `refit_byte` is right because a newline ends the line and every other byte is read as one more of it.
use Rattle.command_hopper.proofs.TextLaws.{refit_small, refit_ends, refit_goes_on}
use Rattle.command_hopper.proofs.refit_byte.Goals as goal

pub returns-then-page-lt-PAGE_SIZE : goal.returns-then-page-lt-PAGE_SIZE
returns-then-page-lt-PAGE_SIZE c =
    refit_small _ _ _ c.if-page-lt-PAGE_SIZE.true

pub returns-then-byte-eq10 : goal.returns-then-byte-eq10
returns-then-byte-eq10 c =
    refit_ends _ _ _ _ _ c.if-page-lt-PAGE_SIZE.false c.if-byte-eq10.true c.end_line.ensures

pub returns : goal.returns
returns c =
    rw c.step-scan.ensures (refit_goes_on _ _ _ c.if-page-lt-PAGE_SIZE.false c.if-byte-eq10.false)
