-- `place_of` is right because its body is the definition.
use native.Mathlib.Omega.{arith}
use Rattle.command_explain.proofs.SheetLaws.{skipped_small}
use Rattle.command_explain.proofs.sheet.place_of.Goals as goal

pub place_at-requires : goal.place_at-requires
place_at-requires c =
    omega (arith, c.skipped_by.ensures, skipped_small c.scan_sheet-scanned.result.number)
