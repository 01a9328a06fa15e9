-- `empty_store` is right because the end and the zeros behind it take the place of all bytes.
use native.Mathlib.Omega.{arith}
use Rattle.sheets.specs.Layout.{end_bytes}
use Rattle.versions.proofs.StoringLaws.{put_laid, empty_laid}
use Rattle.versions.proofs.AnswerLaws.{emptied_not, emptied_all}
use Rattle.versions.proofs.empty_store.Goals as goal

pub returns-then-area-ne-STORE_SIZE : goal.returns-then-area-ne-STORE_SIZE
returns-then-area-ne-STORE_SIZE c =
    emptied_not _ c.if-area-ne-STORE_SIZE.true

pub returns : goal.returns
returns c =
    let area = c.args.area.now in
    emptied_all area _ c.if-area-ne-STORE_SIZE.false (empty_laid area _ _ c.if-area-ne-STORE_SIZE.false (put_laid 0 end_bytes 0 _ c.put_end.ensures (omega arith)) c.clear.ensures)
