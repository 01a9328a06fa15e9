-- `record_on` is right because it reads the first 256 bytes, or all if they are fewer.
use Rattle.command_run.proofs.RunLaws.{piece_few}
use Rattle.command_log.proofs.RecordLaws.{recorded_none, recorded_piece}
use Rattle.command_log.proofs.record_on.Goals as goal

pub returns-then-page-lt-PAGE_SIZE : goal.returns-then-page-lt-PAGE_SIZE
returns-then-page-lt-PAGE_SIZE c =
    recorded_none _ _ _ c.if-page-lt-PAGE_SIZE.true

pub record_piece-requires : goal.record_piece-requires
record_piece-requires c =
    record { few = piece_few c.args.text.now c.piece-piece.result.now c.piece-piece.ensures; large = c.if-page-lt-PAGE_SIZE.false }

pub returns : goal.returns
returns c =
    recorded_piece c.args.recording c.args.text.now c.piece-piece.result.now _ _ _ c.piece-piece.ensures c.if-page-lt-PAGE_SIZE.false c.record_piece.ensures
