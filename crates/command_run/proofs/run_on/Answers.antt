-- `run_on` is right because it reads the first 256 bytes, or all if they are fewer.
use Rattle.command_run.proofs.RunLaws.{piece_few, ran_none, ran_piece}
use Rattle.command_run.proofs.run_on.Goals as goal

pub returns-then-page-lt-PAGE_SIZE : goal.returns-then-page-lt-PAGE_SIZE
returns-then-page-lt-PAGE_SIZE c =
    ran_none _ _ _ c.if-page-lt-PAGE_SIZE.true

pub run_piece-requires : goal.run_piece-requires
run_piece-requires c =
    record { few = piece_few c.args.text.now c.piece.result.now c.piece.ensures; large = c.if-page-lt-PAGE_SIZE.false }

pub returns : goal.returns
returns c =
    ran_piece c.args.run c.args.text.now c.piece.result.now _ _ _ c.piece.ensures c.if-page-lt-PAGE_SIZE.false c.run_piece.ensures
