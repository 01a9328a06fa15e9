-- `compose_on` is right because it reads the first 2,048 bytes, or all if they are fewer.
use Rattle.command_compose.proofs.SentLaws.{piece_few, composed_none, composed_piece}
use Rattle.command_compose.proofs.compose_on.Goals as goal

pub returns-then-page-lt-PAGE_SIZE : goal.returns-then-page-lt-PAGE_SIZE
returns-then-page-lt-PAGE_SIZE c =
    composed_none _ _ _ c.if-page-lt-PAGE_SIZE.true

pub compose_piece-requires : goal.compose_piece-requires
compose_piece-requires c =
    record { few = piece_few c.args.text.now c.piece.result.now c.piece.ensures; large = c.if-page-lt-PAGE_SIZE.false }

pub returns : goal.returns
returns c =
    composed_piece c.args.c c.args.text.now c.piece.result.now _ _ _ c.piece.ensures c.if-page-lt-PAGE_SIZE.false c.compose_piece.ensures
