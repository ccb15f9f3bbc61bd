-- The first call gives the first piece.
use Rattle.pgn_text.specs.Public.Limits.{depth_limit}
use Rattle.pgn_text.proofs.memory.FirstCalls.{first_piece_of}
use Rattle.pgn_text.proofs.memory.first_piece.Goals as goal

pub returns-in-Some-Ok : goal.returns-in-Some-Ok
returns-in-Some-Ok c =
    first_piece_of depth_limit c.args.block.now c.args.file_start _ _ c.in-Some-Ok.piece
    c.games-pieces.ensures
    (rw c.in-Some-Ok.field-0-is at c.in-Some-Ok.ensures.steps)
