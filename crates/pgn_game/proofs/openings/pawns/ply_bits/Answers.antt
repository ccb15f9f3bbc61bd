-- Each bit of the three squares.
use Rattle.pgn_game.proofs.Common.{◌%◌}
use Rattle.pgn_game.proofs.openings.PawnSteps.{ply_bit}
use Rattle.pgn_game.proofs.openings.pawns.ply_bits.Goals as goal

pub returns : goal.returns
returns c i h =
    ply_bit c.square_bit.result c.square_bit-2.result c.square_bit-3.result (c.args.a % 64)
    (c.args.b % 64) (c.args.d % 64) i c.square_bit.ensures c.square_bit-2.ensures
    c.square_bit-3.ensures
