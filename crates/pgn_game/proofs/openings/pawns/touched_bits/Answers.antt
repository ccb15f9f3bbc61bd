-- Each bit of the squares of the ply and of a rook.
use Rattle.pgn_game.proofs.Common.{◌%◌}
use Rattle.pgn_game.proofs.openings.PawnSteps.{touched_bit}
use Rattle.pgn_game.proofs.openings.pawns.touched_bits.Goals as goal

pub returns : goal.returns
returns c i h =
    touched_bit c.ply_bits.result c.rook_bits.result (c.args.a % 64) (c.args.b % 64)
    (c.args.d % 64) c.args.number i (c.ply_bits.ensures i h) (c.rook_bits.ensures i h)
