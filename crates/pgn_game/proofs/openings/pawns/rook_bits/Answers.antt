-- The squares of each castling, one by one.
use Rattle.pgn_game.proofs.openings.PawnSteps.{rook_bit, white_king_side, white_queen_side}
use Rattle.pgn_game.proofs.openings.PawnSteps.{black_king_side, black_queen_side}
use Rattle.pgn_game.proofs.openings.pawns.rook_bits.Goals as goal

pub returns-in-12 : goal.returns-in-12
returns-in-12 c i h = rook_bit 160 12 c.args.number i white_king_side c.in-12.is h

pub returns-in-13 : goal.returns-in-13
returns-in-13 c i h = rook_bit 9 13 c.args.number i white_queen_side c.in-13.is h

pub returns-in-14 : goal.returns-in-14
returns-in-14 c i h =
    rook_bit 11529215046068469760 14 c.args.number i black_king_side c.in-14.is h

pub returns-in-15 : goal.returns-in-15
returns-in-15 c i h = rook_bit 648518346341351424 15 c.args.number i black_queen_side c.in-15.is h
