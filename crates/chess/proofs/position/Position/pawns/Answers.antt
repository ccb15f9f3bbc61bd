use Rattle.chess.proofs.Common.{refl}
use Rattle.chess.proofs.position.Position.pawns.Goals as goal

pub returns : goal.returns
returns g c = record {
  white = c.bitboard_of.result;
  black = c.bitboard_of-2.result;
  pair = refl;
  white_fit = c.bitboard_of.ensures.fit;
  black_fit = c.bitboard_of-2.ensures.fit;
  white_men = c.bitboard_of.ensures.men;
  black_men = c.bitboard_of-2.ensures.men;
}
