-- A pass: the side to move gives its move up.
use Rattle.std.specs.Prelude.{None}
use Rattle.chess.specs.Public.Placements.{opposite}
use Rattle.chess.specs.Public.Positions.{State}
use Rattle.chess.specs.Public.Moves.{one_more, fullmove_number_after}

-- the position after a pass: the men and the rights stay, the other side is to move, and no pawn
-- has just made a double step; both counts go on as after a move that is neither a capture nor of a
-- pawn (PGN 16.1.3.5, 16.1.3.6)
abbrev pub passed : State → State
passed P = record {
  men = P.men;
  turn = opposite P.turn;
  rights = P.rights;
  en_passant = None;
  halfmove_clock = one_more P.halfmove_clock;
  fullmove_number = fullmove_number_after P.turn P.fullmove_number;
}
