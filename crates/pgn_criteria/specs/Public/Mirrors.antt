-- Positions seen from the other side, and with their files turned.
use Rattle.std.specs.Prelude.{◌⊎◌, ℕ, ◌-◌, Bool, true, false, List, option_map}
use Rattle.chess.specs.Public.Squares.{Place, square_at}
use Rattle.chess.specs.Public.Placements.{Placement, man_at, men_of, opposite}
use Rattle.chess.specs.Public.Positions.{State}
use Rattle.chess.specs.declared.board.man.Man.{Man}
use Rattle.chess.specs.declared.board.man.CastlingRights.{CastlingRights}
use Rattle.pgn_criteria.specs.Public.Patterns.{FitsPattern}
use Rattle.pgn_criteria.specs.declared.condition.PositionClaim.{PositionClaim}
use Rattle.pgn_criteria.specs.declared.condition.PositionClaim.TheVariants.{Check, Mate, Stalemate}

-- the man of the same kind of the other side
abbrev pub other_man : Man → Man
other_man man = record { side = opposite man.side; kind = man.kind }

-- the square on the same file and as far from the other edge: a1 and a8, e4 and e5
abbrev pub across : Place → Place
across s = record { file = s.file; rank = 9 - s.rank }

-- the square on the same rank and as far from the other edge: a1 and h1, d4 and e4
abbrev pub beside : Place → Place
beside s = record { file = 9 - s.file; rank = s.rank }

-- the men with sides exchanged and ranks turned: on each square stands the man of the other side of
-- the one across
unfoldable pub mirrored_men : Placement → Placement
mirrored_men men = men_of (λ n. option_map other_man (man_at men (across (square_at n))))

-- the men with the files turned: on each square stands the man beside
unfoldable pub flipped_men : Placement → Placement
flipped_men men = men_of (λ n. man_at men (beside (square_at n)))

-- the rights of the sides exchanged
abbrev pub mirrored_rights : CastlingRights → CastlingRights
mirrored_rights rights = record {
  white_king_side = rights.black_king_side;
  white_queen_side = rights.black_queen_side;
  black_king_side = rights.white_king_side;
  black_queen_side = rights.white_queen_side;
}

-- the mirror of a position: sides exchanged and ranks turned, and the other side to move
abbrev pub mirror : State → State
mirror P = record {
  men = mirrored_men P.men;
  turn = opposite P.turn;
  rights = mirrored_rights P.rights;
  en_passant = option_map across P.en_passant;
  halfmove_clock = P.halfmove_clock;
  fullmove_number = P.fullmove_number;
}

-- the men stand as the pattern says, or stand so with the files turned
abbrev pub FitsEitherWay : Placement → List ℕ → Type 0
FitsEitherWay men pattern = FitsPattern men pattern ⊎ FitsPattern (flipped_men men) pattern

-- the claims that can be made of the mirror: those on the men and on the side to move
abbrev pub can_be_mirrored : {T : Type 0} → PositionClaim T → Bool
can_be_mirrored Check = false
can_be_mirrored Mate = false
can_be_mirrored Stalemate = false
can_be_mirrored claim = true
