-- The key of a position: thirteen numbers that two positions share exactly where they are the same
-- but for their counts, and for an en passant square where no pawn takes.
use Rattle.std.specs.Prelude.{◌≡◌, ◌↔◌, ◌+◌, ◌*◌, ◌^◌, ◌<◌, ℕ, Bool, true, false, List, []}
use Rattle.std.specs.Prelude.{◌∷◌, length, get_or, Option, Some, None}
use Rattle.chess.specs.Public.Squares.{Place, index_of}
use Rattle.chess.specs.Public.Placements.{Placement, man_at, row_of}
use Rattle.chess.specs.Public.Positions.{State, pawn_of}
use Rattle.chess.specs.Public.Moves.{TakesEnPassant, CanTakeEnPassant}
use Rattle.chess.specs.Public.Sets.{IsBitboardOf}
use Rattle.chess.specs.declared.board.man.Man.{Man}
use Rattle.chess.specs.declared.board.man.Side.{Side}
use Rattle.chess.specs.declared.board.man.Side.TheVariants.{White, Black}
use Rattle.chess.specs.declared.board.man.CastlingRights.{CastlingRights}
use Rattle.chess.specs.declared.moves.Move.{Move}

-- two positions are the same (Laws 9.2), whatever their counts are; a right that cannot be used
-- counts as it stands
pub record IsSamePosition (P Q : State) : Type 0 where
  pub men : P.men ≡ Q.men
  pub turn : P.turn ≡ Q.turn
  pub rights : P.rights ≡ Q.rights
  -- the same moves take a pawn en passant: where none does, it is the same whether there is an en
  -- passant square
  pub en_passant : (m : Move) → TakesEnPassant P m ↔ TakesEnPassant Q m

-- the square that counts: the en passant square where some move takes a pawn there, else none
abbrev pub IsUsed : State → Option Place → Type 0
IsUsed P None = CanTakeEnPassant P → ⊥
IsUsed P (Some s) = (P.en_passant ≡ Some s) × CanTakeEnPassant P

-- the bits of the bitboard are the squares on which that man stands
abbrev pub IsBitboardOfMan : Placement → Man → ℕ → Type 0
IsBitboardOfMan p man bitboard = IsBitboardOf (λ s. man_at p s ≡ Some man) bitboard

-- the side to move as a number, a right, and an en passant square, by its index and one
abbrev pub number_of_turn : Side → ℕ
number_of_turn White = 0
number_of_turn Black = 1

abbrev pub number_of_right : Bool → ℕ
number_of_right false = 0
number_of_right true = 1

abbrev pub number_of_en_passant : Option Place → ℕ
number_of_en_passant None = 0
number_of_en_passant (Some s) = index_of s + 1

-- the rights and the en passant square as one number, and the side to move with them
abbrev pub number_of_rights : CastlingRights → ℕ → ℕ
number_of_rights rights more =
    number_of_right rights.white_king_side + 2 * (number_of_right rights.white_queen_side
    + 2 * (number_of_right rights.black_king_side
    + 2 * (number_of_right rights.black_queen_side + 2 * more)))

abbrev pub number_of_rest : Side → CastlingRights → Option Place → ℕ
number_of_rest turn rights en_passant =
    number_of_turn turn + 2 * number_of_rights rights (number_of_en_passant en_passant)

-- the key of a position: the bitboards of the men, each at the place of his number, and the number
-- of the rest, with the en passant square where it counts; each of 64 bits
pub record IsKey (P : State) (key : List ℕ) : Type 0 where
  pub size : length key ≡ 13
  pub men : (man : Man) → IsBitboardOfMan P.men man (get_or key (row_of man) 0)
  pub fit : (k : ℕ) → get_or key k 0 < 2 ^ 64
  pub rest : (square : Option Place) × IsUsed P square
      × (get_or key 12 0 ≡ number_of_rest P.turn P.rights square)

-- a list of two bitboards, of 64 bits each: that of White's pawns, and that of Black's
pub record ArePawns (P : State) (pawns : List ℕ) : Type 0 where
  pub white : ℕ
  pub black : ℕ
  pub pair : pawns ≡ white ∷ black ∷ []
  pub white_fit : white < 2 ^ 64
  pub black_fit : black < 2 ^ 64
  pub white_men : IsBitboardOfMan P.men (pawn_of White) white
  pub black_men : IsBitboardOfMan P.men (pawn_of Black) black
