-- A position: men, the side to move, castling rights, the en passant square, and two counts (Laws
-- 3; PGN 16.1.3).
use Rattle.std.specs.Prelude.{◌≡◌, ◌≢◌, ℕ, Bool, true, Option, Some, IfSome}
use Rattle.chess.specs.Public.Squares.{Place, IsOnBoard}
use Rattle.chess.specs.Public.Placements.{Placement, man_at, AreOnBoard, opposite, IsEmpty}
use Rattle.chess.specs.Public.Attacks.{IsAttacked, IsForward}
use Rattle.chess.specs.declared.board.man.Man.{Man}
use Rattle.chess.specs.declared.board.man.Side.{Side}
use Rattle.chess.specs.declared.board.man.Side.TheVariants.{White, Black}
use Rattle.chess.specs.declared.board.man.Kind.TheVariants.{King, Rook, Pawn}
use Rattle.chess.specs.declared.board.man.Wing.{Wing}
use Rattle.chess.specs.declared.board.man.Wing.TheVariants.{KingSide, QueenSide}
use Rattle.chess.specs.declared.board.man.CastlingRights.{CastlingRights}

pub record State : Type 0 where
  pub men : Placement
  -- the side to move
  pub turn : Side
  pub rights : CastlingRights
  -- the square that a pawn passed over with the double step just made (Laws 3.7.3.1)
  pub en_passant : Option Place
  -- moves since a pawn's move or a capture, of each side counted as one
  pub halfmove_clock : ℕ
  -- 1 at first, and one more after each move of Black
  pub fullmove_number : ℕ

-- the king and the rook of a side, and its pawn
abbrev pub king_of : Side → Man
king_of side = record { side = side; kind = King }

abbrev pub rook_of : Side → Man
rook_of side = record { side = side; kind = Rook }

abbrev pub pawn_of : Side → Man
pawn_of side = record { side = side; kind = Pawn }

-- the rank on which a side's pieces stand at first, the rank of its pawns, and the rank that its
-- pawns pass over with a double step
abbrev pub home_rank : Side → ℕ
home_rank White = 1
home_rank Black = 8

abbrev pub pawn_rank : Side → ℕ
pawn_rank White = 2
pawn_rank Black = 7

abbrev pub passed_rank : Side → ℕ
passed_rank White = 3
passed_rank Black = 6

-- the right of a side to castle on a wing is held (Laws 3.8.2.1)
abbrev pub has_right : CastlingRights → Side → Wing → Bool
has_right rights White KingSide = rights.white_king_side
has_right rights White QueenSide = rights.white_queen_side
has_right rights Black KingSide = rights.black_king_side
has_right rights Black QueenSide = rights.black_queen_side

-- castling moves the king from the e-file to the g-file or the c-file, and the rook from the h-file
-- or the a-file to the f-file or the d-file (Laws 3.8.2): the files of a wing
abbrev pub king_to_file : Wing → ℕ
king_to_file KingSide = 7
king_to_file QueenSide = 3

abbrev pub rook_from_file : Wing → ℕ
rook_from_file KingSide = 8
rook_from_file QueenSide = 1

abbrev pub rook_to_file : Wing → ℕ
rook_to_file KingSide = 6
rook_to_file QueenSide = 4

-- the squares of castling; the rook's new square is also the one that the king crosses
abbrev pub king_from : Side → Place
king_from side = record { file = 5; rank = home_rank side }

abbrev pub king_to : Side → Wing → Place
king_to side wing = record { file = king_to_file wing; rank = home_rank side }

abbrev pub rook_from : Side → Wing → Place
rook_from side wing = record { file = rook_from_file wing; rank = home_rank side }

abbrev pub rook_to : Side → Wing → Place
rook_to side wing = record { file = rook_to_file wing; rank = home_rank side }

-- the side is in check: a square of its king is attacked (Laws 3.9.1)
abbrev pub IsCheck : Placement → Side → Type 0
IsCheck p side = (s : Place) × (man_at p s ≡ Some (king_of side)) × IsAttacked p (opposite side) s

-- the side has its king on that square and no other king
pub record IsOnlyKing (p : Placement) (side : Side) (s : Place) : Type 0 where
  pub here : man_at p s ≡ Some (king_of side)
  pub only : (t : Place) → man_at p t ≡ Some (king_of side) → t ≡ s

-- the square fits as an en passant square: a pawn of the other side may just have passed over it
-- (PGN 16.1.3.4)
pub record FitsEnPassant (p : Placement) (turn : Side) (s : Place) : Type 0 where
  pub on_board : IsOnBoard s
  -- rank 6 with White to move, rank 3 with Black to move
  pub rank : s.rank ≡ passed_rank (opposite turn)
  -- it and the square that the pawn came from are empty
  pub empty : IsEmpty p s
  pub origin : (t : Place) → t.file ≡ s.file → IsForward turn s.rank t.rank → IsEmpty p t
  -- the pawn stands where its double step ends
  pub pawn : (t : Place) → t.file ≡ s.file → IsForward turn t.rank s.rank
      → man_at p t ≡ Some (pawn_of (opposite turn))

-- the facts that each position of the program keeps
pub record IsSound (P : State) : Type 0 where
  -- men stand on the board alone (Laws 2.3)
  pub on_board : AreOnBoard P.men
  -- one king a side
  pub king : (side : Side) → (s : Place) × IsOnlyKing P.men side s
  -- no pawn on the first or the last rank (Laws 3.7)
  pub pawns : (side : Side) (s : Place) → man_at P.men s ≡ Some (pawn_of side)
      → (s.rank ≢ 1) × (s.rank ≢ 8)
  -- the side not to move is not in check (Laws 3.9.2)
  pub quiet : IsCheck P.men (opposite P.turn) → ⊥
  -- a right only with king and rook at home (Laws 3.8.2.1)
  pub rights : (side : Side) (wing : Wing) → has_right P.rights side wing ≡ true
      → (man_at P.men (king_from side) ≡ Some (king_of side))
      × (man_at P.men (rook_from side wing) ≡ Some (rook_of side))
  -- an en passant square only where it fits
  pub en_passant : IfSome P.en_passant (FitsEnPassant P.men P.turn)
