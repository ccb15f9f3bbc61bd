-- The position in which games usually begin (Laws 2.3).
use Rattle.std.specs.Prelude.{◌≡◌, ◌≤◌, ℕ, true, ◌==◌, ◌||◌, if◌then◌else◌, Option, Some, None}
use Rattle.chess.specs.Public.Squares.{Place, square_at}
use Rattle.chess.specs.Public.Placements.{Placement, man_at, AreOnBoard, IsEmpty, men_of}
use Rattle.chess.specs.Public.Positions.{State, pawn_of, home_rank, pawn_rank, has_right}
use Rattle.chess.specs.declared.board.man.Man.{Man}
use Rattle.chess.specs.declared.board.man.Side.{Side}
use Rattle.chess.specs.declared.board.man.Wing.{Wing}
use Rattle.chess.specs.declared.board.man.Side.TheVariants.{White, Black}
use Rattle.chess.specs.declared.board.man.Kind.{Kind}
use Rattle.chess.specs.declared.board.man.Kind.TheVariants.{King, Queen, Rook, Bishop, Knight}

-- the piece of a file: rooks in the corners, then knights, bishops, the queen on the d-file and the
-- king on the e-file
abbrev pub initial_piece : ℕ → Kind
initial_piece file =
    if (file == 1) || (file == 8) then Rook else
    if (file == 2) || (file == 7) then Knight else
    if (file == 3) || (file == 6) then Bishop else
    if file == 4 then Queen else King

-- the men stand as games usually begin
pub record IsInitialMen (p : Placement) : Type 0 where
  pub on_board : AreOnBoard p
  -- each side's pieces stand on its home rank
  pub pieces : (side : Side) (file : ℕ) → 1 ≤ file → file ≤ 8
      → man_at p (record { file = file; rank = home_rank side })
      ≡ Some (record { side = side; kind = initial_piece file })
  -- and its pawns before them
  pub pawns : (side : Side) (file : ℕ) → 1 ≤ file → file ≤ 8
      → man_at p (record { file = file; rank = pawn_rank side }) ≡ Some (pawn_of side)
  -- the four ranks between are empty
  pub empty : (s : Place) → 3 ≤ s.rank → s.rank ≤ 6 → IsEmpty p s

-- the position in which games usually begin: White is to move, all may castle, and nothing was
-- played
pub record IsInitial (P : State) : Type 0 where
  pub men : IsInitialMen P.men
  pub turn : P.turn ≡ White
  pub rights : (side : Side) (wing : Wing) → has_right P.rights side wing ≡ true
  pub en_passant : P.en_passant ≡ None
  pub halfmove_clock : P.halfmove_clock ≡ 0
  pub fullmove_number : P.fullmove_number ≡ 1

-- that position, as it is made square by square; it is the only one that is initial (a law says so)
-- White's pieces on rank 1 with the pawns before them on rank 2, and Black's on ranks 8 and 7
abbrev pub initial_man : Place → Option Man
initial_man s =
    if s.rank == 1 then Some (record { side = White; kind = initial_piece s.file }) else
    if s.rank == 2 then Some (pawn_of White) else
    if s.rank == 7 then Some (pawn_of Black) else
    if s.rank == 8 then Some (record { side = Black; kind = initial_piece s.file }) else None

abbrev pub initial_men : Placement
initial_men = men_of (λ n. initial_man (square_at n))

abbrev pub initial : State
initial = record {
  men = initial_men;
  turn = White;
  rights = record {
    white_king_side = true;
    white_queen_side = true;
    black_king_side =
        true;
    black_queen_side = true;
  };
  en_passant = None;
  halfmove_clock = 0;
  fullmove_number = 1;
}
