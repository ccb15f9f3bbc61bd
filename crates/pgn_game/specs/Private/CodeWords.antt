-- Private words: the move that a code tells, and how far a line is replayed from its codes.
use Rattle.std.specs.Prelude.{◌≡◌, ℕ, ◌&&◌, not, if◌then◌else◌, List, ◌++◌, drop, length, Option}
use Rattle.std.specs.Prelude.{Some, None}
use Rattle.chess.specs.Public.Placements.{man_at}
use Rattle.chess.specs.Public.Positions.{State}
use Rattle.chess.specs.Public.Moves.{is_pawn}
use Rattle.chess.specs.declared.board.man.Kind.{Kind}
use Rattle.chess.specs.declared.board.man.Man.{Man}
use Rattle.chess.specs.declared.moves.Move.{Move}
use Rattle.pgn_game.specs.Public.CodeLines.{AreLegalMoves, IsCodedLine, positions_from}
use Rattle.pgn_game.specs.Public.PlyCodes.{PlyCode, AreCodes}

-- what the man that leaves becomes, where another arrives in place of a pawn
abbrev pub promoted : Option Man → Man → Option Kind
promoted leaving man = if is_pawn leaving && not (is_pawn (Some man)) then Some man.kind else None

-- the move that the code tells in the position, if it is the code of one
abbrev pub told_move : State → PlyCode → Move
told_move P c =
    record {
      from = c.from;
      to = c.to;
      promote = promoted (man_at P.men c.from) c.man;
      castle =
          c.castle;
    }

-- what is left of a line, of which some codes are replayed: it goes on from here
pub record IsLeft (here : State) (played : List Move) (codes : List PlyCode)
    (moves : List Move) : Type 0 where
  pub rest : List Move
  pub parts : moves ≡ played ++ rest
  pub legal : AreLegalMoves here rest
  pub are : AreCodes here rest codes

-- so many plies are replayed, up to this position: the positions before it and the moves between
-- are kept, and a line with these bytes goes on from here
pub record HasReplayed (start : State) (bytes : List ℕ) (ply : ℕ) (before : List State)
    (here : State) (played : List Move) : Type 0 where
  pub count : length played ≡ ply
  pub size : length before ≡ ply
  pub legal : (rest : List Move) → AreLegalMoves here rest → AreLegalMoves start (played ++ rest)
  pub positions : (rest : List Move) → positions_from start (played ++ rest)
      ≡ before ++ positions_from here rest
  pub left : (moves : List Move) (line : IsCodedLine start bytes moves)
      → IsLeft here played (drop ply line.codes) moves
