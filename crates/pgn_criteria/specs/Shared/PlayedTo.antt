-- A main line while it is played: what of it is past, and what is left.
use Rattle.std.specs.Prelude.{◌≡◌, ◌++◌, ℕ, List, Option, length}
use Rattle.chess.specs.Public.Positions.{State}
use Rattle.chess.specs.declared.moves.Move.{Move}
use Rattle.pgn_text.specs.Public.Games.{Item}
use Rattle.pgn_game.specs.Public.Faults.{Fault, IsMoveFault}
use Rattle.pgn_game.specs.Public.MainLines.{main_words, IsMainLine}
use Rattle.pgn_game.specs.Public.PlayedLines.{PlayedLine}
use Rattle.pgn_game.specs.Public.Starts.{IsStart}

-- the positions and moves of the whole main line are those before, and then those that are left of
-- the line
abbrev pub GoesOnWith : PlayedLine → List State → List Move → List State → List Move → Type 0
GoesOnWith line before played positions moves =
    (later : List State) × (more : List Move) × IsMainLine line.position line.words later more
    × (positions ≡ before ++ later) × (moves ≡ played ++ more)

-- the game is played up to the line: these are the positions before the one that is reached and the
-- moves between them, and what is left completes the whole
pub record IsPlayedTo (fen : Option (List ℕ)) (items : List Item) (line : PlayedLine)
    (before : List State) (played : List Move) : Type 0 where
  pub start : State
  pub is_start : IsStart fen start
  pub count : length before ≡ line.plies
  pub moves : length played ≡ line.plies
  pub parts : (positions : List State) (all : List Move)
      → IsMainLine start (main_words items 0) positions all
      → GoesOnWith line before played positions all
  pub completes : (later : List State) (more : List Move)
      → IsMainLine line.position line.words later more
      → IsMainLine start (main_words items 0) (before ++ later) (played ++ more)
  pub faults : (fault : Fault) → IsMoveFault line.position line.plies line.words fault
      → IsMoveFault start 0 (main_words items 0) fault
