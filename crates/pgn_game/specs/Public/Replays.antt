-- A game that is replayed, and what the answers to a replay mean.
use Rattle.std.specs.Prelude.{◌≡◌, ℕ, List, [], length, Option, Some, None}
use Rattle.chess.specs.Public.Positions.{State}
use Rattle.chess.specs.declared.moves.Move.{Move}
use Rattle.pgn_text.specs.Public.Games.{Item}
use Rattle.pgn_game.specs.Public.MainLines.{main_words, IsMainLine}
use Rattle.pgn_game.specs.Public.AllLines.{ArePlayed}
use Rattle.pgn_game.specs.Public.Starts.{IsStart}
use Rattle.pgn_game.specs.Public.Faults.{Fault, BadStart, IllegalMove, AmbiguousMove}
use Rattle.pgn_game.specs.declared.turns.line_move.LineMove.{LineMove}
use Rattle.pgn_game.specs.declared.replays.replayer.Lines.{Lines}
use Rattle.pgn_game.specs.declared.replays.replayer.Lines.TheVariants.{Main, All}
use Rattle.pgn_game.specs.declared.turns.fault.GameFault.{GameFault}
use Rattle.pgn_game.specs.declared.turns.fault.GameFault.TheVariants as answers

-- the positions of a main line from its start on, and the moves between them; and the turns of all
-- lines in the order of the text
pub record Replay : Type 0 where
  pub positions : List State
  pub played : List Move
  pub turns : List LineMove

-- the turns of the lines that are replayed: where the main line alone is, none are kept beside its
-- moves
abbrev pub AreTurns : Lines → State → List Item → List LineMove → Type 0
AreTurns Main start items turns = turns ≡ []
AreTurns All start items turns = ArePlayed start items turns

-- it is the replay of these lines of the game with these contents of its FEN tag and these
-- elements: the game is sound
pub record IsReplay (lines : Lines) (fen : Option (List ℕ)) (items : List Item)
    (replay : Replay) : Type 0 where
  pub start : State
  pub is_start : IsStart fen start
  pub line : IsMainLine start (main_words items 0) replay.positions replay.played
  pub turns : AreTurns lines start items replay.turns

-- it is the replay of the main line of the game with these contents of its FEN tag and these
-- elements
pub record IsMainReplay (fen : Option (List ℕ)) (items : List Item) (replay : Replay) : Type 0 where
  pub start : State
  pub is_start : IsStart fen start
  pub line : IsMainLine start (main_words items 0) replay.positions replay.played
  pub turns : replay.turns ≡ []

-- it is the replay of the game's main line or of all its lines: either has the positions and the
-- moves of the main line
abbrev pub IsSomeReplay : Option (List ℕ) → List Item → Replay → Type 0
IsSomeReplay fen items replay = (lines : Lines) × IsReplay lines fen items replay

-- the main line of the game can be replayed, and has so many plies
abbrev pub HasPlies : Option (List ℕ) → List Item → ℕ → Type 0
HasPlies fen items plies = (replay : Replay) × IsReplay Main fen items replay
    × (length replay.played ≡ plies)

-- there is a replay of these lines of the game
abbrev pub IsSoundGame : Lines → Option (List ℕ) → List Item → Type 0
IsSoundGame lines fen items = (replay : Replay) × IsReplay lines fen items replay

-- the fault that an answer reports: none where memory ran out
abbrev pub fault_of : GameFault → Option Fault
fault_of answers.BadPosition = Some BadStart
fault_of (answers.Illegal word ply) = Some (IllegalMove word.now ply)
fault_of (answers.Ambiguous word ply) = Some (AmbiguousMove word.now ply)
fault_of answers.OutOfMemory = None
