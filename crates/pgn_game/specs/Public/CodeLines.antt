-- The line that codes of plies spell from a position.
use Rattle.std.specs.Prelude.{◌≡◌, ◌≤◌, List, [], ◌∷◌, ℕ, Option, None, Some, length, drop}
use Rattle.std.specs.List.{flat_map}
use Rattle.chess.specs.Public.Moves.{after, IsLegal}
use Rattle.chess.specs.Public.Positions.{State}
use Rattle.chess.specs.declared.moves.Move.{Move}
use Rattle.pgn_game.specs.Public.PlyCodes.{PlyCode, AreCodes, code_bytes}
use Rattle.pgn_game.specs.Public.Replays.{Replay}

-- each of the moves is legal, the first in this position, and each other in the one that the moves
-- before it lead to
abbrev pub AreLegalMoves : State → List Move → Type 0
AreLegalMoves P [] = Unit {0}
AreLegalMoves P (m ∷ moves) = IsLegal P m × AreLegalMoves (after P m) moves

-- the positions that the moves lead through, from this one on
abbrev pub positions_from : State → List Move → List State
positions_from P [] = P ∷ []
positions_from P (m ∷ moves) = P ∷ positions_from (after P m) moves

-- the moves of the replay are legal, played from this position, and lead through its positions
pub record IsLegalLine (start : State) (replay : Replay) : Type 0 where
  pub legal : AreLegalMoves start replay.played
  pub positions : replay.positions ≡ positions_from start replay.played

-- legal moves from the position, of which these are the bytes of the codes
pub record IsCodedLine (start : State) (bytes : List ℕ) (moves : List Move) : Type 0 where
  pub legal : AreLegalMoves start moves
  pub codes : List PlyCode
  pub are : AreCodes start moves codes
  pub spell : bytes ≡ flat_map code_bytes codes

-- the replay of a line of legal moves from the position: if these are the bytes of the codes of a
-- line, it is that one
pub record IsCodedReplay (start : State) (bytes : List ℕ) (replay : Replay) : Type 0 where
  pub line : IsLegalLine start replay
  pub turns : replay.turns ≡ []
  pub only : (moves : List Move) → IsCodedLine start bytes moves → moves ≡ replay.played

-- each line that goes on from the position by these bytes goes on by this move, which is legal, and
-- then by the bytes after the first three; or it ends there
abbrev pub IsNextCoded : State → List ℕ → Option Move → Type 0
IsNextCoded P bytes None = (moves : List Move) → IsCodedLine P bytes moves → moves ≡ []
IsNextCoded P bytes (Some m) = IsLegal P m × (3 ≤ length bytes)
    × ((moves : List Move) → IsCodedLine P bytes moves
    → (more : List Move) × (moves ≡ m ∷ more) × IsCodedLine (after P m) (drop 3 bytes) more)
