-- A main line of which the moves are kept, with what is known of each of its positions.
use Rattle.std.specs.Prelude.{◌≡◌, ◌↔◌, ◌<◌, ◌≤◌, ◌+◌, ◌++◌, ◌∷◌, [], ℕ, Bool, List}
use Rattle.std.specs.Prelude.{Option, Some, length, IsTrue}
use Rattle.std.specs.List.{slice_get}
use Rattle.chess.specs.Public.Positions.{State}
use Rattle.chess.specs.declared.moves.Move.{Move}
use Rattle.pgn_text.specs.Public.GameTexts.{GameText, tag_in}
use Rattle.pgn_game.specs.Public.CodeLines.{AreLegalMoves, positions_from}
use Rattle.pgn_game.specs.Public.Replays.{Replay, IsReplay}
use Rattle.pgn_game.specs.Public.Starts.{fen_tag}
use Rattle.pgn_game.specs.declared.replays.replayer.Lines.TheVariants.{Main}
use Rattle.pgn_criteria.specs.Public.Conditions.{Conditions}
use Rattle.pgn_criteria.specs.Public.Meeting.{Heading, heading_of}
use Rattle.pgn_extract.specs.Public.Aims.{Aim, IsMet}
use Rattle.pgn_extract.specs.Private.Lines.{Stands}
use Rattle.pgn_extract.specs.declared.entries.kept.Kept.{Kept}

-- the replay of these moves, played from the position
abbrev pub replay_of : State → List Move → Replay
replay_of start moves = record {
  positions = positions_from start moves;
  played = moves;
  turns = [];
}

-- these are the first of the positions
abbrev pub AreFirst : List State → List State → Type 0
AreFirst first positions =
    (n : ℕ) (P : State) → slice_get first n ≡ Some P → slice_get positions n ≡ Some P

-- the replay of a line that is kept
abbrev pub line_of : Kept → Replay
line_of line = replay_of line.start line.played.items

-- its moves are legal, of each of its positions it is said whether it is met, and the ply that is
-- reached is one of them; the first positions are its own, and after these so are the one that is
-- reached and the one before that
pub record IsReached (line : Kept) : Type 0 where
  pub legal : AreLegalMoves line.start line.played.items
  pub sized : length line.met.items ≡ length line.played.items + 1
  pub within : line.ply < length line.met.items
  pub first : AreFirst line.first.items (line_of line).positions
  pub here : length line.first.items ≤ line.ply
      → slice_get (line_of line).positions line.ply ≡ Some line.here
  pub last : (n : ℕ) → line.ply ≡ n + 1 → length line.first.items ≤ n
      → slice_get (line_of line).positions n ≡ Some line.before

-- of each position of a main line it is known whether the criteria are met
pub record AreReported (criteria : Option (List Conditions)) (heading : Heading) (replay : Replay)
    (met : List Bool) : Type 0 where
  pub size : length met ≡ length replay.positions
  pub reports : (n : ℕ) (r : Bool) → slice_get met n ≡ Some r
      → IsTrue r ↔ IsMet criteria heading replay n

-- the main line of the game is kept, of each position it is known whether the aim's criteria are
-- met, and these positions are passed and this one is reached
pub record IsKeptWith (kept : Replay) (met : List Bool) (ply : ℕ) (aim : Aim) (game : GameText)
    (before : List State) (P : State) : Type 0 where
  pub is_replay : IsReplay Main (tag_in fen_tag game.tags) game.elements kept
  pub size : length met ≡ length kept.positions
  pub reports : (n : ℕ) (r : Bool) → slice_get met n ≡ Some r
      → IsTrue r ↔ IsMet aim.criteria (heading_of game) kept n
  pub rest : List State
  pub parts : kept.positions ≡ before ++ P ∷ rest
  pub count : length before ≡ ply
  pub stands : Stands game before P
