-- A packed game that is walked by the codes of its plies, or told by their marks.
use Rattle.std.specs.Prelude.{◌≡◌, ◌↔◌, ◌++◌, ◌∷◌, ℕ, Bool, true, List, Option, Some, length}
use Rattle.std.specs.Prelude.{IsTrue}
use Rattle.std.specs.List.{slice_get}
use Rattle.chess.specs.Public.Positions.{State}
use Rattle.chess.specs.declared.board.man.Side.{Side}
use Rattle.chess.specs.declared.moves.Move.{Move}
use Rattle.pgn_text.specs.Public.GameTexts.{GameText, tag_in}
use Rattle.pgn_game.specs.Public.MainLines.{IsMainLine}
use Rattle.pgn_game.specs.Public.PlyCodes.{PlyCode, AreCodes, AreMarks}
use Rattle.pgn_game.specs.Public.Replays.{Replay, IsReplay}
use Rattle.pgn_game.specs.Public.Starts.{fen_tag}
use Rattle.pgn_game.specs.declared.replays.replayer.Lines.TheVariants.{Main}
use Rattle.pgn_criteria.specs.Public.ByMarks.{has_marks}
use Rattle.pgn_criteria.specs.Public.Conditions.{Conditions}
use Rattle.pgn_criteria.specs.Public.Meeting.{Heading, heading_of}
use Rattle.pgn_criteria.specs.Public.Walks.{Sight, IsSightOf}
use Rattle.pgn_extract.specs.Public.Aims.{Aim, IsMet}
use Rattle.pgn_extract.specs.Private.Lines.{is_bare}
use Rattle.pgn_extract.specs.Private.Finding.{AsksFor}
use Rattle.pgn_extract.specs.Private.Lines.{Stands}

-- these positions of the game are passed and this one is reached, of which this is seen, and these
-- codes tell the rest of its main line
pub record IsWalkedTo (seen : Sight) (left : List PlyCode) (game : GameText) (before : List State)
    (P : State) : Type 0 where
  pub replay : Replay
  pub is_replay : IsReplay Main (tag_in fen_tag game.tags) game.elements replay
  pub later : List State
  pub words : List (List ℕ)
  pub moves : List Move
  pub parts : replay.positions ≡ before ++ P ∷ later
  pub line : IsMainLine P words (P ∷ later) moves
  pub codes : AreCodes P moves left
  pub sight : IsSightOf P seen
  pub stands : Stands game before P

-- of games with this heading the plies are met at which the set has the position's marks
abbrev pub AreMetWith : ℕ → Heading → Option (List Conditions) → Type 0
AreMetWith set heading criteria =
    (P : State) (check stuck : Bool) → AreMarks P check stuck → (replay : Replay) (ply : ℕ)
    → slice_get replay.positions ply ≡ Some P
    → IsTrue (has_marks set P.turn check stuck) ↔ IsMet criteria heading replay ply

-- the game is walked up to here, no field is shown, and the walk is asked in place of the aim's
-- criteria
pub record IsWalkedWith (seen : Sight) (left : List PlyCode) (ply : ℕ) (asked : List Conditions)
    (aim : Aim) (game : GameText) (before : List State) (P : State) : Type 0 where
  pub plain : is_bare aim.line ≡ true
  pub asks : AsksFor aim game asked
  pub count : length before ≡ ply
  pub to : IsWalkedTo seen left game before P

-- no field is shown, the marks of the set tell whether the aim's criteria are met, and the position
-- that is reached has one of them; this side is to move there
pub record IsMarkedWith (set : ℕ) (side : Side) (left : List PlyCode) (ply : ℕ) (aim : Aim)
    (game : GameText) (before : List State) (P : State) : Type 0 where
  pub plain : is_bare aim.line ≡ true
  pub met : AreMetWith set (heading_of game) aim.criteria
  pub count : length before ≡ ply
  pub seen : Sight
  pub turn : seen.turn ≡ side
  pub told : has_marks set side seen.check seen.stuck ≡ true
  pub to : IsWalkedTo seen left game before P
