-- A packed game that is played by the codes of its plies, where criteria speak of its moves.
use Rattle.std.specs.Prelude.{◌≡◌, ◌++◌, ℕ, true, List, Option, length}
use Rattle.chess.specs.Public.Positions.{State}
use Rattle.chess.specs.declared.moves.Move.{Move}
use Rattle.pgn_text.specs.Public.GameTexts.{GameText, tag_in}
use Rattle.pgn_game.specs.Public.CodeLines.{IsCodedLine, IsNextCoded, positions_from}
use Rattle.pgn_game.specs.Public.Replays.{Replay, IsReplay}
use Rattle.pgn_game.specs.Public.Starts.{fen_tag}
use Rattle.pgn_game.specs.declared.replays.replayer.Lines.TheVariants.{Main}
use Rattle.pgn_criteria.specs.Public.Conditions.{Conditions}
use Rattle.pgn_criteria.specs.Public.Turns.{HasLed}
use Rattle.pgn_extract.specs.Public.Aims.{Aim}
use Rattle.pgn_extract.specs.Private.Finding.{AsksFor}
use Rattle.pgn_extract.specs.Private.Lines.{Stands, is_bare}

-- these positions of the game are passed and this one is reached, to which this move led from this
-- position, and from which the game goes on by moves of whose codes these are the bytes
pub record IsTurnedTo (from : State) (last : Option Move) (left : List ℕ) (game : GameText)
    (before : List State) (P : State) : Type 0 where
  pub replay : Replay
  pub is_replay : IsReplay Main (tag_in fen_tag game.tags) game.elements replay
  pub gone : List Move
  pub moves : List Move
  pub positions : replay.positions ≡ before ++ positions_from P moves
  pub played : replay.played ≡ gone ++ moves
  pub even : length gone ≡ length before
  pub coded : IsCodedLine P left moves
  pub led : HasLed replay (length before) from last

-- a line that is played: what each ply is asked, the position and the move that led to the one
-- where it stands, that, the move that follows, the bytes of the codes from there, and how many
-- plies are past
pub record Turning : Type 0 where
  pub search : List Conditions
  pub from : State
  pub last : Option Move
  pub here : State
  pub next : Option Move
  pub left : List ℕ
  pub ply : ℕ

-- the game is played up to where the line stands, no field is shown, and the line is asked in place
-- of the aim's criteria
pub record IsTurnedWith (line : Turning) (aim : Aim) (game : GameText) (before : List State)
    (P : State) : Type 0 where
  pub plain : is_bare aim.line ≡ true
  pub asks : AsksFor aim game line.search
  pub count : length before ≡ line.ply
  pub here : line.here ≡ P
  pub next : IsNextCoded P line.left line.next
  pub to : IsTurnedTo line.from line.last line.left game before P
  pub stands : Stands game before P
