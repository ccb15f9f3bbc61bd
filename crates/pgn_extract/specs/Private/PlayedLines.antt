-- A main line that is played while it is asked.
use Rattle.std.specs.Prelude.{◌≡◌, ◌↔◌, ◌<◌, ◌≤◌, ℕ, Bool, true, false, List, length, get_or}
use Rattle.std.specs.Prelude.{IsTrue, Option, Some}
use Rattle.std.specs.List.{slice_get}
use Rattle.chess.specs.Public.Positions.{State}
use Rattle.chess.specs.declared.moves.Move.{Move}
use Rattle.pgn_text.specs.Public.GameTexts.{GameText, tag_in}
use Rattle.pgn_game.specs.Public.PlayedLines.{PlayedLine}
use Rattle.pgn_game.specs.Public.Replays.{IsSoundGame, Replay}
use Rattle.pgn_game.specs.Public.Starts.{fen_tag}
use Rattle.pgn_game.specs.declared.replays.replayer.Lines.TheVariants.{Main}
use Rattle.pgn_criteria.specs.Public.Conditions.{Conditions}
use Rattle.pgn_criteria.specs.Public.Meeting.{Meets, heading_of}
use Rattle.pgn_criteria.specs.Shared.PlayedTo.{IsPlayedTo}
use Rattle.pgn_extract.specs.Public.Aims.{Aim, IsMet}
use Rattle.pgn_extract.specs.Private.Finding.{IsOfGame}
use Rattle.pgn_extract.specs.Private.Lines.{Stands}

-- so it is of each ply of each replay of the game
abbrev pub EachPly : GameText → (Replay → ℕ → Type 0) → Type 0
EachPly game So = (replay : Replay) → IsOfGame game replay → (ply : ℕ)
    → ply < length replay.positions → So replay ply

-- the alternatives are asked in place of the criteria
abbrev pub AsksOf : List Conditions → Option (List Conditions) → GameText → Type 0
AsksOf asked criteria game = EachPly game (λ replay ply.
    Meets (heading_of game) replay ply asked ↔ IsMet criteria (heading_of game) replay ply)

-- the plies that are told are those that meet the criteria
abbrev pub TellsOf : List Bool → Option (List Conditions) → GameText → Type 0
TellsOf told criteria game = EachPly game (λ replay ply.
    IsTrue (get_or told ply false) ↔ IsMet criteria (heading_of game) replay ply)

-- this tells whether the position after so many plies meets them
abbrev pub TellsAt : Bool → ℕ → State → Option (List Conditions) → GameText → Type 0
TellsAt met ply P criteria game =
    (replay : Replay) → IsOfGame game replay → slice_get replay.positions ply ≡ Some P
    → IsTrue met ↔ IsMet criteria (heading_of game) replay ply

-- none meets them after so many plies or more
abbrev pub NoneFrom : ℕ → Option (List Conditions) → GameText → Type 0
NoneFrom least criteria game =
    EachPly game (λ replay ply. least ≤ ply → IsMet criteria (heading_of game) replay ply → ⊥)

-- the game is played up to here, and what is asked of it is what the aim's criteria ask; that it is
-- sound may be known
pub record IsPlayedWith (known : Bool) (line : PlayedLine)
    (Asks : Option (List Conditions) → GameText → Type 0) (aim : Aim) (game : GameText)
    (before : List State) (P : State) : Type 0 where
  pub sound : known ≡ true → IsSoundGame Main (tag_in fen_tag game.tags) game.elements
  pub asks : Asks aim.criteria game
  pub here : P ≡ line.position
  pub played : List Move
  pub to : IsPlayedTo (tag_in fen_tag game.tags) game.elements line before played
  pub stands : Stands game before P
