-- The entries of a game, found while its main line is played: what is found so far, and what is
-- left completes the whole.
use Rattle.std.specs.Prelude.{◌≡◌, ◌≢◌, ◌⊎◌, ◌↔◌, ◌<◌, ◌++◌, ◌∷◌, ℕ, List, []}
use Rattle.std.specs.Prelude.{length}
use Rattle.std.specs.Prelude.{Option, codes}
use Rattle.chess.specs.Public.Positions.{State}
use Rattle.chess.specs.Public.San.{IsOnlyNamed}
use Rattle.chess.specs.declared.moves.Move.{Move}
use Rattle.pgn_text.specs.Public.GameTexts.{GameText, tag_in}
use Rattle.pgn_game.specs.Public.Faults.{Fault, IsMoveFault, IsFault}
use Rattle.pgn_game.specs.Public.GameLines.{uci_text}
use Rattle.pgn_game.specs.Public.PlayedLines.{PlayedLine, IsNextText}
use Rattle.pgn_game.specs.Public.Replays.{Replay, IsReplay, IsSomeReplay, IsSoundGame}
use Rattle.pgn_game.specs.Public.Starts.{fen_tag}
use Rattle.pgn_game.specs.declared.replays.replayer.Lines.TheVariants.{Main}
use Rattle.pgn_criteria.specs.Public.Meeting.{Heading, heading_of, Meets}
use Rattle.pgn_criteria.specs.Public.Conditions.{Conditions}
use Rattle.pgn_extract.specs.Public.Aims.{Aim, GameId, HasNoChance, IsMet}
use Rattle.pgn_extract.specs.declared.settings.Mode.TheVariants as modes
use Rattle.pgn_extract.specs.Public.Exports.{IsFirstOrNone}
use Rattle.pgn_extract.specs.Public.GameReports.{AreListed}
use Rattle.pgn_extract.specs.Public.Index.{mark, titled}
use Rattle.pgn_extract.specs.Public.Listing.{Entry, listing}

-- the mark that a line begins with, after the name of its file where lines have one: `NAME:N@O`
abbrev pub named_mark : Option (List ℕ) → GameId → List ℕ
named_mark name id = titled (codes ":") name ++ mark id

-- it is a replay of the game: of its main line or of all its lines
abbrev pub IsOfGame : GameText → Replay → Type 0
IsOfGame game replay = IsSomeReplay (tag_in fen_tag game.tags) game.elements replay

-- a game is asked in place of the criteria: the same plies of its main line are met
abbrev pub AsksFor : Aim → GameText → List Conditions → Type 0
AsksFor aim game asked =
    (replay : Replay) → IsOfGame game replay → (ply : ℕ) → ply < length replay.positions
    → Meets (heading_of game) replay ply asked ↔ IsMet aim.criteria (heading_of game) replay ply

-- the text of a move, and nothing for the dash that stands for none
abbrev pub IsDashLeftOut : List ℕ → List ℕ → Type 0
IsDashLeftOut text value = ((text ≡ codes "-") × (value ≡ []))
    ⊎ ((text ≢ codes "-") × (value ≡ text))

-- the text of the next move, and nothing where there is none
abbrev pub IsNextValue : PlayedLine → List ℕ → Type 0
IsNextValue line value =
    (text : List ℕ) × IsNextText line.position line.words text × IsDashLeftOut text value

-- the move that the first of the words names as `--uci` writes it, and nothing where none is left
abbrev pub IsNextUci : State → List (List ℕ) → List ℕ → Type 0
IsNextUci now [] value = value ≡ []
IsNextUci now (word ∷ words) value = (m : Move) × IsOnlyNamed now word m × (value ≡ uci_text m)

-- the rest of the line has the fault, and something may be added already
abbrev pub StopsInLine : PlayedLine → List ℕ → List ℕ → Fault → Type 0
StopsInLine line old new fault = IsMoveFault line.position line.plies line.words fault
    × (more : List ℕ) × (new ≡ old ++ more)

-- the lines of the entries of the game are added
abbrev pub AddsEntries : Aim → GameId → GameText → List ℕ → List ℕ → Type 0
AddsEntries aim id game old new =
    (replay : Replay) × IsReplay Main (tag_in fen_tag game.tags) game.elements replay
    × (entries : List Entry) × AreListed aim id game replay entries
    × (new ≡ old ++ listing aim.name entries)

-- the game has the fault, and something may be added already
abbrev pub StopsAtFault : GameText → List ℕ → List ℕ → Fault → Type 0
StopsAtFault game old new fault = IsFault Main (tag_in fen_tag game.tags) game.elements fault
    × (more : List ℕ) × (new ≡ old ++ more)

-- the mode is that of the listing, and by its heading a game can have no entry
pub record ListsNone (aim : Aim) (heading : Heading) : Type 0 where
  pub mode : aim.mode ≡ modes.List
  pub no_chance : HasNoChance aim.criteria heading

-- the main line of the game is sound, and this is its least ply that is listed, or none
abbrev pub IsChosen : Aim → GameText → Option ℕ → Type 0
IsChosen aim game first =
    IsSoundGame Main (tag_in fen_tag game.tags) game.elements
    × ((replay : Replay) → IsOfGame game replay
    → IsFirstOrNone aim (heading_of game) replay first)
