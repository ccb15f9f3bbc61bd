-- A file of openings: each of its games is a line. Only the program that reads it cites these.
use Rattle.std.specs.Prelude.{◌≡◌, ℕ, true, List, [], ◌∷◌, Some, length, codes, unwrap_or}
use Rattle.std.specs.List.{slice_get}
use Rattle.pgn_text.specs.Public.GameTexts.{GameText, tag_in}
use Rattle.pgn_text.specs.Public.Limits.{depth_limit}
use Rattle.pgn_text.specs.Public.Pieces.{Piece, Game, Unreadable, ArePieces}
use Rattle.pgn_game.specs.Public.Openings.{NamedLine}
use Rattle.pgn_game.specs.Public.Replays.{Replay}
use Rattle.pgn_game.specs.declared.replays.replayer.Lines.TheVariants.{Main}
use Rattle.pgn_extract.specs.Public.GameReports.{IsReplayOf}
use Rattle.pgn_extract.specs.Public.Listing.{IsGameOf}

-- the contents of the string of the tag with the name, empty where the game has none
abbrev pub contents_in : List ℕ → GameText → List ℕ
contents_in name game = unwrap_or (tag_in name game.tags) []

-- the line that a sound game is: it ends in the last position of the main line, and is named by
-- three tags
pub record IsOwnLine (game : GameText) (line : NamedLine) : Type 0 where
  pub replay : Replay
  pub is_replay : IsReplayOf Main game replay
  pub end : slice_get replay.positions (length replay.played) ≡ Some line.end
  pub code : line.code ≡ contents_in (codes "ECO") game
  pub name : line.name ≡ contents_in (codes "Opening") game
  pub variation : line.variation ≡ contents_in (codes "Variation") game

-- the lines that pieces in a row are: each is a sound game
abbrev pub AreOwnLines : List Piece → List NamedLine → Type 0
AreOwnLines [] lines = lines ≡ []
AreOwnLines (Game at parts ∷ more) lines =
    (game : GameText) × (line : NamedLine) × (rest : List NamedLine) × (lines ≡ line ∷ rest)
    × IsGameOf parts game × IsOwnLine game line × AreOwnLines more rest
AreOwnLines (Unreadable at bytes ∷ more) lines = ⊥

-- the lines of the file with these bytes
abbrev pub AreLinesOfFile : List ℕ → List NamedLine → Type 0
AreLinesOfFile bytes lines =
    (pieces : List Piece) × ArePieces depth_limit true [] pieces bytes × AreOwnLines pieces lines
