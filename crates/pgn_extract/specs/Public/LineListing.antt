-- The listing of each line of a game: of its main line, and of its variations in the order of the
-- text.
use Rattle.std.specs.Prelude.{◌≡◌, ◌+◌, ◌-◌, ℕ, zero, suc, List, [], ◌∷◌, ◌++◌, Some, max}
use Rattle.pgn_text.specs.Public.Games.{Item}
use Rattle.pgn_text.specs.Public.GameTexts.{GameText}
use Rattle.pgn_text.specs.Public.Marks.{MarkedPiece, PieceKind, ReadableGame, TooLongBlock}
use Rattle.pgn_text.specs.Public.Marks.{UnreadableRest}
use Rattle.pgn_game.specs.Public.AllLines.{Line, spelled}
use Rattle.pgn_game.specs.Public.LineGames.{LineGame, lines_of}
use Rattle.pgn_game.specs.Public.Faults.{Fault}
use Rattle.pgn_game.specs.Public.Replays.{Replay}
use Rattle.pgn_game.specs.Public.SearchedLines.{as_searched, own_ply}
use Rattle.pgn_game.specs.declared.replays.replayer.Lines.TheVariants.{All, Main}
use Rattle.pgn_extract.specs.Public.Aims.{Aim, GameId, LineId}
use Rattle.pgn_extract.specs.Public.Choices.{IfChosen, id_of, is_chosen}
use Rattle.pgn_extract.specs.Public.GameReports.{AreListed, IsFaultOf, IsReplayOf}
use Rattle.pgn_extract.specs.Public.Listing.{Entry, IsCounted, listing}

-- the elements of the line with this number, of those of the main line, which has the number 0, and
-- of a variation
abbrev pub listed_items : ℕ → List Item → List Item → List Item
listed_items zero main own = main
listed_items (suc n) main own = own

-- the line with this number as a game: a variation has the moves that lead to it
abbrev pub listed_game : GameText → ℕ → LineGame → GameText
listed_game game number line = record game {
  elements = listed_items number game.elements (as_searched game line).elements;
}

-- which line of its game it is
abbrev pub line_id : ℕ → LineGame → LineId
line_id number line = record { number = number; from = own_ply line - 1 }

-- what is asked of the line with this number: of its plies those from its first own one on
abbrev pub aim_in : Aim → ℕ → LineGame → Aim
aim_in aim number line = record aim {
  of_line = Some (line_id number line);
  min_ply = max aim.min_ply (own_ply line);
}

-- the text is the lines of the entries of a line of the game, which has this number in it
abbrev pub IsLineListing : Aim → GameId → GameText → ℕ → LineGame → List ℕ → Type 0
IsLineListing aim id game number line text =
    (replay : Replay) × IsReplayOf Main (listed_game game number line) replay
    × (entries : List Entry)
    × AreListed (aim_in aim number line) id (listed_game game number line) replay entries
    × (text ≡ listing aim.name entries)

-- the same of lines in a row, which are numbered from a number on
abbrev pub AreLineListings : Aim → GameId → GameText → ℕ → List LineGame → List ℕ → Type 0
AreLineListings aim id game number [] text = text ≡ []
AreLineListings aim id game number (line ∷ more) text =
    (own : List ℕ) × (rest : List ℕ) × (text ≡ own ++ rest)
    × IsLineListing aim id game number line own
    × AreLineListings aim id game (number + 1) more rest

-- the text is the lines of the entries of all lines of the game: of its main line, which has the
-- number 0, and of its variations
abbrev pub ListsEachLine : Aim → GameId → GameText → List ℕ → Type 0
ListsEachLine aim id game text = (line : Line) × (game.elements ≡ spelled line)
    × AreLineListings aim id game 0 (lines_of line) text

-- what is listed of a game: where all its lines are sound, the entries of each, and else nothing
pub data IsGameLineListing (aim : Aim) (id : GameId) (game : GameText) (text : List ℕ) : Type 0
  where
    sound : (replay : Replay) → IsReplayOf All game replay → ListsEachLine aim id game text
        → IsGameLineListing aim id game text
    faulty : (fault : Fault) → IsFaultOf All game fault → text ≡ []
        → IsGameLineListing aim id game text

-- what is listed of a piece that is chosen
abbrev pub IsPieceLineListing : Aim → GameId → PieceKind → List ℕ → Type 0
IsPieceLineListing aim id (ReadableGame parts) text =
    (game : GameText) × IsCounted aim.openings parts game × IsGameLineListing aim id game text
IsPieceLineListing aim id (UnreadableRest bytes) text = text ≡ []
IsPieceLineListing aim id TooLongBlock text = text ≡ []

-- what is listed of pieces in a row that are numbered from a number on: that of the first, where it
-- is chosen, and then that of the others
abbrev pub AreGameLineListings : Aim → ℕ → List MarkedPiece → List ℕ → Type 0
AreGameLineListings aim number [] text = text ≡ []
AreGameLineListings aim number (piece ∷ more) text =
    (own : List ℕ) × (rest : List ℕ) × (text ≡ own ++ rest)
    × IfChosen (is_chosen aim.chosen (id_of number piece))
    (IsPieceLineListing aim (id_of number piece) piece.kind own) (own ≡ [])
    × AreGameLineListings aim (number + 1) more rest
