-- The entries of pieces, row by row, as a run gathers them.
use Rattle.std.specs.Prelude.{◌≡◌, ℕ, ◌+◌, List, [], ◌∷◌, ◌++◌}
use Rattle.pgn_text.specs.Public.GameTexts.{GameText}
use Rattle.pgn_text.specs.Public.Marks.{PieceKind, ReadableGame, UnreadableRest, TooLongBlock}
use Rattle.pgn_text.specs.Public.Marks.{MarkedPiece}
use Rattle.pgn_game.specs.Public.Faults.{Fault}
use Rattle.pgn_game.specs.Public.Replays.{Replay}
use Rattle.pgn_game.specs.declared.replays.replayer.Lines.TheVariants.{Main}
use Rattle.pgn_extract.specs.Public.Aims.{Aim, GameId}
use Rattle.pgn_extract.specs.Public.Choices.{id_of, IfChosen, is_chosen}
use Rattle.pgn_extract.specs.Public.GameReports.{AreListed, IsReplayOf, IsFaultOf}
use Rattle.pgn_extract.specs.Public.Listing.{Entry, IsCounted}

-- the entries of a game: those that it lists where it is sound, and none where it is faulty
pub data AreGameEntries (aim : Aim) (id : GameId) (game : GameText) (entries : List Entry) : Type 0
  where
    sound : (replay : Replay) → IsReplayOf Main game replay
        → AreListed aim id game replay entries
        → AreGameEntries aim id game entries
    faulty : (fault : Fault) → IsFaultOf Main game fault → entries ≡ []
        → AreGameEntries aim id game entries

-- the entries of a piece: only a game that can be read has any
abbrev pub ArePieceEntries : Aim → PieceKind → GameId → List Entry → Type 0
ArePieceEntries aim (ReadableGame parts) id entries =
    (game : GameText) × IsCounted aim.openings parts game × AreGameEntries aim id game entries
ArePieceEntries aim (UnreadableRest bytes) id entries = entries ≡ []
ArePieceEntries aim TooLongBlock id entries = entries ≡ []

-- the entries of pieces that are numbered from a number on: those of the first, where it is chosen,
-- and then those of the others
abbrev pub AreEntryRows : Aim → ℕ → List MarkedPiece → List Entry → Type 0
AreEntryRows aim number [] entries = entries ≡ []
AreEntryRows aim number (piece ∷ more) entries =
    (own : List Entry) × (rest : List Entry) × (entries ≡ own ++ rest)
    × IfChosen (is_chosen aim.chosen (id_of number piece))
    (ArePieceEntries aim piece.kind (id_of number piece) own) (own ≡ [])
    × AreEntryRows aim (number + 1) more rest
