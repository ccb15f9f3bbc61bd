-- The export of a text: of its games whose lines can be replayed, those that have an entry, each in
-- the standard's form for export. Or those that have none, or its faulty pieces; or each game as it
-- stands, on a line of its own, or as the record of a pack.
use Rattle.std.specs.Prelude.{◌≡◌, ℕ, ◌+◌, ◌<◌, List, [], ◌∷◌, ◌++◌, length, codes, Option}
use Rattle.std.specs.Prelude.{Some, None}
use Rattle.pgn_text.specs.Public.GameTexts.{GameText, tag_in}
use Rattle.pgn_text.specs.Public.Marks.{PieceKind, ReadableGame, UnreadableRest, TooLongBlock}
use Rattle.pgn_text.specs.Public.Marks.{MarkedPiece}
use Rattle.pgn_game.specs.Public.Edits.{IsEditedExport}
use Rattle.pgn_game.specs.Public.LaterPlies.{IsLater}
use Rattle.pgn_game.specs.Public.Exports.{lines_with}
use Rattle.pgn_game.specs.Public.Faults.{Fault}
use Rattle.pgn_game.specs.Public.GameLines.{IsGameLine}
use Rattle.pgn_game.specs.Public.PackedGames.{IsRecordOf}
use Rattle.pgn_game.specs.Public.LineGames.{AreLineTexts, AsExports, OnLines}
use Rattle.pgn_game.specs.Public.Replays.{Replay}
use Rattle.pgn_game.specs.Public.Starts.{fen_tag}
use Rattle.pgn_game.specs.declared.replays.replayer.Lines.{Lines}
use Rattle.pgn_game.specs.declared.replays.replayer.Lines.TheVariants.{All, Main}
use Rattle.pgn_game.specs.declared.exports.style.Style.{Style}
use Rattle.pgn_criteria.specs.Public.Meeting.{Heading, heading_of}
use Rattle.pgn_extract.specs.Public.Aims.{Aim, GameId, IsEntry, IsWanted}
use Rattle.pgn_extract.specs.Public.Choices.{id_of, IfChosen, is_chosen}
use Rattle.pgn_extract.specs.Public.Index.{mark, titled}
use Rattle.pgn_extract.specs.Public.GameReports.{IsReplayOf, IsFaultOf}
use Rattle.pgn_extract.specs.Public.Listing.{IsCounted}
use Rattle.pgn_extract.specs.declared.settings.Form.{Form}
use Rattle.pgn_extract.specs.declared.settings.Form.TheVariants.{Standard, AsItStands, Line, Record}
use Rattle.pgn_extract.specs.declared.settings.Form.TheVariants.{EachLine, FromEntry}
use Rattle.pgn_extract.specs.declared.settings.Form.TheVariants.{LineOfEach}
use Rattle.pgn_extract.specs.declared.settings.Mode.{Mode}
use Rattle.pgn_extract.specs.declared.settings.Mode.TheVariants as modes
use Rattle.pgn_extract.specs.declared.settings.Select.{Select}
use Rattle.pgn_extract.specs.declared.settings.Select.TheVariants.{Matching, Others, Faulty}

-- the lines of a game that must be sound in a form: all that are written
abbrev pub lines_in : Form → Style → Lines
lines_in Standard style = lines_with style.variations
lines_in FromEntry style = lines_with style.variations
lines_in EachLine style = All
lines_in (LineOfEach notation) style = All
lines_in AsItStands style = lines_with style.variations
lines_in (Line notation) style = Main
lines_in Record style = Main

abbrev pub written_lines : Aim → Lines
written_lines aim = lines_in aim.form aim.style

-- some ply of the main line is listed
abbrev pub HasEntry : Aim → Heading → Replay → Type 0
HasEntry aim tags replay = (ply : ℕ) × (ply < length replay.positions) × IsEntry aim tags replay ply

-- this is the first ply of the main line that is wanted, and so the least that is listed; or none
-- where none is
abbrev pub IsFirstOrNone : Aim → Heading → Replay → Option ℕ → Type 0
IsFirstOrNone aim tags replay None =
    (ply : ℕ) → ply < length replay.positions → IsWanted aim tags replay ply → ⊥
IsFirstOrNone aim tags replay (Some ply) =
    (ply < length replay.positions) × IsWanted aim tags replay ply
    × ((before : ℕ) → before < ply → IsWanted aim tags replay before → ⊥)

-- the other game is the game from its first entry on; whole where it has none
abbrev pub IsFromEntry : Option ℕ → GameText → GameText → Type 0
IsFromEntry None game other = other ≡ game
IsFromEntry (Some ply) game other = IsLater ply game other

-- bytes of a text as they stand there, and two line feeds
abbrev pub as_it_stands : List ℕ → List ℕ
as_it_stands bytes = bytes ++ 10 ∷ 10 ∷ []

-- a sound game is selected: by its having an entry, or by its having none; and none is where the
-- faulty ones are
abbrev pub IsSelected : Select → Type 0 → Type 0
IsSelected Matching entry = entry
IsSelected Others entry = entry → ⊥
IsSelected Faulty entry = ⊥

-- a game on a line of its own: its mark, after the name of its file where lines have one, its start
-- and its moves
abbrev pub line_with : Option (List ℕ) → GameId → List ℕ → List ℕ
line_with name id own = (titled (codes ":") name ++ mark id) ++ 32 ∷ own ++ 10 ∷ []

-- what each line of a game begins with, where it stands on a line of text: the game's mark, after
-- the name of its file where lines have one
abbrev pub line_begin : Option (List ℕ) → GameId → List ℕ
line_begin name id = (titled (codes ":") name ++ mark id) ++ 32 ∷ []

-- the text of a game that is selected: its export with the edits, or that of the game from its
-- first entry on, or its lines as exports or on lines, or the game as it stands, or its line, or
-- its record
abbrev pub IsTextOf : Form → Aim → GameId → GameText → List ℕ → Type 0
IsTextOf Standard aim id game text = IsEditedExport aim.edits aim.style game text
IsTextOf FromEntry aim id game text =
    (replay : Replay) × (first : Option ℕ) × (own : GameText) × IsReplayOf Main game replay
    × IsFirstOrNone aim (heading_of game) replay first × IsFromEntry first game own
    × IsEditedExport aim.edits aim.style own text
IsTextOf EachLine aim id game text = AreLineTexts (AsExports aim.edits aim.style) game text
IsTextOf (LineOfEach notation) aim id game text =
    AreLineTexts (OnLines notation (line_begin aim.name id)) game text
IsTextOf AsItStands aim id game text = text ≡ as_it_stands game.text
IsTextOf (Line notation) aim id game text =
    (own : List ℕ) × IsGameLine notation (tag_in fen_tag game.tags) game.elements own
    × (text ≡ line_with aim.name id own)
IsTextOf Record aim id game text = IsRecordOf aim.name id.number id.offset game text

-- what is written of a sound game: its text where it is selected, once however many entries it has,
-- and else nothing
pub data IsWritten (aim : Aim) (id : GameId) (game : GameText) (replay : Replay)
    (text : List ℕ) : Type 0 where
  selected : IsSelected aim.select (HasEntry aim (heading_of game) replay)
      → IsTextOf aim.form aim id game text
      → IsWritten aim id game replay text
  unselected : (IsSelected aim.select (HasEntry aim (heading_of game) replay) → ⊥) → text ≡ []
      → IsWritten aim id game replay text

-- what a mode writes of faulty bytes: where the export selects them, the bytes as they stand, and
-- else nothing
abbrev pub faulty_text : Mode → Select → List ℕ → List ℕ
faulty_text modes.Index select bytes = []
faulty_text modes.List select bytes = []
faulty_text modes.EachLine select bytes = []
faulty_text modes.Export Matching bytes = []
faulty_text modes.Export Others bytes = []
faulty_text modes.Export Faulty bytes = as_it_stands bytes

-- what is written of a game, sound or faulty
pub data IsGameExport (aim : Aim) (id : GameId) (game : GameText) (text : List ℕ) : Type 0 where
  sound : (replay : Replay) → IsReplayOf (written_lines aim) game replay
      → IsWritten aim id game replay text
      → IsGameExport aim id game text
  faulty : (fault : Fault) → IsFaultOf (written_lines aim) game fault
      → text ≡ faulty_text modes.Export aim.select game.text
      → IsGameExport aim id game text

-- what is written of a piece that is chosen: nothing of a block over the limit, whose bytes are not
-- kept
abbrev pub IsPieceExport : Aim → GameId → PieceKind → List ℕ → Type 0
IsPieceExport aim id (ReadableGame parts) text =
    (game : GameText) × IsCounted aim.openings parts game × IsGameExport aim id game text
IsPieceExport aim id (UnreadableRest bytes) text = text ≡ faulty_text modes.Export aim.select bytes
IsPieceExport aim id TooLongBlock text = text ≡ []

-- what is written of pieces in a row that are numbered from a number on: that of the first, where
-- it is chosen, and then that of the others
abbrev pub AreExports : Aim → ℕ → List MarkedPiece → List ℕ → Type 0
AreExports aim number [] text = text ≡ []
AreExports aim number (piece ∷ more) text =
    (own : List ℕ) × (rest : List ℕ) × (text ≡ own ++ rest)
    × IfChosen (is_chosen aim.chosen (id_of number piece))
    (IsPieceExport aim (id_of number piece) piece.kind own) (own ≡ [])
    × AreExports aim (number + 1) more rest
