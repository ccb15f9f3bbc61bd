-- A row: what is shown of a ply of a game where columns are asked for.
use Rattle.std.specs.Prelude.{◌≡◌, ℕ, zero, suc, List, [], ◌∷◌, Option, Some, None, MatchOption}
use Rattle.std.specs.Prelude.{codes, decimal, drop, if◌then◌else◌, length, map, nat_lt, option_map}
use Rattle.std.specs.Prelude.{unwrap_or}
use Rattle.std.specs.List.{slice_get}
use Rattle.chess.specs.Public.Fen.{IsFen, side_text}
use Rattle.chess.specs.Public.Positions.{State}
use Rattle.chess.specs.declared.moves.Move.{Move}
use Rattle.pgn_text.specs.Public.GameTexts.{GameText}
use Rattle.pgn_text.specs.Public.Games.{Item}
use Rattle.pgn_game.specs.Public.GameLines.{IsMoveText, AreMoveTexts, uci_text}
use Rattle.pgn_game.specs.Public.Openings.{NamedLine, IsOpeningIn, ends_of}
use Rattle.pgn_game.specs.Public.Replays.{Replay}
use Rattle.pgn_game.specs.Public.Starts.{IsValueOf}
use Rattle.pgn_game.specs.declared.exports.notation.Notation.{Notation}
use Rattle.pgn_game.specs.declared.exports.notation.Notation.TheVariants.{San}
use Rattle.pgn_game.specs.declared.openings.Opening.{Opening}
use Rattle.pgn_criteria.specs.Public.Meeting.{Heading, heading_of}
use Rattle.pgn_extract.specs.Public.Columns.{column_name, is_number_column}
use Rattle.pgn_extract.specs.Public.Csv as csv
use Rattle.pgn_extract.specs.Public.Index.{mark}
use Rattle.pgn_extract.specs.Public.Json.{Member, object_text}
use Rattle.pgn_extract.specs.Public.Annotations.{annotations_at, IsAnnotationCell}
use Rattle.pgn_extract.specs.Public.PositionCells.{IsMenText, IsCheckText, material_text}
use Rattle.pgn_extract.specs.Public.Tsv as tsv
use Rattle.pgn_extract.specs.declared.marks.GameId.{GameId}
use Rattle.pgn_extract.specs.declared.marks.LineId.{LineId}
use Rattle.pgn_extract.specs.declared.rows.column.Column.{Column}
use Rattle.pgn_extract.specs.declared.rows.column.Column.TheVariants.{Tag, OfGame, OfPly}
use Rattle.pgn_extract.specs.declared.rows.column.Column.TheVariants.{OfAnnotations}
use Rattle.pgn_extract.specs.declared.rows.column.Format.{Format}
use Rattle.pgn_extract.specs.declared.rows.column.Format.TheVariants.{Csv, Tsv, Jsonl}
use Rattle.pgn_extract.specs.declared.rows.column.GameColumn.{GameColumn}
use Rattle.pgn_extract.specs.declared.rows.column.GameColumn.TheVariants.{File, Game, Offset, Id}
use Rattle.pgn_extract.specs.declared.rows.column.GameColumn.TheVariants.{Result, OpeningPly}
use Rattle.pgn_extract.specs.declared.rows.column.GameColumn.TheVariants.{Line, From}
use Rattle.pgn_extract.specs.declared.rows.column.LineColumn.{LineColumn}
use Rattle.pgn_extract.specs.declared.rows.column.LineColumn.TheVariants.{Plies, Last, Moves}
use Rattle.pgn_extract.specs.declared.rows.column.PlyColumn.{PlyColumn}
use Rattle.pgn_extract.specs.declared.rows.column.PlyColumn.TheVariants.{Ply, OfPosition, Next}
use Rattle.pgn_extract.specs.declared.rows.column.PlyColumn.TheVariants.{NextUci, OfLine}
use Rattle.pgn_extract.specs.declared.rows.column.PositionColumn.{PositionColumn}
use Rattle.pgn_extract.specs.declared.rows.column.PositionColumn.TheVariants.{Fen, Turn, Number}
use Rattle.pgn_extract.specs.declared.rows.column.PositionColumn.TheVariants.{Men, Check, Material}
use Rattle.pgn_extract.specs.declared.rows.column.Row.{Row}

-- what a row is made of: the name of the file where lines have one, the lines of openings where
-- they are given, the mark of the game, which line of it the row is of, where each line is listed,
-- its heading and its elements, and a ply of its replay
pub record RowPlace : Type 0 where
  pub name : Option (List ℕ)
  pub openings : Option (List NamedLine)
  pub id : GameId
  pub line : Option LineId
  pub heading : Heading
  pub items : List Item
  pub replay : Replay
  pub ply : ℕ

abbrev pub place_of : Option (List ℕ) → Option (List NamedLine) → GameId → Option LineId → GameText
    → Replay → ℕ → RowPlace
place_of name openings id line game replay ply = record {
  name = name;
  openings = openings;
  id = id;
  line = line;
  heading = heading_of game;
  items = game.elements;
  replay = replay;
  ply = ply;
}

-- the value of a tag with these contents, and nothing where the game has none
abbrev pub IsTagCell : Option (List ℕ) → List ℕ → Type 0
IsTagCell contents cell = MatchOption contents (cell ≡ []) (λ text. IsValueOf text cell)

-- the name of the file, and nothing where lines have none
abbrev pub name_cell : Option (List ℕ) → List ℕ
name_cell name = unwrap_or name []

-- that is the opening of a game with these positions by the lines that are given, or it has none;
-- without lines it has none
abbrev pub IsOpeningBy : Option (List NamedLine) → List State → Option Opening → Type 0
IsOpeningBy None positions opening = opening ≡ None
IsOpeningBy (Some lines) positions opening = IsOpeningIn (ends_of lines) positions opening

-- the ply at which the line of an opening ends, and nothing where there is none
abbrev pub opening_cell : Option Opening → List ℕ
opening_cell opening = unwrap_or (option_map (λ own. decimal own.ply) opening) []

abbrev pub IsOpeningCell : Option (List NamedLine) → List State → List ℕ → Type 0
IsOpeningCell openings positions cell =
    (opening : Option Opening) × IsOpeningBy openings positions opening
    × (cell ≡ opening_cell opening)

-- the line of a row: where lines are not listed, the main line
abbrev pub line_or_main : Option LineId → LineId
line_or_main line = unwrap_or line (record { number = 0; from = 0 })

-- the result of a line of a game with this result: a variation has none
abbrev pub result_in : LineId → List ℕ → List ℕ
result_in line result = if nat_lt 0 line.number then codes "*" else result

-- what a column shows of the game
abbrev pub IsGameCell : GameColumn → RowPlace → List ℕ → Type 0
IsGameCell File place cell = cell ≡ name_cell place.name
IsGameCell Game place cell = cell ≡ decimal place.id.number
IsGameCell Offset place cell = cell ≡ decimal place.id.offset
IsGameCell Id place cell = cell ≡ mark place.id
IsGameCell Result place cell = cell ≡ result_in (line_or_main place.line) place.heading.result
IsGameCell Line place cell = cell ≡ decimal (line_or_main place.line).number
IsGameCell From place cell = cell ≡ decimal (line_or_main place.line).from
IsGameCell OpeningPly place cell = IsOpeningCell place.openings place.replay.positions cell

-- the position after so many plies has the fact
abbrev pub IsAt : Replay → ℕ → (State → Type 0) → Type 0
IsAt replay ply So = (position : State) × (slice_get replay.positions ply ≡ Some position)
    × So position

-- the move that is played after so many plies in a notation, and nothing where none is
abbrev pub IsMoveIn : Notation → Replay → ℕ → List ℕ → Type 0
IsMoveIn notation replay ply cell =
    MatchOption (slice_get replay.played ply) (cell ≡ [])
    (λ m. IsAt replay ply (λ position. IsMoveText notation position m cell))

-- the move that led to the ply, and nothing at the start
abbrev pub IsLastCell : Notation → Replay → ℕ → List ℕ → Type 0
IsLastCell notation replay zero cell = cell ≡ []
IsLastCell notation replay (suc before) cell = IsMoveIn notation replay before cell

-- all moves of the main line, as a game on a line has them, without the blank before the first
abbrev pub AreMovesCell : Notation → Replay → List ℕ → Type 0
AreMovesCell notation replay cell =
    IsAt replay 0 (λ start. (text : List ℕ) × AreMoveTexts notation start replay.played text
    × (cell ≡ drop 1 text))

-- what a column shows of a main line that is kept, at a ply
abbrev pub IsLineCell : LineColumn → Replay → ℕ → List ℕ → Type 0
IsLineCell Plies replay ply cell = cell ≡ decimal (length replay.played)
IsLineCell (Last notation) replay ply cell = IsLastCell notation replay ply cell
IsLineCell (Moves notation) replay ply cell = AreMovesCell notation replay cell

-- that move as `--uci` writes it
abbrev pub uci_cell : Option Move → List ℕ
uci_cell move = unwrap_or (option_map uci_text move) []

-- what a column shows of a position
abbrev pub IsPositionCell : PositionColumn → State → List ℕ → Type 0
IsPositionCell Fen position cell = IsFen position cell
IsPositionCell Turn position cell = cell ≡ side_text position.turn
IsPositionCell Number position cell = cell ≡ decimal position.fullmove_number
IsPositionCell Men position cell = IsMenText position cell
IsPositionCell Check position cell = IsCheckText position cell
IsPositionCell Material position cell = cell ≡ material_text position.men

-- what a column shows of the ply
abbrev pub IsPlyCell : PlyColumn → Replay → ℕ → List ℕ → Type 0
IsPlyCell Ply replay ply cell = cell ≡ decimal ply
IsPlyCell (OfPosition own) replay ply cell =
    IsAt replay ply (λ position. IsPositionCell own position cell)
IsPlyCell Next replay ply cell = IsMoveIn San replay ply cell
IsPlyCell NextUci replay ply cell = cell ≡ uci_cell (slice_get replay.played ply)
IsPlyCell (OfLine own) replay ply cell = IsLineCell own replay ply cell

-- the cell of a column
abbrev pub IsCell : Column → RowPlace → List ℕ → Type 0
IsCell (Tag name) place cell = IsTagCell (place.heading.named name.items) cell
IsCell (OfGame own) place cell = IsGameCell own place cell
IsCell (OfPly own) place cell = IsPlyCell own place.replay place.ply cell
IsCell (OfAnnotations own) place cell =
    IsAnnotationCell own (annotations_at place.items place.ply) cell

-- the cells of columns, in their order
abbrev pub AreCells : List Column → RowPlace → List (List ℕ) → Type 0
AreCells [] place cells = cells ≡ []
AreCells (column ∷ columns) place cells =
    (cell : List ℕ) × (more : List (List ℕ)) × (cells ≡ cell ∷ more) × IsCell column place cell
    × AreCells columns place more

-- the members of an object, one a column
abbrev pub members : List Column → List (List ℕ) → List Member
members [] cells = []
members (column ∷ columns) [] = []
members (column ∷ columns) (cell ∷ cells) = record {
  name = column_name column;
  is_number = is_number_column column;
  value = cell;
} ∷ members columns cells

-- the text of cells of these columns in a format
abbrev pub row_text : Format → List Column → List (List ℕ) → List ℕ
row_text Csv columns cells = csv.row_text cells
row_text Tsv columns cells = tsv.row_text cells
row_text Jsonl columns cells = object_text (members columns cells)

-- the row of a ply
abbrev pub IsRow : Row → RowPlace → List ℕ → Type 0
IsRow row place text =
    (cells : List (List ℕ)) × AreCells row.columns.items place cells
    × (text ≡ row_text row.format row.columns.items cells)

-- the names of columns, as a row above all others; objects have them in each line
abbrev pub header_in : Format → List Column → List ℕ
header_in Csv columns = csv.row_text (map column_name columns)
header_in Tsv columns = tsv.row_text (map column_name columns)
header_in Jsonl columns = []

abbrev pub header_text : Row → List ℕ
header_text row = header_in row.format row.columns.items
