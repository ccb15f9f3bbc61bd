-- The text of a row, part by part: what is made once a game, and what its plies show.
use Rattle.std.specs.Prelude.{◌≡◌, ◌≢◌, ◌≤◌, ◌<◌, ℕ, Bool, true, false, not, List, [], ◌∷◌, ◌++◌}
use Rattle.std.specs.Prelude.{map, get_or}
use Rattle.std.specs.Prelude.{Option, if◌then◌else◌}
use Rattle.std.specs.List.{list_any}
use Rattle.pgn_text.specs.Public.GameTexts.{GameText}
use Rattle.pgn_text.specs.Public.Games.{Item}
use Rattle.pgn_game.specs.Public.Openings.{NamedLine}
use Rattle.pgn_game.specs.Public.Replays.{Replay}
use Rattle.pgn_extract.specs.Public.Columns.{column_name, is_number_column, is_number_of_ply}
use Rattle.pgn_extract.specs.Public.Csv as csv
use Rattle.pgn_extract.specs.Public.Json as json
use Rattle.pgn_extract.specs.Public.Rows.{IsPlyCell, IsCell, AreCells, place_of}
use Rattle.pgn_extract.specs.Public.Tsv as tsv
use Rattle.pgn_extract.specs.Private.AnnotationLists.{annotation_value, lists_in}
use Rattle.pgn_extract.specs.Private.Finding.{IsOfGame}
use Rattle.pgn_extract.specs.declared.marks.GameId.{GameId}
use Rattle.pgn_extract.specs.declared.marks.LineId.{LineId}
use Rattle.pgn_extract.specs.declared.entries.row_maker.PartColumn.{PartColumn}
use Rattle.pgn_extract.specs.declared.entries.row_maker.PartColumn.TheVariants as kind
use Rattle.pgn_extract.specs.declared.entries.row_maker.RowMaker.{RowMaker}
use Rattle.pgn_extract.specs.declared.entries.row_maker.RowPart.{RowPart}
use Rattle.pgn_extract.specs.declared.rows.column.Column.{Column}
use Rattle.pgn_extract.specs.declared.rows.column.Column.TheVariants.{OfPly, OfAnnotations}
use Rattle.pgn_extract.specs.declared.rows.column.Format.{Format}
use Rattle.pgn_extract.specs.declared.rows.column.Format.TheVariants.{Csv, Tsv, Jsonl}
use Rattle.pgn_extract.specs.declared.rows.column.PlyColumn.{PlyColumn}
use Rattle.pgn_extract.specs.declared.rows.column.PlyColumn.TheVariants.{Ply, OfPosition, Next}
use Rattle.pgn_extract.specs.declared.rows.column.PlyColumn.TheVariants.{NextUci, OfLine}

-- the text of a value
abbrev pub value_text : Format → Bool → List ℕ → List ℕ
value_text Csv is_number value = csv.cell_text value
value_text Tsv is_number value = tsv.cell_text value
value_text Jsonl is_number value = json.value_text is_number value

-- what stands before it: in an object the name of its column
abbrev pub key_text : Format → Column → List ℕ
key_text Csv column = []
key_text Tsv column = []
key_text Jsonl column = json.string_text (json.text_of (column_name column)) ++ 58 ∷ []

-- what stands between two cells, before the first and after the last
abbrev pub gap : Format → List ℕ
gap Csv = 44 ∷ []
gap Tsv = 9 ∷ []
gap Jsonl = 44 ∷ []

abbrev pub front : Format → List ℕ
front Csv = []
front Tsv = []
front Jsonl = 123 ∷ []

abbrev pub back : Format → List ℕ
back Csv = []
back Tsv = []
back Jsonl = 125 ∷ []

-- an empty line of comma-separated values is written as two quotes
abbrev pub quotes_if_empty : List ℕ → List ℕ
quotes_if_empty [] = 34 ∷ 34 ∷ []
quotes_if_empty (b ∷ x) = b ∷ x

abbrev pub or_quotes : Format → List ℕ → List ℕ
or_quotes Csv line = quotes_if_empty line
or_quotes Tsv line = line
or_quotes Jsonl line = line

-- a cell with what stands before its value
abbrev pub keyed_text : Format → Column → List ℕ → List ℕ
keyed_text format column cell =
    key_text format column ++ value_text format (is_number_column column) cell

-- the cells after the first one, and all
abbrev pub later_text : Format → List Column → List (List ℕ) → List ℕ
later_text format [] cells = []
later_text format (column ∷ columns) [] = []
later_text format (column ∷ columns) (cell ∷ cells) =
    gap format ++ (keyed_text format column cell ++ later_text format columns cells)

abbrev pub cells_text : Format → List Column → List (List ℕ) → List ℕ
cells_text format [] cells = []
cells_text format (column ∷ columns) [] = []
cells_text format (column ∷ columns) (cell ∷ cells) =
    keyed_text format column cell ++ later_text format columns cells

-- a value of ASCII that stands for itself in each format, but for quotes around it
abbrev pub IsPlainByte : ℕ → Type 0
IsPlainByte b = (32 ≤ b) × (b < 128) × (b ≢ 34) × (b ≢ 44) × (b ≢ 92)

abbrev pub IsPlainValue : List ℕ → Type 0
IsPlainValue [] = Unit {0}
IsPlainValue (b ∷ x) = IsPlainByte b × IsPlainValue x

-- values stand in quotes where they are no numbers, in an object
abbrev pub is_quoted : Format → Bool → Bool
is_quoted Csv is_number = false
is_quoted Tsv is_number = false
is_quoted Jsonl is_number = not is_number

-- what stands before a cell after those of these columns
abbrev pub gap_after : Format → List Column → List ℕ
gap_after format [] = []
gap_after format (column ∷ columns) = gap format

-- the names after the first one, and all
abbrev pub later_names : Format → List Column → List ℕ
later_names format [] = []
later_names format (column ∷ columns) =
    gap format ++ (value_text format false (column_name column) ++ later_names format columns)

abbrev pub names_text : Format → List Column → List ℕ
names_text format [] = []
names_text format (column ∷ columns) =
    value_text format false (column_name column) ++ later_names format columns

-- the column of a part, among all columns
abbrev pub column_of : PartColumn → Column
column_of (kind.OfPly own) = OfPly own
column_of (kind.OfAnnotations own) = OfAnnotations own

-- what is written of a ply for a column: a plain value, or the text of one that may have any byte,
-- where plies have these annotations
abbrev pub IsPartText : Format → List (List Item) → PartColumn → Replay → ℕ → List ℕ → Type 0
IsPartText format lists (kind.OfPly own) replay ply text =
    IsPlyCell own replay ply text × IsPlainValue text
IsPartText format lists (kind.OfAnnotations own) replay ply text =
    text ≡ value_text format false (annotation_value own (get_or lists ply []))

-- what is written for several columns
abbrev pub ArePartTexts : Format → List (List Item) → List PartColumn → Replay → ℕ
    → List (List ℕ) → Type 0
ArePartTexts format lists [] replay ply values = values ≡ []
ArePartTexts format lists (column ∷ columns) replay ply values =
    (value : List ℕ) × (more : List (List ℕ)) × (values ≡ value ∷ more)
    × IsPartText format lists column replay ply value
    × ArePartTexts format lists columns replay ply more

-- the whole main line is kept for the column, and for one of the parts
abbrev pub needs_line : PlyColumn → Bool
needs_line Ply = false
needs_line (OfPosition own) = false
needs_line Next = false
needs_line NextUci = false
needs_line (OfLine own) = true

abbrev pub part_needs_line : PartColumn → Bool
part_needs_line (kind.OfPly own) = needs_line own
part_needs_line (kind.OfAnnotations own) = false

abbrev pub need_line : List RowPart → Bool
need_line parts = list_any (λ part. part_needs_line part.column) parts

-- it is shown where columns with the fact are, and each of the parts is
abbrev pub IsShownWith : (PlyColumn → Type 0) → PartColumn → Type 0
IsShownWith So (kind.OfPly own) = So own
IsShownWith So (kind.OfAnnotations own) = Unit {0}

abbrev pub EachColumn : (PlyColumn → Type 0) → List RowPart → Type 0
EachColumn So [] = Unit {0}
EachColumn So (part ∷ parts) = IsShownWith So part.column × EachColumn So parts

-- the columns of parts
abbrev pub columns_of : List RowPart → List PartColumn
columns_of parts = map (λ part. part.column) parts

-- parts with the values of a ply, and what stands after them
abbrev pub filled : List RowPart → List (List ℕ) → List ℕ → List ℕ
filled [] values last = last
filled (part ∷ parts) [] last = last
filled (part ∷ parts) (value ∷ values) last =
    part.before.items ++ (value ++ filled parts values last)

-- whatever the plies of the game show, the parts and what stands after them make the cells of these
-- columns
abbrev pub MakesCells : Format → List (List Item) → List Column → List RowPart → List ℕ
    → Option (List ℕ) → Option (List NamedLine) → GameId → Option LineId → GameText → Type 0
MakesCells format lists columns parts last name openings id line game =
    (replay : Replay) → IsOfGame game replay → (ply : ℕ) (values : List (List ℕ))
    → ArePartTexts format lists (columns_of parts) replay ply values
    → (cells : List (List ℕ))
    × AreCells columns (place_of name openings id line game replay ply) cells
    × (filled parts values last ≡ front format ++ cells_text format columns cells)

-- the same of all that stands before the end of a row
abbrev pub MakesRow : Format → List (List Item) → List Column → List RowPart → List ℕ
    → Option (List ℕ) → Option (List NamedLine) → GameId → Option LineId → GameText → Type 0
MakesRow format lists columns parts last name openings id line game =
    (replay : Replay) → IsOfGame game replay → (ply : ℕ) (values : List (List ℕ))
    → ArePartTexts format lists (columns_of parts) replay ply values
    → (cells : List (List ℕ))
    × AreCells columns (place_of name openings id line game replay ply) cells
    × (filled parts values last
    ≡ front format ++ (cells_text format columns cells ++ back format))

-- rows of this game are made, under this name and by these lines of openings
abbrev pub MakesRows : RowMaker → Option (List ℕ) → Option (List NamedLine) → GameId → GameText
    → Type 0
MakesRows maker name openings id game =
    MakesRow maker.row.now.format (lists_in maker.annotations) maker.row.now.columns.items
    maker.parts.items maker.last.items name openings id maker.line game

-- the quotes around the value of a column of the ply
abbrev pub quote_text : Format → Bool → List ℕ
quote_text format is_number = if is_quoted format is_number then 34 ∷ [] else []

abbrev pub part_quote : Format → PartColumn → List ℕ
part_quote format (kind.OfPly own) = quote_text format (is_number_of_ply own)
part_quote format (kind.OfAnnotations own) = []

-- a part ends with a column of the ply: its value stands between quotes where it is quoted
pub record EndsPart (old new : RowMaker) (column : PartColumn) : Type 0 where
  pub row : new.row.now ≡ old.row.now
  pub line : new.line ≡ old.line
  pub annotations : new.annotations ≡ old.annotations
  pub part : RowPart
  pub of_column : part.column ≡ column
  pub before : part.before.items ≡ old.last.items ++ part_quote old.row.now.format column
  pub parts : new.parts.items ≡ old.parts.items ++ part ∷ []
  pub after : new.last.items ≡ part_quote old.row.now.format column

-- the cell of a column follows, whatever the ply of the game shows
abbrev pub AddsCell : RowMaker → RowMaker → Option (List ℕ) → Option (List NamedLine) → GameId
    → Option LineId → GameText → Column → Type 0
AddsCell old new name openings id line game column =
    (replay : Replay) → IsOfGame game replay → (ply : ℕ) (values : List (List ℕ))
    → ArePartTexts old.row.now.format (lists_in old.annotations) (columns_of new.parts.items) replay
    ply values
    → (before : List (List ℕ)) × (cell : List ℕ)
    × ArePartTexts old.row.now.format (lists_in old.annotations) (columns_of old.parts.items) replay
    ply before
    × IsCell column (place_of name openings id line game replay ply) cell
    × (filled new.parts.items values new.last.items
    ≡ filled old.parts.items before old.last.items
    ++ keyed_text old.row.now.format column cell)
