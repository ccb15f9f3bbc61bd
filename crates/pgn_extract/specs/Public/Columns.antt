-- The columns of a row by their names, and the list of names that is given.
use Rattle.std.specs.Prelude.{◌≡◌, ◌≢◌, ◌<◌, ◌≤◌, ℕ, Bool, true, false, List, [], ◌∷◌, ◌++◌}
use Rattle.std.specs.Prelude.{length, codes, IsTrue}
use Rattle.std.specs.List.{Contains, list_all}
use Rattle.chess.specs.Public.Fen.{parted_at}
use Rattle.pgn_game.specs.declared.exports.notation.Notation.TheVariants.{San, Uci}
use Rattle.pgn_text.specs.Public.Bytes.{is_name_byte}
use Rattle.pgn_extract.specs.declared.rows.column.GameColumn.{GameColumn}
use Rattle.pgn_extract.specs.declared.rows.column.GameColumn.TheVariants.{File, Game, Offset, Id}
use Rattle.pgn_extract.specs.declared.rows.column.GameColumn.TheVariants.{Result, OpeningPly}
use Rattle.pgn_extract.specs.declared.rows.column.GameColumn.TheVariants.{Line, From}
use Rattle.pgn_extract.specs.declared.rows.column.LineColumn.{LineColumn}
use Rattle.pgn_extract.specs.declared.rows.column.LineColumn.TheVariants.{Plies, Last, Moves}
use Rattle.pgn_extract.specs.declared.rows.column.AnnotationColumn.{AnnotationColumn}
use Rattle.pgn_extract.specs.declared.rows.column.AnnotationColumn.TheVariants.{Nags, Comment}
use Rattle.pgn_extract.specs.declared.rows.column.AnnotationColumn.TheVariants.{Clock, Eval}
use Rattle.pgn_extract.specs.declared.rows.column.PlyColumn.{PlyColumn}
use Rattle.pgn_extract.specs.declared.rows.column.PlyColumn.TheVariants.{Ply, OfPosition, Next}
use Rattle.pgn_extract.specs.declared.rows.column.PlyColumn.TheVariants.{NextUci, OfLine}
use Rattle.pgn_extract.specs.declared.rows.column.PositionColumn.{PositionColumn}
use Rattle.pgn_extract.specs.declared.rows.column.PositionColumn.TheVariants.{Fen, Turn, Number}
use Rattle.pgn_extract.specs.declared.rows.column.PositionColumn.TheVariants.{Men, Check, Material}
use Rattle.pgn_extract.specs.declared.rows.column.Column.{Column}
use Rattle.pgn_extract.specs.declared.rows.column.Column.TheVariants as column
use Rattle.pgn_extract.specs.declared.rows.list.ColumnsError.{ColumnsError}
use Rattle.pgn_extract.specs.declared.rows.list.ColumnsError.TheVariants as err

-- the names of the columns that are no tags
abbrev pub game_column_name : GameColumn → List ℕ
game_column_name File = codes "@file"
game_column_name Game = codes "@game"
game_column_name Offset = codes "@offset"
game_column_name Id = codes "@id"
game_column_name Result = codes "@result"
game_column_name OpeningPly = codes "@opening-ply"
game_column_name Line = codes "@line"
game_column_name From = codes "@from"

abbrev pub position_column_name : PositionColumn → List ℕ
position_column_name Fen = codes "@fen"
position_column_name Turn = codes "@turn"
position_column_name Number = codes "@number"
position_column_name Men = codes "@placement"
position_column_name Check = codes "@check"
position_column_name Material = codes "@material"

abbrev pub line_column_name : LineColumn → List ℕ
line_column_name Plies = codes "@plies"
line_column_name (Last San) = codes "@last"
line_column_name (Last Uci) = codes "@last-uci"
line_column_name (Moves San) = codes "@moves"
line_column_name (Moves Uci) = codes "@uci"

abbrev pub ply_column_name : PlyColumn → List ℕ
ply_column_name Ply = codes "@ply"
ply_column_name (OfPosition own) = position_column_name own
ply_column_name Next = codes "@next"
ply_column_name NextUci = codes "@next-uci"
ply_column_name (OfLine own) = line_column_name own

abbrev pub annotation_column_name : AnnotationColumn → List ℕ
annotation_column_name Nags = codes "@nags"
annotation_column_name Comment = codes "@comment"
annotation_column_name Clock = codes "@clk"
annotation_column_name Eval = codes "@eval"

-- the name of a column, as the header and the names of members show it
abbrev pub column_name : Column → List ℕ
column_name (column.Tag name) = name.items
column_name (column.OfGame own) = game_column_name own
column_name (column.OfPly own) = ply_column_name own
column_name (column.OfAnnotations own) = annotation_column_name own

-- the values of the column are numbers
abbrev pub is_number_of_game : GameColumn → Bool
is_number_of_game Game = true
is_number_of_game Offset = true
is_number_of_game Line = true
is_number_of_game From = true
is_number_of_game _ = false

abbrev pub is_number_of_position : PositionColumn → Bool
is_number_of_position Number = true
is_number_of_position _ = false

abbrev pub is_number_of_line : LineColumn → Bool
is_number_of_line Plies = true
is_number_of_line _ = false

abbrev pub is_number_of_ply : PlyColumn → Bool
is_number_of_ply Ply = true
is_number_of_ply (OfPosition own) = is_number_of_position own
is_number_of_ply (OfLine own) = is_number_of_line own
is_number_of_ply _ = false

abbrev pub is_number_column : Column → Bool
is_number_column (column.OfGame own) = is_number_of_game own
is_number_column (column.OfPly own) = is_number_of_ply own
is_number_column _ = false

-- the column shows annotations, which no pack has
abbrev pub shows_annotations : Column → Bool
shows_annotations (column.Tag name) = false
shows_annotations (column.OfGame own) = false
shows_annotations (column.OfPly own) = false
shows_annotations (column.OfAnnotations own) = true

-- the column shows something of openings, which are those of lines that are given
abbrev pub is_of_opening : GameColumn → Bool
is_of_opening OpeningPly = true
is_of_opening _ = false

abbrev pub shows_opening : Column → Bool
shows_opening (column.Tag name) = false
shows_opening (column.OfGame own) = is_of_opening own
shows_opening (column.OfPly own) = false
shows_opening (column.OfAnnotations own) = false

-- the name of a tag: bytes of names, at least one
abbrev pub IsTagName : List ℕ → Type 0
IsTagName name = (name ≢ []) × IsTrue (list_all is_name_byte name)

-- the column has this name; that of a tag is the name of a tag
abbrev pub IsColumnOf : List ℕ → Column → Type 0
IsColumnOf name (column.Tag own) = (own.items ≡ name) × IsTagName name
IsColumnOf name (column.OfGame own) = name ≡ game_column_name own
IsColumnOf name (column.OfPly own) = name ≡ ply_column_name own
IsColumnOf name (column.OfAnnotations own) = name ≡ annotation_column_name own

-- no column has this name but maybe that of a tag
abbrev pub IsNoOwnName : List ℕ → Type 0
IsNoOwnName name = ((own : GameColumn) → name ≡ game_column_name own → ⊥)
    × ((own : PlyColumn) → name ≡ ply_column_name own → ⊥)
    × ((own : AnnotationColumn) → name ≡ annotation_column_name own → ⊥)

-- it begins with the sign of a column of ours
abbrev pub HasOwnSign : List ℕ → Type 0
HasOwnSign name = (rest : List ℕ) × (name ≡ 64 ∷ rest)

-- no column is called so, for this reason
abbrev pub IsColumnFault : List ℕ → ColumnsError → Type 0
IsColumnFault name err.Empty = name ≡ []
IsColumnFault name (err.Unknown word) = (word.now ≡ name) × HasOwnSign name × IsNoOwnName name
IsColumnFault name (err.NoName word) =
    (word.now ≡ name) × (name ≢ []) × (HasOwnSign name → ⊥) × (IsTagName name → ⊥)
IsColumnFault name (err.Twice word) = ⊥
IsColumnFault name err.TooMany = ⊥
IsColumnFault name err.OutOfMemory = Unit {0}

-- no name stands twice
abbrev pub AreDistinct : List (List ℕ) → Type 0
AreDistinct [] = Unit {0}
AreDistinct (name ∷ more) = (Contains more name → ⊥) × AreDistinct more

-- each column has its name
abbrev pub HaveNames : List (List ℕ) → List Column → Type 0
HaveNames [] columns = columns ≡ []
HaveNames (name ∷ names) columns =
    (column : Column) × (more : List Column) × (columns ≡ column ∷ more) × IsColumnOf name column
    × HaveNames names more

-- the text lists these columns: each name between its commas, none twice, at most 64
pub record AreColumns (text : List ℕ) (columns : List Column) : Type 0 where
  pub named : HaveNames (parted_at 44 text) columns
  pub distinct : AreDistinct (parted_at 44 text)
  pub few : length columns ≤ 64

-- so many names are distinct columns, and another one follows
pub record RefusesAt (text : List ℕ) (before : List (List ℕ)) (columns : List Column)
    (name : List ℕ) (more : List (List ℕ)) : Type 0 where
  pub parts : parted_at 44 text ≡ before ++ name ∷ more
  pub named : HaveNames before columns
  pub distinct : AreDistinct before

-- this is wrong with a name after those before it, of which there are fewer than 64 but where they
-- are too many
abbrev pub IsWrongAfter : List (List ℕ) → List ℕ → ColumnsError → Type 0
IsWrongAfter before name (err.Twice word) =
    (length before < 64) × (word.now ≡ name) × Contains before name
IsWrongAfter before name err.TooMany = length before ≡ 64
IsWrongAfter before name err.Empty = (length before < 64) × IsColumnFault name err.Empty
IsWrongAfter before name (err.Unknown word) =
    (length before < 64) × IsColumnFault name (err.Unknown word)
IsWrongAfter before name (err.NoName word) =
    (length before < 64) × IsColumnFault name (err.NoName word)
IsWrongAfter before name err.OutOfMemory = Unit {0}

-- the text is refused, for the first of its names with which something is wrong
abbrev pub IsRefusedList : List ℕ → ColumnsError → Type 0
IsRefusedList text fault =
    (before : List (List ℕ)) × (columns : List Column) × (name : List ℕ) × (more : List (List ℕ))
    × RefusesAt text before columns name more × IsWrongAfter before name fault
