-- What holds of every row that is written as an object of JSON: it is read as it was written, and
-- in no other way.
use Rattle.std.specs.Prelude.{◌≡◌, ℕ, ◌^◌, ◌<◌, Bool, List, ◌∷◌, ◌++◌, All, Some, length, map}
use Rattle.std.specs.Prelude.{IsTrue, flat_map, if◌then◌else◌}
use Rattle.std.specs.List.{list_all, slice_get}
use Rattle.std.specs.Str.{is_utf8}
use Rattle.chess.specs.Public.Fen.{parted_at}
use Rattle.chess.specs.Public.Positions.{State}
use Rattle.pgn_text.specs.Public.Bytes.{is_byte}
use Rattle.pgn_extract.specs.Public.Columns.{AreColumns, column_name}
use Rattle.pgn_extract.specs.Public.Json.{Member, text_of}
use Rattle.pgn_extract.specs.Public.Objects.{ReadsObject, ReadsObjects}
use Rattle.pgn_extract.specs.Public.Rows.{RowPlace, AreCells, line_or_main, members, row_text}
use Rattle.pgn_extract.specs.declared.rows.column.Column.{Column}
use Rattle.pgn_extract.specs.declared.rows.column.Format.TheVariants.{Jsonl}

-- a text begins with one object at most
abbrev pub ObjectHasOneReading : Type 0
ObjectHasOneReading =
    (text : List ℕ) (own others : List Member) (rest more : List ℕ)
    → ReadsObject text own rest → ReadsObject text others more → (own ≡ others) × (rest ≡ more)

-- what is read of a value: the digits of a number, or its text
abbrev pub read_value : Bool → List ℕ → List ℕ
read_value is_number value = if is_number then value else text_of value

-- what is read of a member
abbrev pub as_read : Member → Member
as_read member = record {
  name = text_of member.name;
  is_number = member.is_number;
  value = read_value member.is_number member.value;
}

-- what is read of a row: the name of each column with its value, in their order
abbrev pub read_members : List Column → List (List ℕ) → List Member
read_members columns cells = map as_read (members columns cells)

-- the numbers of the place are below 2 ^ 64, as those of the program are
pub record HasNumbers (place : RowPlace) : Type 0 where
  pub number : place.id.number < 2 ^ 64
  pub offset : place.id.offset < 2 ^ 64
  pub line : (line_or_main place.line).number < 2 ^ 64
  pub from : (line_or_main place.line).from < 2 ^ 64
  pub ply : place.ply < 2 ^ 64
  pub plies : length place.replay.played < 2 ^ 64
  pub moves : (position : State) → slice_get place.replay.positions place.ply ≡ Some position
      → position.fullmove_number < 2 ^ 64

-- the cells are those of a row
abbrev pub AreRowCells : List Column → List (List ℕ) → Type 0
AreRowCells columns cells = (place : RowPlace) × HasNumbers place × AreCells columns place cells

-- an object is read as its row, whatever stands after the line
abbrev pub ObjectIsReadBack : Type 0
ObjectIsReadBack =
    (columns : List Column) (cells : List (List ℕ)) (rest : List ℕ) → AreRowCells columns cells
    → ReadsObject (row_text Jsonl columns cells ++ rest) (read_members columns cells) (10 ∷ rest)

-- and in no other way
abbrev pub ObjectIsReadOnce : Type 0
ObjectIsReadOnce =
    (columns : List Column) (cells : List (List ℕ)) (others : List Member) (rest more : List ℕ)
    → AreRowCells columns cells → ReadsObject (row_text Jsonl columns cells ++ rest) others more
    → (others ≡ read_members columns cells) × (more ≡ 10 ∷ rest)

-- texts of bytes
abbrev pub AreBytes : List (List ℕ) → Type 0
AreBytes texts = IsTrue (list_all (list_all is_byte) texts)

-- the line of names and values that are bytes is UTF-8 (section 8.1)
abbrev pub ObjectIsUtf8 : Type 0
ObjectIsUtf8 =
    (columns : List Column) (cells : List (List ℕ)) → AreRowCells columns cells
    → AreBytes (map column_name columns) → AreBytes cells
    → IsTrue (is_utf8 (row_text Jsonl columns cells))

-- the names of the members are those that the list of columns asks for, of which none stands twice
abbrev pub NamesAreAsAsked : Type 0
NamesAreAsAsked =
    (text : List ℕ) (columns : List Column) (cells : List (List ℕ)) → AreColumns text columns
    → AreRowCells columns cells
    → map (λ (member : Member). member.name) (read_members columns cells) ≡ parted_at 44 text

-- rows one below another are read, line by line, as those rows and as no others: no value makes a
-- member, a number or a line of its own
abbrev pub LinesAreReadBack : Type 0
LinesAreReadBack =
    (columns : List Column) (rows : List (List (List ℕ))) → All (AreRowCells columns) rows
    → ReadsObjects (map (read_members columns) rows) (flat_map (row_text Jsonl columns) rows)

abbrev pub LinesAreReadOnce : Type 0
LinesAreReadOnce =
    (columns : List Column) (rows : List (List (List ℕ))) (others : List (List Member))
    → All (AreRowCells columns) rows
    → ReadsObjects others (flat_map (row_text Jsonl columns) rows)
    → others ≡ map (read_members columns) rows
