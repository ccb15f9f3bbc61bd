-- The columns that are numbers show digits, so each row is read as an object.
use Rattle.std.proofs.Common.{◌≡◌, ◌<◌, ◌≤◌, ◌^◌, ℕ, zero, suc, Bool, true, false, List, [], ◌∷◌}
use Rattle.std.proofs.Common.{◌++◌, ◌∙◌, refl, ap, subst, get_or, decimal, arith}
use Rattle.std.specs.Prelude.{All, flat_map, map, not, ◌==◌, ◌||◌, ◌&&◌}
use Rattle.std.specs.List.{list_all}
use Rattle.std.proofs.lemmas.Bool.{and_parts}
use Rattle.std.proofs.lemmas.Bool.Decides.{nat_tests}
use Rattle.std.proofs.lemmas.List.Elements.{All-head, All-tail}
use Rattle.std.proofs.lemmas.Fmt.{decimal_digit, first_decimal}
use Rattle.pgn_text.specs.Public.Bytes.{is_byte, is_digit, is_empty}
use Rattle.pgn_game.proofs.PlainTokens.{AreDigits, decimal_digits}
use Rattle.pgn_extract.specs.Public.Columns.{column_name, is_number_column}
use Rattle.pgn_extract.specs.Public.Json.{object_text}
use Rattle.pgn_extract.specs.Public.Objects.{ReadsObjects, is_int}
use Rattle.pgn_extract.specs.Public.ObjectLaws.{as_read, read_members, HasNumbers, AreRowCells}
use Rattle.pgn_extract.specs.Public.ObjectLaws.{ObjectIsReadBack, ObjectIsReadOnce, ObjectIsUtf8}
use Rattle.pgn_extract.specs.Public.ObjectLaws.{LinesAreReadBack, LinesAreReadOnce}
use Rattle.pgn_extract.specs.Public.Rows.{RowPlace, IsCell, AreCells, members, row_text}
use Rattle.pgn_extract.specs.declared.rows.column.Column.{Column}
use Rattle.pgn_extract.specs.declared.rows.column.Column.TheVariants.{Tag, OfGame, OfPly}
use Rattle.pgn_extract.specs.declared.rows.column.Column.TheVariants.{OfAnnotations}
use Rattle.pgn_extract.specs.declared.rows.column.Format.TheVariants.{Jsonl}
use Rattle.pgn_extract.specs.declared.rows.column.GameColumn.TheVariants.{File, Game, Offset, Id}
use Rattle.pgn_extract.specs.declared.rows.column.GameColumn.TheVariants.{Result, OpeningPly}
use Rattle.pgn_extract.specs.declared.rows.column.GameColumn.TheVariants.{Line, From}
use Rattle.pgn_extract.specs.declared.rows.column.LineColumn.TheVariants.{Plies, Last, Moves}
use Rattle.pgn_extract.specs.declared.rows.column.PlyColumn.TheVariants.{Ply, OfPosition, Next}
use Rattle.pgn_extract.specs.declared.rows.column.PlyColumn.TheVariants.{NextUci, OfLine}
use Rattle.pgn_extract.specs.declared.rows.column.PositionColumn.TheVariants.{Fen, Turn, Number}
use Rattle.pgn_extract.specs.declared.rows.column.PositionColumn.TheVariants.{Men, Check, Material}
use Rattle.pgn_extract.proofs.laws.ObjectLines.{is_sound_value, is_sound, object_is_read}
use Rattle.pgn_extract.proofs.laws.ObjectLines.{lines_are_read, one_list}
use Rattle.pgn_extract.proofs.laws.ObjectUtf8.{has_bytes, object_passes}
use Rattle.pgn_extract.proofs.laws.OneObject.{one_reading}

-- The text of a number.

digit_is : (d : ℕ) → 48 ≤ d → d ≤ 57 → is_digit d ≡ true
digit_is d low high = grind (arith, nat_tests)

digits_are : (digits : List ℕ) → AreDigits digits → list_all is_digit digits ≡ true
digits_are [] each = refl
digits_are (d ∷ more) each = rw (digit_is d each.0.0 each.0.1) (digits_are more each.1)

int_is : (digits : List ℕ) → AreDigits digits → 48 < get_or digits 0 0 → is_int digits ≡ true
int_is [] each first = absurd (omega (arith, first))
int_is (d ∷ more) each first =
    let no_zero : (d == 48) ≡ false = grind (arith, nat_tests) in
    rw (digits_are (d ∷ more) each, no_zero) (by (is_empty more))
  where
    by : (alone : Bool) → (true && (alone || not false)) ≡ true
    by true = refl
    by false = refl

decimal_is_int : (n : ℕ) → n < 2 ^ 64 → is_int (decimal n) ≡ true
decimal_is_int zero small = rw (decimal_digit 0 (omega arith)) refl
decimal_is_int (suc n) small = int_is (decimal (suc n)) (decimal_digits (suc n))
    (first_decimal (suc n) (omega arith) small)

is_int_of : (n : ℕ) (cell : List ℕ) → n < 2 ^ 64 → cell ≡ decimal n → is_int cell ≡ true
is_int_of n cell small is = ap is_int is ∙ decimal_is_int n small

-- The cells of a row.

cell_is_sound : (column : Column) (place : RowPlace) (cell : List ℕ) → HasNumbers place
    → IsCell column place cell → is_sound_value (is_number_column column) cell ≡ true
cell_is_sound (Tag name) place cell has is = refl
cell_is_sound (OfGame File) place cell has is = refl
cell_is_sound (OfGame Game) place cell has is = is_int_of place.id.number cell has.number is
cell_is_sound (OfGame Offset) place cell has is = is_int_of place.id.offset cell has.offset is
cell_is_sound (OfGame Id) place cell has is = refl
cell_is_sound (OfGame Result) place cell has is = refl
cell_is_sound (OfGame OpeningPly) place cell has is = refl
cell_is_sound (OfGame Line) place cell has is = is_int_of _ cell has.line is
cell_is_sound (OfGame From) place cell has is = is_int_of _ cell has.from is
cell_is_sound (OfPly Ply) place cell has is = is_int_of place.ply cell has.ply is
cell_is_sound (OfPly (OfPosition Fen)) place cell has is = refl
cell_is_sound (OfPly (OfPosition Turn)) place cell has is = refl
cell_is_sound (OfPly (OfPosition Number)) place cell has (position, at, is) =
    is_int_of position.fullmove_number cell (has.moves position at) is
cell_is_sound (OfPly (OfPosition Men)) place cell has is = refl
cell_is_sound (OfPly (OfPosition Check)) place cell has is = refl
cell_is_sound (OfPly (OfPosition Material)) place cell has is = refl
cell_is_sound (OfPly Next) place cell has is = refl
cell_is_sound (OfPly NextUci) place cell has is = refl
cell_is_sound (OfPly (OfLine Plies)) place cell has is = is_int_of _ cell has.plies is
cell_is_sound (OfPly (OfLine (Last notation))) place cell has is = refl
cell_is_sound (OfPly (OfLine (Moves notation))) place cell has is = refl
cell_is_sound (OfAnnotations own) place cell has is = refl

cells_are_sound : (columns : List Column) (place : RowPlace) (cells : List (List ℕ))
    → HasNumbers place → AreCells columns place cells
    → list_all is_sound (members columns cells) ≡ true
cells_are_sound [] place cells has are = refl
cells_are_sound (column ∷ columns) place cells has (cell, more, same, is, are) =
    rw same (rw (cell_is_sound column place cell has is)
    (cells_are_sound columns place more has are))

row_is_sound : (columns : List Column) (cells : List (List ℕ)) → AreRowCells columns cells
    → list_all is_sound (members columns cells) ≡ true
row_is_sound columns cells (place, has, are) = cells_are_sound columns place cells has are

-- Rows.

pub row_is_read : ObjectIsReadBack
row_is_read columns cells rest are = object_is_read (members columns cells) rest
    (row_is_sound columns cells are)

pub one_row : ObjectIsReadOnce
one_row columns cells others rest more are reads =
    one_reading _ others (read_members columns cells) more (10 ∷ rest) reads
    (row_is_read columns cells rest are)

members_have_bytes : (columns : List Column) (cells : List (List ℕ))
    → list_all (list_all is_byte) (map column_name columns) ≡ true
    → list_all (list_all is_byte) cells ≡ true
    → list_all has_bytes (members columns cells) ≡ true
members_have_bytes [] cells names values = refl
members_have_bytes (column ∷ columns) [] names values = refl
members_have_bytes (column ∷ columns) (cell ∷ cells) names values =
    let name : (list_all is_byte (column_name column) ≡ true)
    × (list_all (list_all is_byte) (map column_name columns) ≡ true) = and_parts _ _ names in
    let value : (list_all is_byte cell ≡ true) × (list_all (list_all is_byte) cells ≡ true) =
    and_parts _ _ values in
    rw (name.0, value.0) (members_have_bytes columns cells name.1 value.1)

pub row_is_utf8 : ObjectIsUtf8
row_is_utf8 columns cells are names values = object_passes (members columns cells)
    (row_is_sound columns cells are) (members_have_bytes columns cells names values)

rows_are_sound : (columns : List Column) (rows : List (List (List ℕ)))
    → All (AreRowCells columns) rows
    → list_all (list_all is_sound) (map (members columns) rows) ≡ true
rows_are_sound columns [] are = refl
rows_are_sound columns (cells ∷ rows) are =
    rw (row_is_sound columns cells (All-head (AreRowCells columns) cells rows are))
    (rows_are_sound columns rows (All-tail (AreRowCells columns) cells rows are))

same_objects : (columns : List Column) (rows : List (List (List ℕ)))
    → map (map as_read) (map (members columns) rows) ≡ map (read_members columns) rows
same_objects columns [] = refl
same_objects columns (cells ∷ rows) = ap (λ objects. read_members columns cells ∷ objects)
    (same_objects columns rows)

same_text : (columns : List Column) (rows : List (List (List ℕ)))
    → flat_map object_text (map (members columns) rows) ≡ flat_map (row_text Jsonl columns) rows
same_text columns [] = refl
same_text columns (cells ∷ rows) = ap (λ text. row_text Jsonl columns cells ++ text)
    (same_text columns rows)

pub rows_are_read : LinesAreReadBack
rows_are_read columns rows are =
    subst (λ objects. ReadsObjects objects (flat_map (row_text Jsonl columns) rows))
    (same_objects columns rows)
    (subst (λ text. ReadsObjects (map (map as_read) (map (members columns) rows)) text)
    (same_text columns rows)
    (lines_are_read (map (members columns) rows) (rows_are_sound columns rows are)))

pub one_table : LinesAreReadOnce
one_table columns rows others are reads =
    one_list others (map (read_members columns) rows) (flat_map (row_text Jsonl columns) rows) reads
    (rows_are_read columns rows are)
