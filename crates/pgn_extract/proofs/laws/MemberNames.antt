-- The members of an object have the names that the list of columns asks for.
use Rattle.std.proofs.Common.{◌≡◌, ℕ, true, List, [], ◌∷◌, refl, sym, ap}
use Rattle.std.proofs.Common.{subst, ◌∙◌, arith}
use Rattle.std.specs.Prelude.{map}
use Rattle.std.specs.List.{list_all}
use Rattle.std.specs.Str.{is_utf8}
use Rattle.std.proofs.lemmas.Bool.{and_parts}
use Rattle.std.proofs.lemmas.Bool.Decides.{nat_tests}
use Rattle.std.proofs.lemmas.Str.{is_utf8-from_IsUtf8}
use Rattle.pgn_text.specs.Public.Bytes.{is_name_byte}
use Rattle.pgn_game.specs.declared.exports.notation.Notation.TheVariants.{San, Uci}
use Rattle.pgn_extract.specs.Public.Columns.{column_name, game_column_name, ply_column_name}
use Rattle.pgn_extract.specs.Public.Columns.{IsColumnOf, HaveNames, annotation_column_name}
use Rattle.pgn_extract.specs.Public.Json.{Member, text_of}
use Rattle.pgn_extract.specs.Public.ObjectLaws.{NamesAreAsAsked, read_members}
use Rattle.pgn_extract.specs.Public.Rows.{RowPlace, AreCells}
use Rattle.pgn_extract.specs.declared.rows.column.AnnotationColumn.{AnnotationColumn}
use Rattle.pgn_extract.specs.declared.rows.column.AnnotationColumn.TheVariants.{Nags, Comment}
use Rattle.pgn_extract.specs.declared.rows.column.AnnotationColumn.TheVariants.{Clock, Eval}
use Rattle.pgn_extract.specs.declared.rows.column.Column.{Column}
use Rattle.pgn_extract.specs.declared.rows.column.Column.TheVariants.{Tag, OfGame, OfPly}
use Rattle.pgn_extract.specs.declared.rows.column.Column.TheVariants.{OfAnnotations}
use Rattle.pgn_extract.specs.declared.rows.column.GameColumn.{GameColumn}
use Rattle.pgn_extract.specs.declared.rows.column.GameColumn.TheVariants.{File, Game, Offset, Id}
use Rattle.pgn_extract.specs.declared.rows.column.GameColumn.TheVariants.{Result, OpeningPly}
use Rattle.pgn_extract.specs.declared.rows.column.GameColumn.TheVariants.{Line, From}
use Rattle.pgn_extract.specs.declared.rows.column.LineColumn.TheVariants.{Plies, Last, Moves}
use Rattle.pgn_extract.specs.declared.rows.column.PlyColumn.{PlyColumn}
use Rattle.pgn_extract.specs.declared.rows.column.PlyColumn.TheVariants.{Ply, OfPosition, Next}
use Rattle.pgn_extract.specs.declared.rows.column.PlyColumn.TheVariants.{NextUci, OfLine}
use Rattle.pgn_extract.specs.declared.rows.column.PositionColumn.TheVariants.{Fen, Turn, Number}
use Rattle.pgn_extract.specs.declared.rows.column.PositionColumn.TheVariants.{Men, Check, Material}
use Rattle.pgn_extract.proofs.laws.ObjectUtf8.{is_low, low_are_utf8}

-- a name is ASCII

game_name_is_low : (own : GameColumn) → list_all is_low (game_column_name own) ≡ true
game_name_is_low File = refl
game_name_is_low Game = refl
game_name_is_low Offset = refl
game_name_is_low Id = refl
game_name_is_low Result = refl
game_name_is_low OpeningPly = refl
game_name_is_low Line = refl
game_name_is_low From = refl

ply_name_is_low : (own : PlyColumn) → list_all is_low (ply_column_name own) ≡ true
ply_name_is_low Ply = refl
ply_name_is_low (OfPosition Fen) = refl
ply_name_is_low (OfPosition Turn) = refl
ply_name_is_low (OfPosition Number) = refl
ply_name_is_low (OfPosition Men) = refl
ply_name_is_low (OfPosition Check) = refl
ply_name_is_low (OfPosition Material) = refl
ply_name_is_low Next = refl
ply_name_is_low NextUci = refl
ply_name_is_low (OfLine Plies) = refl
ply_name_is_low (OfLine (Last San)) = refl
ply_name_is_low (OfLine (Last Uci)) = refl
ply_name_is_low (OfLine (Moves San)) = refl
ply_name_is_low (OfLine (Moves Uci)) = refl

annotation_name_is_low : (own : AnnotationColumn)
    → list_all is_low (annotation_column_name own) ≡ true
annotation_name_is_low Nags = refl
annotation_name_is_low Comment = refl
annotation_name_is_low Clock = refl
annotation_name_is_low Eval = refl

name_byte_is_low : (b : ℕ) → is_name_byte b ≡ true → is_low b ≡ true
name_byte_is_low b is = grind (arith, nat_tests)

tag_name_is_low : (name : List ℕ) → list_all is_name_byte name ≡ true
    → list_all is_low name ≡ true
tag_name_is_low [] are = refl
tag_name_is_low (b ∷ name) are =
    let parts : (is_name_byte b ≡ true) × (list_all is_name_byte name ≡ true) =
    and_parts _ _ are in
    rw (name_byte_is_low b parts.0) (tag_name_is_low name parts.1)

column_is_low : (name : List ℕ) (column : Column) → IsColumnOf name column
    → list_all is_low name ≡ true
column_is_low name (Tag own) (is, (some, each)) = tag_name_is_low name each
column_is_low name (OfGame own) is = ap (list_all is_low) is ∙ game_name_is_low own
column_is_low name (OfPly own) is = ap (list_all is_low) is ∙ ply_name_is_low own
column_is_low name (OfAnnotations own) is =
    ap (list_all is_low) is ∙ annotation_name_is_low own

-- and is read as it is

name_of_column : (name : List ℕ) (column : Column) → IsColumnOf name column
    → column_name column ≡ name
name_of_column name (Tag own) (is, named) = is
name_of_column name (OfGame own) is = sym is
name_of_column name (OfPly own) is = sym is
name_of_column name (OfAnnotations own) is = sym is

name_is_read : (name : List ℕ) (column : Column) → IsColumnOf name column
    → text_of (column_name column) ≡ name
name_is_read name column is =
    let utf8 : is_utf8 name ≡ true =
    is_utf8-from_IsUtf8 name (low_are_utf8 name (column_is_low name column is)) in
    let own : text_of name ≡ name = rw utf8 refl in
    ap text_of (name_of_column name column is) ∙ own

names_are_read : (names : List (List ℕ)) (columns : List Column) (place : RowPlace)
    (cells : List (List ℕ)) → HaveNames names columns → AreCells columns place cells
    → map (λ (member : Member). member.name) (read_members columns cells) ≡ names
names_are_read [] columns place cells have are = rw have refl
names_are_read (name ∷ names) columns place cells (column, more, parts, is, have) are =
    let own : AreCells (column ∷ more) place cells =
    subst (λ xs. AreCells xs place cells) parts are in
    let (cell, rest, same, cell_is, others) = own in
    let first : text_of (column_name column) ≡ name = name_is_read name column is in
    let later : map (λ (member : Member). member.name) (read_members more rest) ≡ names =
    names_are_read names more place rest have others in
    rw (parts, same, first, later) refl

pub names_are_as_asked : NamesAreAsAsked
names_are_as_asked text columns cells lists (place, has, are) =
    names_are_read _ columns place cells lists.named are
