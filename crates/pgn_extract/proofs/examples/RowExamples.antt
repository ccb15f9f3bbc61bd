-- Worked examples of rows: cells, strings and members as they are written, names and numbers.
use Rattle.std.proofs.Common.{◌≡◌, ◌≤◌, ◌++◌, ℕ, List, [], ◌∷◌, true, false, inl, inr, refl}
use Rattle.std.proofs.Common.{ap, arith, drop, length, Bor}
use Rattle.std.specs.Prelude.{max}
use Rattle.pgn_game.specs.Public.LineGames.{LineGame}
use Rattle.pgn_extract.specs.Public.Aims.{Aim}
use Rattle.pgn_extract.specs.Public.LineListing.{aim_in, line_id, listed_items}
use Rattle.pgn_extract.specs.Public.Listing.{line_field}
use Rattle.std.specs.Prelude.{bytes_eq, codes, decimal, Option, Some, None, ◌==◌}
use Rattle.std.specs.List.{slice_get}
use Rattle.chess.specs.Public.Fen.{IsFen}
use Rattle.chess.specs.Public.Moves.{IsStalemate}
use Rattle.chess.specs.Public.Positions.{State}
use Rattle.pgn_game.specs.Public.Replays.{Replay}
use Rattle.pgn_game.specs.declared.exports.notation.Notation.{Notation}
use Rattle.pgn_game.specs.declared.exports.notation.Notation.TheVariants.{San, Uci}
use Rattle.pgn_text.specs.Public.Bytes.{begins}
use Rattle.pgn_text.specs.Public.Games.{Item, MoveText, GlyphNumber, CommentText, VariationOpen}
use Rattle.pgn_text.specs.Public.Games.{VariationClose}
use Rattle.pgn_extract.specs.Public.Annotations.{annotations_at, annotation_lists, IsCommandAt}
use Rattle.pgn_extract.specs.Public.Annotations.{IsCommandValue, IsAnnotationCell, missing, stands}
use Rattle.pgn_extract.specs.Public.Columns.{column_name, is_number_column, IsColumnFault}
use Rattle.pgn_extract.specs.Public.Columns.{IsWrongAfter}
use Rattle.pgn_extract.specs.Public.Csv as csv
use Rattle.pgn_extract.specs.Public.GivenMarks.{game_id}
use Rattle.pgn_extract.specs.Public.Json as json
use Rattle.pgn_extract.specs.Public.PositionCells.{IsMenText, IsCheckText, counted_letter}
use Rattle.pgn_extract.specs.Public.Rows.{RowPlace, IsGameCell, IsLineCell, IsMoveIn, IsPlyCell}
use Rattle.pgn_extract.specs.Public.Rows.{IsOpeningCell, IsTagCell, opening_cell, row_text}
use Rattle.pgn_extract.specs.Public.Tsv as tsv
use Rattle.pgn_extract.specs.declared.rows.column.AnnotationColumn.TheVariants.{Nags, Comment}
use Rattle.pgn_extract.specs.declared.rows.column.AnnotationColumn.TheVariants.{Clock, Eval}
use Rattle.pgn_extract.specs.declared.rows.column.Column.TheVariants.{OfGame, OfPly, OfAnnotations}
use Rattle.pgn_extract.specs.declared.rows.column.Format.TheVariants.{Csv, Tsv, Jsonl}
use Rattle.pgn_extract.specs.declared.rows.column.GameColumn.TheVariants.{File, Game, Offset, Id}
use Rattle.pgn_extract.specs.declared.rows.column.GameColumn.TheVariants.{Result, OpeningPly}
use Rattle.pgn_extract.specs.declared.rows.column.GameColumn.TheVariants.{Line, From}
use Rattle.pgn_extract.specs.declared.rows.column.LineColumn.TheVariants.{Plies, Last, Moves}
use Rattle.pgn_extract.specs.declared.rows.column.PlyColumn.TheVariants.{Ply, OfPosition, Next}
use Rattle.pgn_extract.specs.declared.rows.column.PlyColumn.TheVariants.{NextUci, OfLine}
use Rattle.pgn_extract.specs.declared.rows.column.PositionColumn.TheVariants.{Fen, Turn, Number}
use Rattle.pgn_extract.specs.declared.rows.column.PositionColumn.TheVariants.{Men, Check, Material}
use Rattle.pgn_extract.specs.declared.rows.list.ColumnsError.TheVariants as err
use Rattle.pgn_extract.proofs.Common.{false≢true}
use Rattle.pgn_extract.proofs.rows.CommandFacts.{command_closes, is_command_value}
use Rattle.pgn_extract.proofs.rows.CommandFacts.{one_command_value}

plain_cell : csv.cell_text (codes "Tal") ≡ codes "Tal"
plain_cell = refl

cell_with_comma : csv.cell_text (codes "Tal, M") ≡ 34 ∷ codes "Tal, M" ++ 34 ∷ []
cell_with_comma = refl

-- a"b
cell_with_quote : csv.cell_text (97 ∷ 34 ∷ 98 ∷ []) ≡ 34 ∷ 97 ∷ 34 ∷ 34 ∷ 98 ∷ 34 ∷ []
cell_with_quote = refl

cell_with_line_end : csv.cell_text (97 ∷ 13 ∷ []) ≡ 34 ∷ 97 ∷ 13 ∷ 34 ∷ []
cell_with_line_end = refl

one_empty_cell : csv.row_text ([] ∷ []) ≡ 34 ∷ 34 ∷ 10 ∷ []
one_empty_cell = refl

two_empty_cells : csv.row_text ([] ∷ [] ∷ []) ≡ 44 ∷ 10 ∷ []
two_empty_cells = refl

tabbed_row : tsv.row_text ((97 ∷ 9 ∷ []) ∷ (92 ∷ 10 ∷ 13 ∷ []) ∷ [])
    ≡ 97 ∷ 92 ∷ 116 ∷ 9 ∷ 92 ∷ 92 ∷ 92 ∷ 110 ∷ 92 ∷ 114 ∷ 10 ∷ []
tabbed_row = refl

-- a quote, a backslash, and the byte 0x1f
string : json.string_text (34 ∷ 92 ∷ 31 ∷ [])
    ≡ 34 ∷ 92 ∷ 34 ∷ 92 ∷ 92 ∷ 92 ∷ 117 ∷ 48 ∷ 48 ∷ 49 ∷ 102 ∷ 34 ∷ []
string = refl

-- 0xe9 as Latin-1 is e with an acute accent
accent : json.latin 233 ≡ 195 ∷ 169 ∷ []
accent = refl

-- the columns that are no tags
names : column_name (OfGame File) ∷ column_name (OfGame Game) ∷ column_name (OfGame Offset)
    ∷ column_name (OfGame Id) ∷ column_name (OfGame Result) ∷ column_name (OfPly Ply)
    ∷ column_name (OfPly (OfPosition Fen)) ∷ column_name (OfPly (OfPosition Turn))
    ∷ column_name (OfPly (OfPosition Number)) ∷ column_name (OfPly Next)
    ∷ column_name (OfPly (OfPosition Men)) ∷ column_name (OfPly (OfPosition Check))
    ∷ column_name (OfPly (OfPosition Material)) ∷ column_name (OfPly NextUci)
    ∷ column_name (OfAnnotations Nags) ∷ column_name (OfAnnotations Comment)
    ∷ column_name (OfAnnotations Clock) ∷ column_name (OfAnnotations Eval)
    ∷ column_name (OfGame OpeningPly) ∷ column_name (OfGame Line) ∷ column_name (OfGame From) ∷ []
    ≡ codes "@file" ∷ codes "@game" ∷ codes "@offset" ∷ codes "@id" ∷ codes "@result"
    ∷ codes "@ply" ∷ codes "@fen" ∷ codes "@turn" ∷ codes "@number" ∷ codes "@next"
    ∷ codes "@placement" ∷ codes "@check" ∷ codes "@material" ∷ codes "@next-uci"
    ∷ codes "@nags" ∷ codes "@comment" ∷ codes "@clk" ∷ codes "@eval" ∷ codes "@opening-ply"
    ∷ codes "@line" ∷ codes "@from" ∷ []
names = refl

numbers : is_number_column (OfGame File) ∷ is_number_column (OfGame Game)
    ∷ is_number_column (OfGame Offset) ∷ is_number_column (OfGame Id)
    ∷ is_number_column (OfGame Result) ∷ is_number_column (OfPly Ply)
    ∷ is_number_column (OfPly (OfPosition Fen)) ∷ is_number_column (OfPly (OfPosition Turn))
    ∷ is_number_column (OfPly (OfPosition Number)) ∷ is_number_column (OfPly Next)
    ∷ is_number_column (OfPly (OfPosition Men)) ∷ is_number_column (OfPly (OfPosition Check))
    ∷ is_number_column (OfPly (OfPosition Material)) ∷ is_number_column (OfPly NextUci)
    ∷ is_number_column (OfAnnotations Nags) ∷ is_number_column (OfAnnotations Comment)
    ∷ is_number_column (OfAnnotations Clock) ∷ is_number_column (OfAnnotations Eval)
    ∷ is_number_column (OfGame OpeningPly) ∷ is_number_column (OfGame Line)
    ∷ is_number_column (OfGame From) ∷ []
    ≡ false ∷ true ∷ true ∷ false ∷ false ∷ true ∷ false ∷ false ∷ true ∷ false ∷ false ∷ false
    ∷ false ∷ false ∷ false ∷ false ∷ false ∷ false ∷ false ∷ true ∷ true ∷ []
numbers = refl

-- what columns show of the second game, which begins at the byte 22
abbrev second_game : (List ℕ → Option (List ℕ)) → Option (List ℕ) → Replay → RowPlace
second_game tags name replay = record {
  name = name;
  openings = None;
  id = game_id 2 22;
  line = None;
  heading = record { named = tags; result = codes "1-0" };
  items = [];
  replay = replay;
  ply = 0;
}

game_cells : (tags : List ℕ → Option (List ℕ)) (replay : Replay)
    → let named = second_game tags (Some (codes "a")) replay in
    let other = second_game tags None replay in
    IsGameCell File named (codes "a") × IsGameCell File other []
    × IsGameCell Game other (decimal 2) × IsGameCell Offset other (decimal 22)
    × IsGameCell Id other (decimal 2 ++ 64 ∷ decimal 22)
    × IsGameCell Result other (codes "1-0") × IsGameCell OpeningPly other []
game_cells tags replay = (refl, refl, refl, refl, refl, refl, (None, refl, refl))

-- what columns show of its third variation, which leaves its line after four plies: no result
line_cells : (tags : List ℕ → Option (List ℕ)) (replay : Replay)
    → let main = second_game tags None replay in
    let third = record main { line = Some (record { number = 3; from = 4 }) } in
    IsGameCell Line main (decimal 0) × IsGameCell From main (decimal 0)
    × IsGameCell Line third (decimal 3) × IsGameCell From third (decimal 4)
    × IsGameCell Result third (codes "*") × (IsGameCell Result third (codes "1-0") → ⊥)
line_cells tags replay = (refl, refl, refl, refl, refl, λ is. cc)

-- an entry of it has its number, and one of a main line has none where lines are not listed
line_fields : line_field (Some (record { number = 3; from = 4 })) ∷ line_field None ∷ []
    ≡ (32 ∷ decimal 3) ∷ [] ∷ []
line_fields = refl

-- the ply of an opening, and not the place of its line
opening_cells : opening_cell None ∷ opening_cell (Some (record { ply = 7; line = 2 })) ∷ []
    ≡ [] ∷ decimal 7 ∷ []
opening_cells = refl

none_without_lines : (positions : List State) → IsOpeningCell None positions (codes "0") → ⊥
none_without_lines positions (opening, none, is) =
    let empty : opening_cell opening ≡ [] = ap opening_cell none in cc

-- without a line there is no opening
none_by_no_line : (positions : List State) → IsOpeningCell (Some []) positions (codes "0") → ⊥
none_by_no_line positions (None, none, is) = cc
none_by_no_line positions (Some opening, found, is) =
    let (P, here, (Q, ends, same)) = found.here in cc

no_value_of_no_tag : IsTagCell None (codes "x") → ⊥
no_value_of_no_tag is = cc

no_move_at_the_end : (replay : Replay) (ply : ℕ) → slice_get replay.played ply ≡ None
    → IsMoveIn San replay ply (codes "-") → ⊥
no_move_at_the_end replay ply ends is = let none : codes "-" ≡ [] = rw ends at is in cc

no_uci_at_the_end : (replay : Replay) (ply : ℕ) → slice_get replay.played ply ≡ None
    → IsPlyCell NextUci replay ply (codes "e2e4") → ⊥
no_uci_at_the_end replay ply ends is =
    let none : codes "e2e4" ≡ [] = rw ends at is in cc

the_ply : (replay : Replay) → IsPlyCell Ply replay 3 (decimal 3)
the_ply replay = refl

-- the columns for which the main line is kept
line_names : column_name (OfPly (OfLine Plies)) ∷ column_name (OfPly (OfLine (Last San)))
    ∷ column_name (OfPly (OfLine (Last Uci))) ∷ column_name (OfPly (OfLine (Moves San)))
    ∷ column_name (OfPly (OfLine (Moves Uci))) ∷ []
    ≡ codes "@plies" ∷ codes "@last" ∷ codes "@last-uci" ∷ codes "@moves"
    ∷ codes "@uci" ∷ []
line_names = refl

line_numbers : is_number_column (OfPly (OfLine Plies))
    ∷ is_number_column (OfPly (OfLine (Last Uci))) ∷ [] ≡ true ∷ false ∷ []
line_numbers = refl

-- a main line without a move, whatever its position
no_plies : (replay : Replay) → replay.played ≡ [] → IsLineCell Plies replay 0 (decimal 0)
no_plies replay none = rw none refl

no_last_move_at_the_start : (notation : Notation) (replay : Replay)
    → IsLineCell (Last notation) replay 0 (codes "e4") → ⊥
no_last_move_at_the_start notation replay is = cc

-- an object has the names of its columns, and numbers without quotes
an_object : row_text Jsonl (OfPly Ply ∷ OfGame Result ∷ []) (codes "7" ∷ codes "*" ∷ [])
    ≡ json.object_text (record { name = codes "@ply"; is_number = true; value = codes "7" }
    ∷ record { name = codes "@result"; is_number = false; value = codes "*" } ∷ [])
an_object = refl

two_formats : row_text Csv (OfPly Ply ∷ OfPly Next ∷ []) (codes "7" ∷ codes "e4" ∷ [])
    ∷ row_text Tsv (OfPly Ply ∷ OfPly Next ∷ []) (codes "7" ∷ codes "e4" ∷ []) ∷ []
    ≡ codes "7,e4\n" ∷ codes "7\te4\n" ∷ []
two_formats = refl

-- letters of men: none, one, and two or more
letters_of_men : counted_letter 81 0 ∷ counted_letter 81 1 ∷ counted_letter 80 8
    ∷ counted_letter 82 10 ∷ []
    ≡ [] ∷ codes "Q" ∷ (80 ∷ decimal 8) ∷ (82 ∷ decimal 10) ∷ []
letters_of_men = refl

-- no other sign stands for stalemate, and it stands for nothing else
no_sign_of_stalemate : (P : State) → IsStalemate P → IsCheckText P [] → ⊥
no_sign_of_stalemate P still (inl (also, is)) = cc
no_sign_of_stalemate P still (inr (other, sign)) = other still

-- the first field of a position's text in FEN
two_kings : (P : State) → IsFen P (codes "k7/8/8/8/8/8/8/7K w - - 0 1")
    → IsMenText P (codes "k7/8/8/8/8/8/8/7K")
two_kings P is = (codes "k7/8/8/8/8/8/8/7K w - - 0 1", _, is, refl)

-- {a} 1. e4 $1 (1. d4 {no} $2 (1. c4 {nor}) {no}) {b} e5 $3 *
abbrev annotated : List Item
annotated =
    CommentText (codes "a") ∷ MoveText (codes "e4") ∷ GlyphNumber 1 ∷ VariationOpen
    ∷ MoveText (codes "d4") ∷ CommentText (codes "no") ∷ GlyphNumber 2 ∷ VariationOpen
    ∷ MoveText (codes "c4") ∷ CommentText (codes "nor") ∷ VariationClose ∷ CommentText (codes "no")
    ∷ VariationClose ∷ CommentText (codes "b") ∷ MoveText (codes "e5") ∷ GlyphNumber 3 ∷ []

-- those of each ply; none of the variations
annotations_by_ply : annotation_lists annotated
    ≡ (CommentText (codes "a") ∷ []) ∷ (GlyphNumber 1 ∷ CommentText (codes "b") ∷ [])
    ∷ (GlyphNumber 3 ∷ []) ∷ []
annotations_by_ply = refl

no_annotations_past_the_end : annotations_at annotated 3 ≡ []
no_annotations_past_the_end = refl

nags_shown : IsAnnotationCell Nags
    (GlyphNumber 1 ∷ CommentText (codes "x") ∷ GlyphNumber 14 ∷ [])
    (36 ∷ (decimal 1 ++ (32 ∷ 36 ∷ decimal 14)))
nags_shown = refl

-- its words alone, and those of the next comment
comments_shown : IsAnnotationCell Comment
    (CommentText (codes " a\n b ") ∷ GlyphNumber 1 ∷ CommentText [] ∷ CommentText (codes "c") ∷ [])
    (codes "a b c")
comments_shown = refl

-- The values of commands.

abbrev two_clocks : List ℕ
two_clocks = codes "b [%clk 0:09] [%clk 0:08]"

not_before : (other own : List ℕ) → IsCommandAt (codes "[%clk ") two_clocks other own
    → 2 ≤ length other
not_before [] own at = absurd (false≢true (ap (begins (λ b. b == 91)) at.parted))
not_before (a ∷ []) own at =
    absurd (false≢true (ap (λ t. begins (λ b. b == 91) (drop 1 t)) at.parted))
not_before (a ∷ b ∷ other) own at = omega arith

first_clock : IsAnnotationCell Clock
    (CommentText (codes "b [%clk 0:09]\n") ∷ CommentText (codes "[%clk 0:08]") ∷ []) (codes "0:09")
first_clock =
    stands (codes "b ") (record { after = codes " [%clk 0:08]"; parted = refl; within = refl })
    not_before

-- not that of the second
no_second_clock : IsCommandValue (codes "[%clk ") two_clocks (codes "0:08") → ⊥
no_second_clock is =
    false≢true (ap (λ t. bytes_eq t (codes "0:08"))
    (one_command_value (codes "[%clk ") two_clocks _ _ first_clock is))

-- a command has a bracket after its value
abbrev open_clock : List ℕ
open_clock = codes "[%clk 0:09"

never_closed : (before own : List ℕ) → IsCommandAt (codes "[%clk ") open_clock before own → ⊥
never_closed before own at = cc (command_closes (codes "[%clk ") open_clock before own at)

no_clock : IsCommandValue (codes "[%clk ") open_clock []
no_clock = missing never_closed refl

-- and is called so
no_clock_of_an_evaluation : IsAnnotationCell Clock (CommentText (codes "[%eval 0.3]") ∷ [])
    (codes "0.3") → ⊥
no_clock_of_an_evaluation is =
    cc (one_command_value (codes "[%clk ") (codes "[%eval 0.3]") _ _ is
    (is_command_value (codes "[%clk ") (codes "[%eval 0.3]")))

evaluation_shown : IsAnnotationCell Eval (CommentText (codes "[%eval #-3]") ∷ []) (codes "#-3")
evaluation_shown = is_command_value (codes "[%eval ") (codes "[%eval #-3]")

-- ---- names of columns

-- a column of ours that is not there is not one without a name
not_nameless : (word : Bor (List ℕ)) → IsColumnFault (codes "@fan") (err.NoName word) → ⊥
not_nameless word (is, some, own, bad) = own (codes "fan", refl)

-- nor is an empty name
not_empty : (word : Bor (List ℕ)) → IsColumnFault [] (err.NoName word) → ⊥
not_empty word (is, some, own, bad) = some refl

-- after 64 names the next is one too many, whatever it is
too_many_first : (before : List (List ℕ)) → length before ≡ 64
    → IsWrongAfter before [] err.Empty → ⊥
too_many_first before many (few, is) = absurd (omega (arith, many, few))

-- ---- lines of games

-- a variation for the fifth move of its game
abbrev late : LineGame
late = record {
  inside = true;
  before = codes "e4" ∷ codes "e5" ∷ codes "Nf3" ∷ codes "Nc6" ∷ [];
  own = MoveText (codes "Bc4") ∷ [];
}

third_line : line_id 3 late ≡ record { number = 3; from = 4 }
third_line = refl

-- its entries begin with its own first ply
own_entries : (aim : Aim) → aim.min_ply ≡ 2 → (aim_in aim 3 late).min_ply ≡ 5
own_entries aim is = ap (λ least. max least 5) is

-- or with the least ply that is asked for, where that comes later
later_entries : (aim : Aim) → aim.min_ply ≡ 9 → (aim_in aim 3 late).min_ply ≡ 9
later_entries aim is = ap (λ least. max least 5) is

-- the main line is the game's, a variation its own
of_main_line : listed_items 0 [] (VariationOpen ∷ []) ≡ []
of_main_line = refl

of_variation : listed_items 3 [] (VariationOpen ∷ []) ≡ VariationOpen ∷ []
of_variation = refl
