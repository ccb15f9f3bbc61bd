-- What is shown of a ply is one thing, and there is one for each ply of a main line.
use Rattle.std.specs.Prelude.{Option, Some, None, flat_map}
use Rattle.pgn_extract.proofs.Common.{◌≡◌, ◌<◌, ℕ, true, List, [], ◌∷◌, length, refl, sym, ap}
use Rattle.pgn_extract.proofs.Common.{◌∙◌, subst, MatchOption, slice_get, same_Some, State, Move}
use Rattle.pgn_extract.proofs.Common.{GameText, tag_in, IsSan, Replay, ◌++◌}
use Rattle.pgn_text.specs.Public.GameTexts.{HoldStrings}
use Rattle.pgn_extract.specs.Public.Aims.{LineId}
use Rattle.pgn_extract.proofs.Common.{IsReplay, Lines, GameId, fen_tag}
use Rattle.chess.specs.Public.Placements.{AreOnBoard}
use Rattle.chess.proofs.FenOneText.{one_fen, some_fen}
use Rattle.chess.proofs.SanOnce.{one_san}
use Rattle.pgn_game.proofs.AnAnswer.{start_on_board}
use Rattle.pgn_game.proofs.OnBoard.{line_on_board}
use Rattle.pgn_game.proofs.OneReplay.{same_value}
use Rattle.pgn_game.specs.Public.MainLines.{main_words}
use Rattle.pgn_game.specs.Public.Openings.{NamedLine}
use Rattle.pgn_text.specs.Public.Strings.{IsContents, value_of_sign}
use Rattle.pgn_extract.specs.Public.Annotations.{annotations_at}
use Rattle.pgn_extract.specs.Public.Listing.{Shown, AfterPly, AsRow, IsShownBy, line_field}
use Rattle.pgn_extract.specs.Private.Lines.{is_bare}
use Rattle.pgn_extract.specs.Public.Rows.{RowPlace, place_of, IsTagCell, IsPositionCell}
use Rattle.pgn_extract.specs.Public.Rows.{IsAt, IsPlyCell, IsGameCell, IsCell, AreCells, row_text}
use Rattle.pgn_extract.specs.declared.rows.column.Column.{Column}
use Rattle.pgn_extract.specs.declared.rows.column.Column.TheVariants.{Tag, OfGame, OfPly}
use Rattle.pgn_extract.specs.declared.rows.column.Column.TheVariants.{OfAnnotations}
use Rattle.pgn_extract.specs.declared.rows.column.GameColumn.{GameColumn}
use Rattle.pgn_extract.specs.declared.rows.column.GameColumn.TheVariants.{File, Game, Offset, Id}
use Rattle.pgn_extract.specs.declared.rows.column.GameColumn.TheVariants.{Result, OpeningPly}
use Rattle.pgn_extract.specs.declared.rows.column.GameColumn.TheVariants.{Line, From}
use Rattle.pgn_extract.specs.declared.rows.column.PlyColumn.{PlyColumn}
use Rattle.pgn_extract.specs.declared.rows.column.PlyColumn.TheVariants.{Ply, OfPosition, Next}
use Rattle.pgn_extract.specs.declared.rows.column.PlyColumn.TheVariants.{NextUci, OfLine}
use Rattle.pgn_extract.specs.declared.rows.column.PositionColumn.{PositionColumn}
use Rattle.pgn_extract.specs.declared.rows.column.PositionColumn.TheVariants.{Fen, Turn, Number}
use Rattle.pgn_extract.specs.declared.rows.column.PositionColumn.TheVariants.{Men, Check, Material}
use Rattle.pgn_extract.specs.declared.settings.EntryLine.{EntryLine}
use Rattle.pgn_extract.specs.declared.settings.EntryLine.TheVariants.{Marked, InColumns}
use Rattle.pgn_extract.proofs.entries.AnnotationFacts.{annotation_is, one_annotation_cell}
use Rattle.pgn_extract.proofs.PositionTexts.{one_men_text, some_men_text, one_check_text}
use Rattle.pgn_extract.proofs.PositionTexts.{some_check_text}
use Rattle.pgn_extract.proofs.FieldTexts.{one_text, some_fields, no_fields, some_position}
use Rattle.pgn_extract.proofs.FieldTexts.{some_move_text}
use Rattle.pgn_extract.proofs.MoveCells.{one_line_cell, some_line_cell}
use Rattle.pgn_extract.proofs.OpeningCells.{one_opening_cell, some_opening_cell}

-- One cell.

one_tag_cell : (contents : Option (List ℕ)) (x y : List ℕ) → IsTagCell contents x
    → IsTagCell contents y → x ≡ y
one_tag_cell None x y first other = first ∙ sym other
one_tag_cell (Some contents) x y first other = same_value contents x y first other

one_of_position : (own : PositionColumn) (P : State) (x y : List ℕ) → IsPositionCell own P x
    → IsPositionCell own P y → x ≡ y
one_of_position Fen P x y first other = one_fen P x y first other
one_of_position Turn P x y first other = first ∙ sym other
one_of_position Number P x y first other = first ∙ sym other
one_of_position Men P x y first other = one_men_text P x y first other
one_of_position Check P x y first other = one_check_text P x y first other
one_of_position Material P x y first other = first ∙ sym other

one_move_cell : (move : Option Move) (replay : Replay) (ply : ℕ) (x y : List ℕ)
    → MatchOption move (x ≡ []) (λ m. IsAt replay ply (λ P. IsSan P m x))
    → MatchOption move (y ≡ []) (λ m. IsAt replay ply (λ P. IsSan P m y)) → x ≡ y
one_move_cell None replay ply x y first other = first ∙ sym other
one_move_cell (Some m) replay ply x y (P, here, is) (Q, there, of) =
    one_san P m x y is (subst (λ R. IsSan R m y) (same_Some Q P (sym there ∙ here)) of)

one_ply_cell : (own : PlyColumn) (replay : Replay) (ply : ℕ) (x y : List ℕ)
    → IsPlyCell own replay ply x → IsPlyCell own replay ply y → x ≡ y
one_ply_cell Ply replay ply x y first other = first ∙ sym other
one_ply_cell (OfPosition own) replay ply x y (P, here, is) (Q, there, of) =
    one_of_position own P x y is
    (subst (λ R. IsPositionCell own R y) (same_Some Q P (sym there ∙ here)) of)
one_ply_cell (OfLine own) replay ply x y first other =
    one_line_cell own replay ply x y first other
one_ply_cell Next replay ply x y first other =
    one_move_cell (slice_get replay.played ply) replay ply x y first other
one_ply_cell NextUci replay ply x y first other = first ∙ sym other

one_game_cell : (own : GameColumn) (place : RowPlace) (x y : List ℕ) → IsGameCell own place x
    → IsGameCell own place y → x ≡ y
one_game_cell File place x y first other = first ∙ sym other
one_game_cell Game place x y first other = first ∙ sym other
one_game_cell Offset place x y first other = first ∙ sym other
one_game_cell Id place x y first other = first ∙ sym other
one_game_cell Result place x y first other = first ∙ sym other
one_game_cell Line place x y first other = first ∙ sym other
one_game_cell From place x y first other = first ∙ sym other
one_game_cell OpeningPly place x y first other =
    one_opening_cell place.openings place.replay.positions x y first other

one_cell : (column : Column) (place : RowPlace) (x y : List ℕ) → IsCell column place x
    → IsCell column place y → x ≡ y
one_cell (Tag name) place x y first other =
    one_tag_cell (place.heading.named name.items) x y first other
one_cell (OfGame own) place x y first other = one_game_cell own place x y first other
one_cell (OfPly own) place x y first other =
    one_ply_cell own place.replay place.ply x y first other
one_cell (OfAnnotations own) place x y first other =
    one_annotation_cell own (annotations_at place.items place.ply) x y first other

one_cells : (columns : List Column) (place : RowPlace) (xs ys : List (List ℕ))
    → AreCells columns place xs → AreCells columns place ys → xs ≡ ys
one_cells [] place xs ys first other = first ∙ sym other
one_cells (column ∷ columns) place xs ys (x, more, parts, is, others)
    (y, rest, split, also, later) =
    parts ∙ ap (λ (t : List ℕ). t ∷ more) (one_cell column place x y is also)
    ∙ ap (λ (t : List (List ℕ)). y ∷ t) (one_cells columns place more rest others later) ∙ sym split

-- what is shown of a ply is one thing
pub one_shown : (line : EntryLine) (place : RowPlace) (x y : Shown) → IsShownBy line place x
    → IsShownBy line place y → x ≡ y
one_shown (Marked fields) place x y (text, is, shown) (other, also, seen) =
    shown
    ∙ ap (λ t. AfterPly (line_field place.line ++ t))
    (one_text fields place.replay place.ply text other is also) ∙ sym seen
one_shown (InColumns row) place x y (text, (cells, are, is), shown) (other, (others, too, of), seen)
    =
    shown ∙ ap AsRow
    (is ∙ ap (row_text row.format row.columns.items)
    (one_cells row.columns.items place cells others are too) ∙ sym of) ∙ sym seen

-- Some cell.

some_tag_cell : (contents : Option (List ℕ))
    → ((own : List ℕ) → contents ≡ Some own → IsContents own)
    → (cell : List ℕ) × IsTagCell contents cell
some_tag_cell None good = ([], refl)
some_tag_cell (Some own) good =
    let (signs, spells, each) = good own refl in
    (flat_map value_of_sign signs, (signs, record { spells = spells; each = each; gives = refl }))

some_of_position : (own : PositionColumn) (P : State) → AreOnBoard P.men
    → (cell : List ℕ) × IsPositionCell own P cell
some_of_position Fen P on_board = some_fen P
some_of_position Turn P on_board = (_, refl)
some_of_position Number P on_board = (_, refl)
some_of_position Men P on_board = some_men_text P
some_of_position Check P on_board = some_check_text P on_board
some_of_position Material P on_board = (_, refl)

module _ (game : GameText) (strings : HoldStrings game.tags) (lines : Lines) (replay : Replay)
    (is : IsReplay lines (tag_in fen_tag game.tags) game.elements replay) (ply : ℕ)
    (within : ply < length replay.positions) where
  on_board : (i : ℕ) (P : State) → slice_get replay.positions i ≡ Some P → AreOnBoard P.men
  on_board =
      line_on_board (main_words game.elements 0) is.start replay.positions replay.played
      (start_on_board (tag_in fen_tag game.tags) is.start is.is_start) is.line

  some_ply_cell : (own : PlyColumn) → (cell : List ℕ) × IsPlyCell own replay ply cell
  some_ply_cell Ply = (_, refl)
  some_ply_cell (OfPosition own) =
      let at = some_position replay.positions ply within in
      let cell = some_of_position own at.0 (on_board ply at.0 at.1) in
      (cell.0, (at.0, at.1, cell.1))
  some_ply_cell (OfLine own) =
      some_line_cell lines (tag_in fen_tag game.tags) game.elements replay is own ply
  some_ply_cell Next = some_move_text lines (tag_in fen_tag game.tags) game.elements replay is ply
  some_ply_cell NextUci = (_, refl)

  module _ (name : Option (List ℕ)) (openings : Option (List NamedLine)) (id : GameId)
      (own_line : Option LineId) where
    abbrev place : RowPlace
    place = place_of name openings id own_line game replay ply

    some_game_cell : (own : GameColumn) → (cell : List ℕ) × IsGameCell own place cell
    some_game_cell File = (_, refl)
    some_game_cell Game = (_, refl)
    some_game_cell Offset = (_, refl)
    some_game_cell Id = (_, refl)
    some_game_cell Result = (_, refl)
    some_game_cell Line = (_, refl)
    some_game_cell From = (_, refl)
    some_game_cell OpeningPly = some_opening_cell openings replay.positions on_board

    some_cell : (column : Column) → (cell : List ℕ) × IsCell column place cell
    some_cell (Tag own) =
        some_tag_cell (tag_in own.items game.tags) (λ contents. strings own.items contents)
    some_cell (OfGame own) = some_game_cell own
    some_cell (OfPly own) = some_ply_cell own
    some_cell (OfAnnotations own) = (_, annotation_is own (annotations_at game.elements ply))

    some_cells : (columns : List Column) → (cells : List (List ℕ)) × AreCells columns place cells
    some_cells [] = ([], refl)
    some_cells (column ∷ columns) =
        let own = some_cell column in
        let more = some_cells columns in
        (own.0 ∷ more.0, (own.0, more.0, refl, own.1, more.1))

    some_of_line : (line : EntryLine) → (shown : Shown) × IsShownBy line place shown
    some_of_line (Marked fields) =
        let text = some_fields fields lines (tag_in fen_tag game.tags) game.elements replay is ply
        within in
        (AfterPly (line_field own_line ++ text.0), (text.0, text.1, refl))
    some_of_line (InColumns row) =
        let cells = some_cells row.columns.items in
        (AsRow (row_text row.format row.columns.items cells.0), (_, (cells.0, cells.1, refl), refl))

-- and there is one for each ply of a main line
pub some_shown : (line : EntryLine) (name : Option (List ℕ)) (openings : Option (List NamedLine))
    (id : GameId) (own_line : Option LineId) (game : GameText) → HoldStrings game.tags
    → (lines : Lines) (replay : Replay)
    → IsReplay lines (tag_in fen_tag game.tags) game.elements replay → (ply : ℕ)
    → ply < length replay.positions
    → (shown : Shown)
    × IsShownBy line (place_of name openings id own_line game replay ply) shown
some_shown line name openings id own_line game strings lines replay is ply within =
    some_of_line game strings lines replay is ply within name openings id own_line line

-- Nothing but the mark and the ply.

pub nothing_shown : (line : EntryLine) → is_bare line ≡ true → (place : RowPlace)
    → place.line ≡ None → IsShownBy line place (AfterPly [])
nothing_shown (Marked fields) bare place none = (
  [],
  no_fields fields bare place.replay place.ply,
  ap (λ n. AfterPly (line_field n ++ [])) (sym none),
)
nothing_shown (InColumns row) bare place none = absurd (cc)
