-- What is shown of an entry is what a maker of lines makes of it.
use Rattle.std.proofs.Common.{◌≡◌, ◌++◌, ◌∷◌, ℕ, List, [], Option, refl, sym, ap}
use Rattle.std.proofs.Common.{◌∙◌, subst, length}
use Rattle.chess.specs.Public.Positions.{State}
use Rattle.pgn_text.specs.Public.GameTexts.{GameText}
use Rattle.pgn_game.specs.Public.Openings.{NamedLine}
use Rattle.pgn_game.specs.Public.Replays.{Replay}
use Rattle.pgn_extract.specs.Public.Aims.{Aim, GameId, LineId}
use Rattle.pgn_extract.specs.Public.Listing.{AfterPly, AsRow, IsShownBy, line_field}
use Rattle.pgn_extract.specs.Private.Lines.{is_bare}
use Rattle.pgn_extract.specs.Public.Rows.{IsRow, place_of}
use Rattle.pgn_extract.specs.Private.AnnotationLists.{lists_in}
use Rattle.pgn_extract.specs.Private.Finding.{IsOfGame}
use Rattle.pgn_extract.specs.Private.Lines.{ShowsFields, ShowsParts, ShowsLine, Makes}
use Rattle.pgn_extract.specs.Private.Lines.{MakesLines, line_made, made_line}
use Rattle.pgn_extract.specs.Private.RowGames.{name_of, openings_of}
use Rattle.pgn_extract.specs.Private.RowTexts.{MakesRows, ArePartTexts, columns_of}
use Rattle.pgn_extract.specs.Private.RowTexts.{filled, or_quotes}
use Rattle.pgn_extract.specs.declared.entries.line_maker.LineMaker.{LineMaker}
use Rattle.pgn_extract.specs.declared.entries.line_maker.LineMaker.TheVariants as maker
use Rattle.pgn_extract.specs.declared.entries.row_game.RowGame.{RowGame}
use Rattle.pgn_extract.specs.declared.entries.row_maker.RowMaker.{RowMaker}
use Rattle.pgn_extract.specs.declared.settings.EntryLine.{EntryLine}
use Rattle.pgn_extract.specs.declared.settings.EntryLine.TheVariants.{Marked, InColumns}
use Rattle.pgn_extract.specs.declared.settings.Fields.{Fields}
use Rattle.pgn_extract.proofs.entries.RowTextFacts.{row_is}

-- something after the mark and the ply
pub shows_marked : (lines : LineMaker) (fields : Fields) (text : List ℕ) (aim : Aim) (id : GameId)
    (game : GameText) (before : List State) (P : State) → (own : Option LineId)
    → lines ≡ maker.Fields fields own → Makes lines aim id game
    → ShowsFields fields text aim game before P
    → ShowsLine (AfterPly (line_field own ++ text)) id aim game before P
shows_marked lines fields text aim id game before P own is makes shows replay of rest parts =
    let line : aim.line ≡ Marked fields = makes.line ∙ ap made_line is in
    let number : aim.of_line ≡ own = makes.of_line ∙ ap line_made is in
    subst (λ (l : EntryLine).
    IsShownBy l (place_of aim.name aim.openings id aim.of_line game replay (length before))
    (AfterPly (line_field own ++ text)))
    (sym line)
    (text, shows line replay of rest parts, ap (λ n. AfterPly (line_field n ++ text)) (sym number))

-- the text that a maker of rows makes
abbrev pub made_text : RowMaker → List (List ℕ) → List ℕ
made_text rows values =
    or_quotes rows.row.now.format (filled rows.parts.items values rows.last.items) ++ 10 ∷ []

row_made : (rows : RowMaker) (name : Option (List ℕ)) (openings : Option (List NamedLine))
    (id : GameId) (game : GameText) → MakesRows rows name openings id game
    → (replay : Replay) → IsOfGame game replay → (ply : ℕ) (values : List (List ℕ))
    → ArePartTexts rows.row.now.format (lists_in rows.annotations) (columns_of rows.parts.items)
    replay ply values
    → IsRow rows.row.now (place_of name openings id rows.line game replay ply)
    (made_text rows values)
row_made rows name openings id game makes replay of ply values are =
    let (cells, have, text) = makes replay of ply values are in
    let place = place_of name openings id rows.line game replay ply in
    let row = rows.row.now in (
      cells,
      have,
      ap (λ t. or_quotes row.format t ++ 10 ∷ []) text
          ∙ sym (row_is row.format row.columns.items place cells have),
    )

-- a row
pub shows_row : (lines : LineMaker) (rows : RowMaker) (values : List (List ℕ)) (aim : Aim)
    (id : GameId) (game : GameText) (before : List State) (P : State)
    → lines ≡ maker.Rows rows → Makes lines aim id game
    → ShowsParts rows rows.parts.items values aim game before P
    → ShowsLine (AsRow (made_text rows values)) id aim game before P
shows_row lines rows values aim id game before P is makes shows replay own rest parts =
    let line : aim.line ≡ InColumns rows.row.now = makes.line ∙ ap made_line is in
    let made : MakesRows rows aim.name aim.openings id game =
    subst (λ (l : LineMaker). MakesLines l aim.name aim.openings id game) is makes.of_game in
    let are = shows (ap is_bare line) replay own rest parts in
    let number : aim.of_line ≡ rows.line = makes.of_line ∙ ap line_made is in
    subst (λ (l : EntryLine).
    IsShownBy l (place_of aim.name aim.openings id aim.of_line game replay (length before))
    (AsRow (made_text rows values))) (sym line) (
      made_text rows values,
      subst (λ n. IsRow rows.row.now
          (place_of aim.name aim.openings id n game replay (length before)) (made_text rows values))
          (sym number)
          (row_made rows aim.name aim.openings id game made replay own (length before) values are),
      refl,
    )

-- a maker of the lines of a game makes them under the name and the mark that the game has, and by
-- its lines of openings
pub makes_named : (lines : LineMaker) (own : RowGame) (name : Option (List ℕ))
    (openings : Option (List NamedLine)) (id : GameId) (game : GameText) → name_of own ≡ name
    → openings_of own.source ≡ openings → own.id ≡ id
    → MakesLines lines (name_of own) (openings_of own.source) own.id game
    → MakesLines lines name openings id game
makes_named lines own name openings id game named given marked makes =
    subst (λ n. MakesLines lines n openings id game) named
    (subst (λ o. MakesLines lines (name_of own) o id game) given
    (subst (λ i. MakesLines lines (name_of own) (openings_of own.source) i game) marked makes))
