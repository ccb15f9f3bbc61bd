-- The rows of a game, column by column.
use Rattle.std.proofs.Common.{◌≡◌, ℕ, true, false, List, [], ◌∷◌, ◌++◌, refl, sym, ap, ◌∙◌}
use Rattle.std.proofs.Common.{◌+◌, ◌<◌, subst, append_assoc, append-nil, arith, get_or, length}
use Rattle.std.proofs.Common.{length-append}
use Rattle.std.proofs.Common.{take}
use Rattle.std.specs.Prelude.{Option, zero, suc, ◌==◌, if◌then◌else◌}
use Rattle.std.proofs.lemmas.List.{map-append, take_more}
use Rattle.chess.specs.Public.Positions.{State}
use Rattle.pgn_text.specs.Public.GameTexts.{GameText}
use Rattle.pgn_text.specs.Public.Games.{Item}
use Rattle.pgn_game.specs.Public.Openings.{NamedLine}
use Rattle.pgn_game.specs.Public.Replays.{Replay}
use Rattle.pgn_extract.specs.Public.Aims.{Aim}
use Rattle.pgn_extract.specs.Private.Lines.{Where, ShowsPart, ShowsParts}
use Rattle.pgn_extract.specs.Public.Annotations.{annotation_lists, IsAnnotationCell}
use Rattle.pgn_extract.specs.Public.Columns.{is_number_of_ply, is_number_column}
use Rattle.pgn_extract.specs.Public.Columns.{shows_annotations}
use Rattle.pgn_extract.specs.Public.Rows.{RowPlace, IsCell, AreCells, place_of}
use Rattle.pgn_extract.specs.Private.Finding.{IsOfGame}
use Rattle.pgn_extract.specs.Private.AnnotationLists.{annotation_value, lists_in}
use Rattle.pgn_extract.specs.Private.RowTexts.{IsPartText, ArePartTexts, column_of, value_text}
use Rattle.pgn_extract.specs.Private.RowTexts.{part_quote}
use Rattle.pgn_extract.specs.Private.RowTexts.{columns_of}
use Rattle.pgn_extract.specs.Private.RowTexts.{filled, keyed_text, later_text, cells_text, gap}
use Rattle.pgn_extract.specs.Private.RowTexts.{front}
use Rattle.pgn_extract.specs.Private.RowTexts.{back, MakesCells, MakesRow, EndsPart, AddsCell}
use Rattle.pgn_extract.specs.Private.RowTexts.{key_text, gap_after}
use Rattle.pgn_extract.specs.declared.entries.row_maker.PartColumn.{PartColumn}
use Rattle.pgn_extract.specs.declared.entries.row_maker.PartColumn.TheVariants as kind
use Rattle.pgn_extract.specs.declared.entries.row_maker.RowMaker.{RowMaker}
use Rattle.pgn_extract.specs.declared.entries.row_maker.RowPart.{RowPart}
use Rattle.pgn_extract.specs.declared.marks.GameId.{GameId}
use Rattle.pgn_extract.specs.declared.marks.LineId.{LineId}
use Rattle.pgn_extract.specs.declared.rows.column.Column.{Column}
use Rattle.pgn_extract.specs.declared.rows.column.Format.{Format}
use Rattle.pgn_extract.proofs.entries.AnnotationFacts.{annotation_is}
use Rattle.pgn_extract.proofs.entries.PlainValues.{plain_text, other_byte}

-- what stands after all parts stands at the end
pub filled_more : (parts : List RowPart) (values : List (List ℕ)) (last more : List ℕ)
    → filled parts values (last ++ more) ≡ filled parts values last ++ more
filled_more [] values last more = refl
filled_more (part ∷ parts) [] last more = refl
filled_more (part ∷ parts) (value ∷ values) last more =
    ap (λ t. part.before.items ++ (value ++ t)) (filled_more parts values last more)
    ∙ ap (λ t. part.before.items ++ t) (sym (append_assoc value (filled parts values last) more))
    ∙ sym (append_assoc part.before.items (value ++ filled parts values last) more)

-- one more part
pub filled_push : (parts : List RowPart) (part : RowPart) (values : List (List ℕ))
    (value last : List ℕ) → length values ≡ length parts
    → filled (parts ++ part ∷ []) (values ++ value ∷ []) last
    ≡ filled parts values (part.before.items ++ (value ++ last))
filled_push [] part [] value last size = refl
filled_push [] part (own ∷ values) value last size = absurd (omega arith)
filled_push (first ∷ parts) part [] value last size = absurd (omega arith)
filled_push (first ∷ parts) part (own ∷ values) value last size =
    ap (λ t. first.before.items ++ (own ++ t))
    (filled_push parts part values value last (omega arith))

-- parts have as many values
sizes : (format : Format) (lists : List (List Item)) (parts : List RowPart) (replay : Replay)
    (ply : ℕ) (values : List (List ℕ))
    → ArePartTexts format lists (columns_of parts) replay ply values
    → length values ≡ length parts
sizes format lists [] replay ply values none = rw none refl
sizes format lists (part ∷ parts) replay ply values (own, more, are, is, others) =
    let size = sizes format lists parts replay ply more others in rw are (omega arith)

-- the values of some columns and one more
pub values_cut : (format : Format) (lists : List (List Item)) (columns : List PartColumn)
    (column : PartColumn) (replay : Replay) (ply : ℕ)
    (values : List (List ℕ)) → ArePartTexts format lists (columns ++ column ∷ []) replay ply values
    → (before : List (List ℕ)) × (value : List ℕ)
    × (values ≡ before ++ value ∷ []) × ArePartTexts format lists columns replay ply before
    × IsPartText format lists column replay ply value
values_cut format lists [] column replay ply values (value, more, are, is, none) =
    ([], value, are ∙ ap (λ t. value ∷ t) none, refl, is)
values_cut format lists (first ∷ columns) column replay ply values (own, more, are, is, others) =
    let cut = values_cut format lists columns column replay ply more others in (
      own ∷ cut.0,
      cut.1,
      are ∙ ap (λ t. own ∷ t) cut.2,
      (own, cut.0, refl, is, cut.3),
      cut.4,
    )

-- A column of the game: its value is known.
pub adds_known : (old new : RowMaker) (name : Option (List ℕ)) (openings : Option (List NamedLine))
    (id : GameId) (line : Option LineId) (game : GameText) (column : Column) (cell mid : List ℕ)
    → new.parts.items ≡ old.parts.items
    → mid ≡ old.last.items ++ key_text old.row.now.format column
    → ((replay : Replay) → IsOfGame game replay → (ply : ℕ)
    → IsCell column (place_of name openings id line game replay ply) cell)
    → (text : List ℕ) → key_text old.row.now.format column ++ text
    ≡ keyed_text old.row.now.format column cell
    → new.last.items ≡ mid ++ text → AddsCell old new name openings id line game column
adds_known old new name openings id line game column cell mid parts key is text whole last replay of
    ply values are = (
      values,
      cell,
      subst (λ ps. ArePartTexts old.row.now.format (lists_in old.annotations) (columns_of ps) replay
          ply values) parts are,
      is replay of ply,
      ap (λ ps. filled ps values new.last.items) parts
          ∙ ap (filled old.parts.items values)
          (last ∙ ap (λ t. t ++ text) key
          ∙ append_assoc old.last.items (key_text old.row.now.format column) text)
          ∙ filled_more old.parts.items values old.last.items
          (key_text old.row.now.format column ++ text)
          ∙ ap (λ t. filled old.parts.items values old.last.items ++ t) whole,
    )

-- What is written of a ply for a column is the text of its cell, between quotes where it has any.
cell_of : (format : Format) (lists : List (List Item)) (column : PartColumn)
    (name : Option (List ℕ)) (openings : Option (List NamedLine)) (id : GameId)
    (line : Option LineId) (game : GameText) (replay : Replay) (ply : ℕ) (text : List ℕ)
    → (shows_annotations (column_of column) ≡ true → lists ≡ annotation_lists game.elements)
    → IsPartText format lists column replay ply text
    → (cell : List ℕ)
    × IsCell (column_of column) (place_of name openings id line game replay ply) cell
    × (part_quote format column ++ (text ++ part_quote format column)
    ≡ value_text format (is_number_column (column_of column)) cell)
cell_of format lists (kind.OfPly own) name openings id line game replay ply text known (is, plain) =
    (text, is, plain_text format (is_number_of_ply own) text plain)
cell_of format lists (kind.OfAnnotations own) name openings id line game replay ply text known is
    = (
      annotation_value own (get_or lists ply []),
      subst (λ (all : List (List Item)). IsAnnotationCell own (get_or all ply [])
          (annotation_value own (get_or lists ply []))) (known refl)
          (annotation_is own (get_or lists ply [])),
      append-nil text ∙ is,
    )

-- A column of the ply: its value follows.
module _ (old mid new : RowMaker) (name : Option (List ℕ)) (openings : Option (List NamedLine))
    (id : GameId) (line : Option LineId) (game : GameText) (column : PartColumn)
    (row : mid.row.now ≡ old.row.now)
    (parts : mid.parts.items ≡ old.parts.items) (key : mid.last.items ≡ old.last.items
    ++ key_text old.row.now.format (column_of column)) (ends : EndsPart mid new column)
    (known : shows_annotations (column_of column) ≡ true
    → lists_in old.annotations ≡ annotation_lists game.elements) where
  abbrev quote : List ℕ
  quote = part_quote old.row.now.format column

  abbrev key_of : List ℕ
  key_of = key_text old.row.now.format (column_of column)

  quoted : part_quote mid.row.now.format column ≡ quote
  quoted = ap (λ r. part_quote r.format column) row

  all_parts : new.parts.items ≡ old.parts.items ++ ends.part ∷ []
  all_parts = ends.parts ∙ ap (λ ps. ps ++ ends.part ∷ []) parts

  columns_are : columns_of new.parts.items ≡ columns_of old.parts.items ++ column ∷ []
  columns_are =
      ap columns_of all_parts
      ∙ map-append (λ part. part.column) old.parts.items (ends.part ∷ [])
      ∙ ap (λ c. columns_of old.parts.items ++ c ∷ []) ends.of_column

  before_is : ends.part.before.items ≡ old.last.items ++ (key_of ++ quote)
  before_is =
      ends.before ∙ ap (λ q. mid.last.items ++ q) quoted ∙ ap (λ t. t ++ quote) key
      ∙ append_assoc old.last.items key_of quote

  last_is : new.last.items ≡ quote
  last_is = ends.after ∙ quoted

  around : (value cell : List ℕ)
      → quote ++ (value ++ quote)
      ≡ value_text old.row.now.format (is_number_column (column_of column)) cell
      → ends.part.before.items ++ (value ++ new.last.items)
      ≡ old.last.items ++ keyed_text old.row.now.format (column_of column) cell
  around value cell is =
      ap (λ t. t ++ (value ++ new.last.items)) before_is
      ∙ append_assoc old.last.items (key_of ++ quote) (value ++ new.last.items)
      ∙ ap (λ t. old.last.items ++ t)
      (append_assoc key_of quote (value ++ new.last.items)
      ∙ ap (λ t. key_of ++ (quote ++ (value ++ t))) last_is
      ∙ ap (λ t. key_of ++ t) is)

  pub adds_shown : AddsCell old new name openings id line game (column_of column)
  adds_shown replay of ply values are =
      let format = old.row.now.format in
      let lists = lists_in old.annotations in
      let (before, value, all, some, own) =
      values_cut format lists (columns_of old.parts.items) column replay ply values
      (subst (λ cs. ArePartTexts format lists cs replay ply values) columns_are are) in
      let (cell, is, between) =
      cell_of format lists column name openings id line game replay ply value known own in (
        before,
        cell,
        some,
        is,
        ap (λ ps. filled ps values new.last.items) all_parts
            ∙ ap (λ vs. filled (old.parts.items ++ ends.part ∷ []) vs new.last.items) all
            ∙ filled_push old.parts.items ends.part before value new.last.items
            (sizes format lists old.parts.items replay ply before some)
            ∙ ap (filled old.parts.items before) (around value cell between)
            ∙ filled_more old.parts.items before old.last.items
            (keyed_text format (column_of column) cell),
      )

-- The cells of some columns and one more.
cells_push : (columns : List Column) (column : Column) (place : RowPlace) (cells : List (List ℕ))
    (cell : List ℕ) → AreCells columns place cells → IsCell column place cell
    → AreCells (columns ++ column ∷ []) place (cells ++ cell ∷ [])
cells_push [] column place cells cell none is = rw none (cell, [], refl, is, refl)
cells_push (first ∷ columns) column place cells cell (own, more, are, has, others) is =
    rw are (
      own,
      more ++ cell ∷ [],
      refl,
      has,
      cells_push columns column place more cell others is,
    )

later_push : (format : Format) (columns : List Column) (column : Column) (place : RowPlace)
    (cells : List (List ℕ)) (cell : List ℕ) → AreCells columns place cells
    → later_text format (columns ++ column ∷ []) (cells ++ cell ∷ [])
    ≡ later_text format columns cells ++ (gap format ++ keyed_text format column cell)
later_push format [] column place cells cell none =
    rw none (ap (λ t. gap format ++ t) (append-nil (keyed_text format column cell)))
later_push format (first ∷ columns) column place cells cell (own, more, are, has, others) =
    rw are (ap (λ t. gap format ++ (keyed_text format first own ++ t))
    (later_push format columns column place more cell others)
    ∙ ap (λ t. gap format ++ t)
    (sym (append_assoc (keyed_text format first own) (later_text format columns more)
    (gap format ++ keyed_text format column cell)))
    ∙ sym (append_assoc (gap format) (keyed_text format first own
    ++ later_text format columns more) (gap format ++ keyed_text format column cell)))

text_push : (format : Format) (columns : List Column) (column : Column) (place : RowPlace)
    (cells : List (List ℕ)) (cell : List ℕ) → AreCells columns place cells
    → cells_text format (columns ++ column ∷ []) (cells ++ cell ∷ [])
    ≡ cells_text format columns cells
    ++ (gap_after format columns ++ keyed_text format column cell)
text_push format [] column place cells cell none =
    rw none (append-nil (keyed_text format column cell))
text_push format (first ∷ columns) column place cells cell (own, more, are, has, others) =
    rw are (ap (λ t. keyed_text format first own ++ t)
    (later_push format columns column place more cell others)
    ∙ sym (append_assoc (keyed_text format first own) (later_text format columns more)
    (gap format ++ keyed_text format column cell)))

-- one more column
pub makes_more : (format : Format) (lists : List (List Item)) (parts : List RowPart)
    (last : List ℕ) (mid new : RowMaker)
    (columns : List Column) (column : Column) (name : Option (List ℕ))
    (openings : Option (List NamedLine)) (id : GameId) (line : Option LineId) (game : GameText)
    → MakesCells format lists columns parts last name openings id line game
    → mid.row.now.format ≡ format → lists_in mid.annotations ≡ lists → mid.parts.items ≡ parts
    → mid.last.items ≡ last ++ gap_after format columns
    → AddsCell mid new name openings id line game column
    → MakesCells format lists (columns ++ column ∷ []) new.parts.items new.last.items name openings
    id line game
makes_more format lists parts last mid new columns column name openings id line game so_far row kept
    same grown adds replay of ply values are =
    let given : ArePartTexts mid.row.now.format (lists_in mid.annotations)
    (columns_of new.parts.items) replay ply values =
    subst (λ (f : Format). ArePartTexts f (lists_in mid.annotations) (columns_of new.parts.items)
    replay ply values) (sym row)
    (subst (λ (ls : List (List Item)). ArePartTexts format ls (columns_of new.parts.items) replay
    ply values) (sym kept) are) in
    let (before, cell, some, is, text) = adds replay of ply values given in
    let here : ArePartTexts format lists (columns_of parts) replay ply before =
    subst (λ (ps : List RowPart). ArePartTexts format lists (columns_of ps) replay ply before) same
    (subst (λ (ls : List (List Item)). ArePartTexts format ls (columns_of mid.parts.items) replay
    ply before) kept
    (subst (λ (f : Format). ArePartTexts f (lists_in mid.annotations)
    (columns_of mid.parts.items) replay ply before) row some)) in
    let (cells, have, made) = so_far replay of ply before here in
    let place = place_of name openings id line game replay ply in
    let keyed = keyed_text format column cell in
    let between = gap_after format columns in (
      cells ++ cell ∷ [],
      cells_push columns column place cells cell have is,
      text ∙ ap (λ f. filled mid.parts.items before mid.last.items ++ keyed_text f column cell) row
          ∙ ap (λ (ps : List RowPart). filled ps before mid.last.items ++ keyed) same
          ∙ ap (λ t. filled parts before t ++ keyed) grown
          ∙ ap (λ t. t ++ keyed) (filled_more parts before last between
          ∙ ap (λ t. t ++ between) made)
          ∙ append_assoc (front format ++ cells_text format columns cells) between keyed
          ∙ append_assoc (front format) (cells_text format columns cells) (between ++ keyed)
          ∙ ap (λ t. front format ++ t)
          (sym (text_push format columns column place cells cell have)),
    )

-- what stands before the cell of a column at its place
pub gap_is : (format : Format) (columns : List Column) (i : ℕ) → i < length columns
    → (if i == 0 then [] else gap format) ≡ gap_after format (take i columns)
gap_is format [] i within = absurd (omega arith)
gap_is format (column ∷ columns) zero within = refl
gap_is format (column ∷ columns) (suc i) within =
    let later : (suc i == 0) ≡ false = other_byte (suc i) 0 (λ is. omega arith) in
    rw later refl

-- all columns
pub makes_all : (format : Format) (lists : List (List Item)) (columns : List Column)
    (parts : List RowPart)
    (last all : List ℕ) (name : Option (List ℕ)) (openings : Option (List NamedLine)) (id : GameId)
    (line : Option LineId) (game : GameText)
    → MakesCells format lists columns parts last name openings id line game
    → all ≡ last ++ back format
    → MakesRow format lists columns parts all name openings id line game
makes_all format lists columns parts last all name openings id line game made ends replay of ply
    values are =
    let (cells, have, text) = made replay of ply values are in (
      cells,
      have,
      ap (filled parts values) ends ∙ filled_more parts values last (back format)
          ∙ ap (λ t. t ++ back format) text
          ∙ append_assoc (front format) (cells_text format columns cells) (back format),
    )

-- The row of a ply, part by part.

-- the first parts and the next one
pub part_taken : {X : Type 0} (parts : List X) (i : ℕ) (part : X) → i < length parts
    → part ≡ get_or parts i part → take (i + 1) parts ≡ take i parts ++ part ∷ []
part_taken parts i part within is =
    take_more parts i part within ∙ ap (λ p. take i parts ++ p ∷ []) (sym is)

values_push : (format : Format) (lists : List (List Item)) (columns : List PartColumn)
    (column : PartColumn) (replay : Replay) (ply : ℕ)
    (values : List (List ℕ)) (value : List ℕ) → ArePartTexts format lists columns replay ply values
    → IsPartText format lists column replay ply value
    → ArePartTexts format lists (columns ++ column ∷ []) replay ply (values ++ value ∷ [])
values_push format lists [] column replay ply values value none is =
    rw none (value, [], refl, is, refl)
values_push format lists (first ∷ columns) column replay ply values value
    (own, more, are, has, others) is =
    rw are (
      own,
      more ++ value ∷ [],
      refl,
      has,
      values_push format lists columns column replay ply more value others is,
    )

-- one more value is shown
pub shows_more : (rows : RowMaker) (parts : List RowPart) (part : RowPart) (values : List (List ℕ))
    (value : List ℕ) (At : Aim → GameText → List State → State → Type 0)
    → Where At (ShowsParts rows parts values) → Where At (ShowsPart rows part.column value)
    → Where At (ShowsParts rows (parts ++ part ∷ []) (values ++ value ∷ []))
shows_more rows parts part values value At shown own aim game before P at has replay of rest is =
    let format = rows.row.now.format in
    let lists = lists_in rows.annotations in
    subst (λ cs. ArePartTexts format lists cs replay (length before) (values ++ value ∷ []))
    (sym (map-append (λ p. p.column) parts (part ∷ [])))
    (values_push format lists (columns_of parts) part.column replay (length before) values value
    (shown aim game before P at has replay of rest is)
    (own aim game before P at has replay of rest is))

-- and written
pub writes_more : (parts : List RowPart) (part : RowPart) (values : List (List ℕ))
    (value old text mid new : List ℕ) → length values ≡ length parts
    → text ≡ old ++ filled parts values [] → mid ≡ text ++ part.before.items
    → new ≡ mid ++ value
    → new ≡ old ++ filled (parts ++ part ∷ []) (values ++ value ∷ []) []
writes_more parts part values value old text mid new size so_far first last =
    let before = part.before.items in
    let own = filled parts values [] in
    last ∙ ap (λ t. t ++ value) (first ∙ ap (λ t. t ++ before) so_far)
    ∙ append_assoc (old ++ own) before value ∙ append_assoc old own (before ++ value)
    ∙ ap (λ t. old ++ t)
    (ap (λ t. own ++ (before ++ t)) (sym (append-nil value))
    ∙ sym (filled_more parts values [] (before ++ (value ++ [])))
    ∙ sym (filled_push parts part values value [] size))

pub size_more : (parts : List RowPart) (part : RowPart) (values : List (List ℕ)) (value : List ℕ)
    → length values ≡ length parts → length (values ++ value ∷ []) ≡ length (parts ++ part ∷ [])
size_more parts part values value size =
    length-append values (value ∷ []) ∙ ap (λ n. n + 1) size
    ∙ sym (length-append parts (part ∷ []))
