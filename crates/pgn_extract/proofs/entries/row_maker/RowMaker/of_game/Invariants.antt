use Rattle.std.proofs.Common.{◌≡◌, take, true}
use Rattle.std.specs.List.{list_any}
use Rattle.std.specs.Prelude.{◌==◌}
use Rattle.pgn_text.specs.Public.GameTexts.{GameText}
use Rattle.pgn_extract.specs.Public.Annotations.{annotation_lists}
use Rattle.pgn_extract.specs.Public.Columns.{shows_annotations}
use Rattle.pgn_extract.specs.Private.AnnotationLists.{lists_in}
use Rattle.pgn_extract.specs.Private.RowGames.{IsGameIn, name_of, openings_of}
use Rattle.pgn_extract.specs.Private.RowTexts.{MakesCells}
use Rattle.pgn_extract.proofs.entries.row_maker.RowMaker.of_game.Given as goal

abbrev pub invariant-loop-column : goal.invariant-loop-column
invariant-loop-column l = record {
  row : l.maker.row.now ≡ l.row;
  line : l.maker.line ≡ l.game.line;
  first : l.is_first ≡ (l.column-index == 0);
  known : (list_any shows_annotations l.row.columns.items ≡ true
      → (text : GameText) → IsGameIn l.game.source text
      → lists_in l.maker.annotations ≡ annotation_lists text.elements);
  made : ((text : GameText) → IsGameIn l.game.source text
      → MakesCells l.row.format (lists_in l.maker.annotations)
      (take l.column-index l.row.columns.items) l.maker.parts.items l.maker.last.items
      (name_of l.game) (openings_of l.game.source) l.game.id l.game.line text);
}
