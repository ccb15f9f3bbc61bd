use Rattle.std.proofs.Common.{◌≡◌, ◌++◌, take}
use Rattle.std.specs.Prelude.{◌==◌}
use Rattle.pgn_extract.specs.Private.RowTexts.{names_text}
use Rattle.pgn_extract.proofs.rows.format.push_names.Given as goal

abbrev pub invariant-loop-column : goal.invariant-loop-column
invariant-loop-column l = record {
  first : l.is_first ≡ (l.column-index == 0);
  text : l.text.items ≡ l.fn.text.items
      ++ names_text l.row.format (take l.column-index l.row.columns.items);
}
