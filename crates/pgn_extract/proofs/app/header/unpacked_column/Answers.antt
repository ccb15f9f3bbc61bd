use Rattle.std.specs.List.{find}
use Rattle.pgn_extract.proofs.Common.{ap, ◌∙◌}
use Rattle.pgn_extract.specs.Public.Columns.{shows_annotations}
use Rattle.pgn_extract.proofs.rows.ColumnFacts.{left_out}
use Rattle.pgn_extract.proofs.app.header.unpacked_column.Goals as goal

pub returns : goal.returns
returns c =
    left_out shows_annotations c.of_annotations.result c.args.row.now.columns.items _
    (λ none packed. none)
    (c.of_annotations.ensures ∙ ap (find shows_annotations) c.deref.ensures.value)
