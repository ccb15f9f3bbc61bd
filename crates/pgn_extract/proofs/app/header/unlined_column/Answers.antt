use Rattle.std.specs.List.{find}
use Rattle.pgn_extract.proofs.Common.{ap, ◌∙◌}
use Rattle.pgn_extract.specs.Public.Columns.{shows_opening}
use Rattle.pgn_extract.proofs.rows.ColumnFacts.{left_out}
use Rattle.pgn_extract.proofs.app.header.unlined_column.Goals as goal

pub returns : goal.returns
returns c =
    left_out shows_opening c.of_openings.result c.args.row.now.columns.items _
    (λ none given. none)
    (c.of_openings.ensures ∙ ap (find shows_opening) c.deref.ensures.value)
