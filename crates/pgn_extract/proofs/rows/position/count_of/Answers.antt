use Rattle.pgn_extract.proofs.Common.{◌∙◌}
use Rattle.chess.specs.declared.board.man.Man.{Man}
use Rattle.pgn_criteria.proofs.CountFacts.{counted}
use Rattle.pgn_extract.proofs.rows.position.count_of.Goals as goal

pub returns : goal.returns
returns c =
    let man : Man = record { side = c.args.side; kind = c.args.kind } in
    c.count.ensures
    ∙ counted c.args.position.now.men man c.squares_of.result c.squares_of.ensures
