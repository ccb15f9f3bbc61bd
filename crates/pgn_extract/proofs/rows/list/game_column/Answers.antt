use Rattle.pgn_extract.proofs.rows.ColumnFacts.{no_other}
use Rattle.pgn_extract.proofs.rows.list.game_column.Goals as goal

pub returns : goal.returns
returns c =
    no_other c.plain_game_column.result c.args.name.now
    (λ is. let yes = c.is_opening_ply.ensures.1 is in let no = c.if-is_opening_ply.false in cc)
    c.plain_game_column.ensures
