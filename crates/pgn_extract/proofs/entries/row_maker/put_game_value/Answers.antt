use Rattle.pgn_extract.proofs.Common.{sym, subst, on_ok_weaker}
use Rattle.pgn_extract.specs.Private.RowGames.{name_of, openings_of}
use Rattle.pgn_extract.specs.Public.Rows.{IsGameCell, place_of}
use Rattle.pgn_extract.specs.declared.rows.column.GameColumn.{GameColumn}
use Rattle.pgn_extract.proofs.entries.row_maker.put_game_value.Goals as goal

pub returns-in-OpeningPly : goal.returns-in-OpeningPly
returns-in-OpeningPly c =
    let game = c.args.game in
    on_ok_weaker c.put_opening_ply.result
    (λ put text own replay of ply. subst (λ (column : GameColumn).
    IsGameCell column
    (place_of (name_of game) (openings_of game.source) game.id game.line text replay ply)
    c.put_opening_ply.new.own.items) (sym c.in-OpeningPly.is) (put text own replay of))
    c.put_opening_ply.ensures
