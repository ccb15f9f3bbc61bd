use Rattle.pgn_game.proofs.Common.{refl, err_from_is_err_and}
use Rattle.pgn_game.proofs.exports.game_line.push_uci.Goals as goal

pub returns-in_err-m-clause-fault : goal.returns-in_err-m-clause-fault
returns-in_err-m-clause-fault c =
    let p = err_from_is_err_and c.from_residual.result c.from_residual.ensures.1 in
    rw (p.1, p.2) (c.in_err-m.ensures c.args.walk.now.plies refl)
