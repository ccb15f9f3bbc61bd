use Rattle.std.proofs.Common.{sym, subst}
use Rattle.pgn_extract.specs.Public.PositionCells.{IsCheckText}
use Rattle.pgn_extract.proofs.PositionTexts.{sign_is}
use Rattle.pgn_extract.proofs.rows.position.check_sign.Goals as goal

pub returns : goal.returns
returns c =
    let P = c.args.position.now in
    subst (IsCheckText P) (sym c.sign_of.ensures)
    (sign_is P c.in_check.result c.has_move.result c.in_check.ensures c.has_move.ensures)
