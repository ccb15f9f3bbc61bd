use Rattle.std.specs.Prelude.{None, codes}
use Rattle.pgn_game.proofs.Common.{subst, GameText}
use Rattle.pgn_text.specs.Public.GameTexts.{IsRetagged}
use Rattle.pgn_game.proofs.exports.LineTags.{unfinished_is}
use Rattle.pgn_game.proofs.exports.lines.unfinished_head.Goals as goal

pub returns : goal.returns
returns c =
    let head = c.in_ok-head.head in
    unfinished_is c.args.game.now head c.with_result-head.result c.invariant.ensures
    c.invariant-2.ensures
    (subst (λ (game : GameText). IsRetagged (codes "Result") None game head)
    c.in_ok-beginning.ensures c.in_ok-head.ensures)
    c.with_result-head.ensures
