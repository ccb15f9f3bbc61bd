use Rattle.pgn_game.proofs.Common.{arith, common_steps, on_ok_weaker}
use Rattle.pgn_game.proofs.exports.exporter.put_parts.Goals as goal

pub returns-clause-text : goal.returns-clause-text
returns-clause-text c =
    let (head, tags, head_is) = c.in_ok-put_tags.ensures.lines in
    on_ok_weaker c.put_end-2.result (λ ended. (head, tags, grind (arith, common_steps)))
    c.put_end-2.ensures.ended
