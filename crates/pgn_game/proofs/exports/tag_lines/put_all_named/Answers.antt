use Rattle.pgn_game.proofs.Common.{◌++◌, arith, common_steps}
use Rattle.pgn_game.proofs.exports.TagLineFacts.{lines_push, names_more}
use Rattle.pgn_game.proofs.exports.tag_lines.put_all_named.Goals as goal

pub loop-name-preserved : goal.loop-name-preserved
loop-name-preserved c =
    let so_far = c.loop-name.invariant in
    let put = c.in_ok-put_named.ensures.line in (
      so_far.0 ++ put.0,
      rw (← (names_more c.args.names.now c.loop-name.name-index _ (omega arith))) at (lines_push
          c.args.game.now.tags c.args.game.now.result _ so_far.0 _ put.0 so_far.1 put.1),
      grind (arith, common_steps),
    )
