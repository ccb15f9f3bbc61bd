use Rattle.std.proofs.Common.{◌<◌, ◌^◌, rules}
use Rattle.chess.proofs.BitFacts.{cleared_more}
use Rattle.chess.proofs.board.bits.clear.Goals as goal

pub loop-row-preserved : goal.loop-row-preserved
loop-row-preserved c =
    let fits : c.args.squares < 2 ^ 64 = search rules in
    cleared_more c.args.words.now c.loop-row.words c.loop-row.row c.args.squares fits
    c.loop-row-test.true c.loop-row.invariant
