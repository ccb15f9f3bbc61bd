use Rattle.std.proofs.Common.{arith}
use Rattle.pgn_text.proofs.error.FrontLengths.{word_end}
use Rattle.pgn_text.proofs.error.error_position.common.Goals as goal

pub returns-else-count-word : goal.returns-else-count-word
returns-else-count-word c =
    omega (
      arith,
      c.loop-count.invariant.so_far,
      word_end c.args.word.now c.args.text.now c.loop-count.count c.if-count-word.false,
    )
