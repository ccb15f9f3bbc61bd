use Rattle.std.proofs.Common.{[], append-nil}
use Rattle.pgn_text.proofs.PlainWalk.{with_none}
use Rattle.pgn_text.proofs.game.pass_plain.Goals as goal

pub returns-else-at-block : goal.returns-else-at-block
returns-else-at-block g c = (
  [],
  with_none c.args.block.now c.args.at c.requires,
  λ tags items kept. rw (append-nil items) kept,
)
