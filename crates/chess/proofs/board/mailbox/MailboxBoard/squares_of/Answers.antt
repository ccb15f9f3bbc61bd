use Rattle.chess.proofs.Common.{◌≡◌, Some, man_at, cells_men}
use Rattle.chess.proofs.board.BoardFacts.{gathered_none, gathered_step}
use Rattle.chess.proofs.board.mailbox.MailboxBoard.squares_of.Goals as goal

pub loop-index-init : goal.loop-index-init
loop-index-init c = gathered_none _ c.new-set.result c.new-set.ensures

pub loop-index-preserved : goal.loop-index-preserved
loop-index-preserved c =
    gathered_step (λ s. man_at (cells_men c.args.self.now.cells) s ≡ Some c.args.man)
    c.loop-index.index c.loop-index.set _ c.of_index-square.result c.holds.result
    c.loop-index-test.true c.loop-index.invariant
    c.of_index-square.ensures.square c.holds.ensures c.insert_if.ensures
