use Rattle.chess.proofs.Common.{cells_men, IsAttacker}
use Rattle.chess.proofs.board.BoardFacts.{gathered_none, gathered_step}
use Rattle.chess.proofs.board.mailbox.MailboxBoard.attackers_from.Goals as goal

pub loop-index-init : goal.loop-index-init
loop-index-init c = gathered_none _ c.new-set.result c.new-set.ensures

pub loop-index-preserved : goal.loop-index-preserved
loop-index-preserved c =
    gathered_step
    (IsAttacker (cells_men c.args.self.now.cells) c.args.man c.args.target c.args.among)
    c.loop-index.index c.loop-index.set _ c.of_index-square.result c.is_attacker.result
    c.loop-index-test.true c.loop-index.invariant
    c.of_index-square.ensures.square c.is_attacker.ensures c.insert_if.ensures
