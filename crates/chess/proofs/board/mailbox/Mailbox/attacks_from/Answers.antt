use Rattle.chess.proofs.Common.{cells_men, Reaches}
use Rattle.chess.proofs.board.BoardFacts.{gathered_none, gathered_step}
use Rattle.chess.proofs.board.mailbox.Mailbox.attacks_from.Goals as goal

pub loop-index-init : goal.loop-index-init
loop-index-init c = gathered_none _ c.new-set.result c.new-set.ensures

pub loop-index-preserved : goal.loop-index-preserved
loop-index-preserved c =
    gathered_step (λ s.
    Reaches (cells_men c.args.self.now.cells) c.args.man.side c.args.man.kind c.args.from s)
    c.loop-index.index c.loop-index.set _ c.of_index-target.result c.does_attack.result
    c.loop-index-test.true c.loop-index.invariant
    c.of_index-target.ensures.square c.does_attack.ensures c.insert_if.ensures
