use Rattle.chess.proofs.Common.{CanGo}
use Rattle.chess.proofs.LoopFacts.{fewer, sifted_start, sifted_more, sifted_none}
use Rattle.chess.proofs.position.Position.targets.Goals as goal

pub loop-to-init : goal.loop-to-init
loop-to-init g c =
    sifted_start (λ t. CanGo c.args.self.now c.args.square t) c.candidates-left.result
    c.new-found.result c.candidates-left.ensures c.new-found.ensures

pub loop-to-preserved : goal.loop-to-preserved
loop-to-preserved g c =
    sifted_more (λ t. CanGo c.args.self.now c.args.square t) c.loop-to.left c.take_first.new.self
    c.loop-to.found
    c.insert_if.new.self c.in-Some.to c.can_go.result c.loop-to.invariant
    (rw c.in-Some.is at c.take_first.ensures)
    c.can_go.ensures c.insert_if.ensures

pub returns : goal.returns
returns g c =
    sifted_none (λ t. CanGo c.args.self.now c.args.square t) c.loop-to.left c.take_first.new.self
    c.loop-to.found
    c.loop-to.invariant (rw c.in_default.is at c.take_first.ensures)

pub loop-to-smaller : goal.loop-to-smaller
loop-to-smaller g c =
    fewer c.loop-to.left c.take_first.new.self c.in-Some.to
    (rw c.in-Some.is at c.take_first.ensures)
