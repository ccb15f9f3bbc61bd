use Rattle.chess.proofs.Common.{None, IsNear}
use Rattle.chess.proofs.LoopFacts.{fewer, left_start, left_more}
use Rattle.chess.proofs.position.Position.king_escapes.Goals as goal

pub loop-to-init : goal.loop-to-init
loop-to-init g c =
    left_start (IsNear c.king-king.result) (λ s. ⊥) c.squares_near-left.result (λ s on clash.
    absurd clash) (λ s on in_set. ((c.squares_near-left.ensures s).0 in_set).1)

pub loop-to-preserved : goal.loop-to-preserved
loop-to-preserved g c =
    left_more (IsNear c.king-king.result) (λ s.
    ⊥) c.loop-to.left c.take_first.new.self c.in-Some.to c.loop-to.invariant
    (rw c.in-Some.is at c.take_first.ensures)
    (λ clash. clash)

pub king_steps-requires : goal.king_steps-requires
king_steps-requires g c =
    let capture_square = c.in-Some.ensures in
    record {
      king = rw (← c.side.ensures) c.king-king.ensures;
      near = c.loop-to.invariant.within c.in-Some.to capture_square.0 capture_square.1;
    }

pub returns-then-king_steps : goal.returns-then-king_steps
returns-then-king_steps g c =
    λ t. (c.king-king.result, c.in-Some.to, (None, None, c.king_steps.ensures c.if-king_steps.true))

pub loop-to-smaller : goal.loop-to-smaller
loop-to-smaller g c =
    fewer c.loop-to.left c.take_first.new.self c.in-Some.to
    (rw c.in-Some.is at c.take_first.ensures)
