use Rattle.chess.proofs.Common.{◌≡◌, true, false, CanGo}
use Rattle.chess.proofs.PlaceFacts.{true_not_false}
use Rattle.chess.proofs.LoopFacts.{fewer, left_more, left_none}
use Rattle.chess.proofs.position.Position.can_leave.Goals as goal

pub loop-to-preserved : goal.loop-to-preserved
loop-to-preserved g c =
    left_more (λ t. Unit {0}) (λ t.
    CanGo c.args.self.now c.args.from t) c.loop-to.left c.take_first.new.self c.in-Some.to
    c.loop-to.invariant
    (rw c.in-Some.is at c.take_first.ensures)
    (λ goes. true_not_false c.can_go.result (c.can_go.ensures.1 goes) c.if-can_go.false)

pub returns : goal.returns
returns g c = (
  (λ e. let f : false ≡ true = e in absurd (cc)),
  (λ h. absurd (left_none (λ t. Unit {0}) (λ t.
      CanGo c.args.self.now c.args.from t) c.loop-to.left c.take_first.new.self
      c.loop-to.invariant (rw c.in_default.is at c.take_first.ensures)
      h.0 h.1 h.2)),
)

pub loop-to-smaller : goal.loop-to-smaller
loop-to-smaller g c =
    fewer c.loop-to.left c.take_first.new.self c.in-Some.to
    (rw c.in-Some.is at c.take_first.ensures)
