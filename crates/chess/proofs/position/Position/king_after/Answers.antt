use Rattle.chess.proofs.PlaceFacts.{true_not_false}
use Rattle.chess.proofs.KingFacts.{king_stays, king_moves}
use Rattle.chess.proofs.position.Position.king_after.Goals as goal

pub returns-then-is : goal.returns-then-is
returns-then-is g c =
    king_moves c.args.self.now c.args.m.now
    (record { sound = c.invariant.ensures; rules = c.requires })
    c.args.side c.king-king.result c.king-king.ensures (c.is.ensures.0 c.if-is.true)

pub returns-else-is : goal.returns-else-is
returns-else-is g c =
    king_stays c.args.self.now c.args.m.now
    (record { sound = c.invariant.ensures; rules = c.requires })
    c.args.side c.king-king.result c.king-king.ensures (λ e.
    true_not_false c.is.result (c.is.ensures.1 e) c.if-is.false)
