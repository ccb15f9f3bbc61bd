use Rattle.chess.proofs.PlaceFacts.{true_not_false}
use Rattle.chess.proofs.WayFacts.{becomes_knight, can_become_knight}
use Rattle.chess.proofs.position.Position.can_promote.Goals as goal

pub returns : goal.returns
returns g c = (
  (λ e. can_become_knight c.args.self.now c.args.from c.args.to (c.can_become-4.ensures.0 e)),
  (λ h. c.can_become-4.ensures.1 (becomes_knight c.args.self.now c.args.from c.args.to
      (λ m. true_not_false c.can_become.result (c.can_become.ensures.1 m) c.if-can_become.false)
      (λ m. true_not_false c.can_become-2.result (c.can_become-2.ensures.1 m)
      c.if-can_become-2.false)
      (λ m. true_not_false c.can_become-3.result (c.can_become-3.ensures.1 m)
      c.if-can_become-3.false)
      h)),
)
