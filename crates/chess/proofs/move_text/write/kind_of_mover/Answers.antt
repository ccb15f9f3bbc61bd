use Rattle.chess.proofs.PlaceFacts.{true_not_false}
use Rattle.chess.proofs.move_text.SanTextFacts.{mover_is_king}
use Rattle.chess.proofs.move_text.write.kind_of_mover.Goals as goal

pub returns : goal.returns
returns g c =
    mover_is_king c.args.position.now c.args.m.now c.requires.pseudo_legal
    (λ here. true_not_false c.is_mover.result (c.is_mover.ensures.1 here) c.if-is_mover.false)
    (λ here. true_not_false c.is_mover-2.result (c.is_mover-2.ensures.1 here) c.if-is_mover-2.false)
    (λ here. true_not_false c.is_mover-3.result (c.is_mover-3.ensures.1 here) c.if-is_mover-3.false)
    (λ here. true_not_false c.is_mover-4.result (c.is_mover-4.ensures.1 here) c.if-is_mover-4.false)
    (λ here. true_not_false c.is_mover-5.result (c.is_mover-5.ensures.1 here) c.if-is_mover-5.false)
