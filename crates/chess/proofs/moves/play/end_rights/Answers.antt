use Rattle.chess.proofs.PlaceFacts.{true_not_false}
use Rattle.chess.proofs.moves.RightsFacts.{rights_stay}
use Rattle.chess.proofs.moves.play.end_rights.Goals as goal

pub returns-else-is_home-2 : goal.returns-else-is_home-2
returns-else-is_home-2 c =
    rights_stay c.args.rights.now c.args.m.now
    (λ side wing at. true_not_false _ (c.is_home.ensures side wing at) c.if-is_home.false)
    (λ side wing at.
    true_not_false _ (c.is_home-else-is_home.ensures side wing at) c.if-is_home-2.false)
