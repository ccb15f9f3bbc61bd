use Rattle.std.proofs.Common.{refl}
use Rattle.chess.proofs.position.Position.has_move.Goals as goal

pub returns-then-pawn_steps : goal.returns-then-pawn_steps
returns-then-pawn_steps g c = ((λ e. c.pawn_steps.ensures c.if-pawn_steps.true), (λ h. refl))

pub returns-then-king_escapes : goal.returns-then-king_escapes
returns-then-king_escapes g c = ((λ e. c.king_escapes.ensures c.if-king_escapes.true), (λ h. refl))
