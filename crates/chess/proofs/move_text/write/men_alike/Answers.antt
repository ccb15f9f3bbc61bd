use Rattle.chess.proofs.move_text.SanTextFacts.{pieces_alike, left_in}
use Rattle.chess.proofs.move_text.write.men_alike.Goals as goal

pub returns-in_default : goal.returns-in_default
returns-in_default g c = record {
  each = pieces_alike c.args.position.now c.args.m.now c.args.man c.remove.new.self
      c.attackers_from.result c.invariant.ensures c.requires c.in_default.not-Pawn
      (λ s on other.
      left_in c.all-among.result c.remove.new.self s c.args.m.now.from (c.all-among.ensures s)
      on (c.remove.ensures s) other) c.attackers_from.ensures;
  alike = λ s on in_set. ((c.attackers_from.ensures s).0 in_set).1.1;
}
