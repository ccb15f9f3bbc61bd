use Rattle.chess.proofs.moves.ListFacts.{lists_between}
use Rattle.chess.proofs.position.Position.push_moves_between.Goals as goal

pub returns-clause-ok : goal.returns-clause-ok
returns-clause-ok g c =
    lists_between c.args.self.now c.args.from c.args.to c.args.moves.now.items
    c.push_if_legal.new.moves.items c.push_promotions.new.moves.items
    c.push_castlings.new.moves.items c.in_ok-push_if_legal.ensures.ok
    c.in_ok-push_promotions.ensures.ok c.in_ok-push_castlings.ensures.ok
