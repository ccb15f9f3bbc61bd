use Rattle.chess.proofs.Common.{sym, subst, Option, IsUnbarred, Wing}
use Rattle.chess.proofs.PlaceFacts.{true_not_false}
use Rattle.chess.proofs.position.Position.try_move.Goals as goal

pub advance-requires-clause-legal : goal.advance-requires-clause-legal
advance-requires-clause-legal g c = record {
  pseudo_legal = c.requires.pseudo_legal;
  safe = λ check. true_not_false c.exposes_king.result (c.exposes_king.ensures.1 check)
      c.if-exposes_king.false;
  unbarred = subst (λ (o : Option Wing). IsUnbarred c.args.self.now o) (sym c.requires.plain) tt;
}
