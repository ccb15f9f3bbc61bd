use Rattle.chess.specs.Private.MoveListWords.{IsThatLegal}
use Rattle.std.proofs.Common.{rules}
use Rattle.chess.proofs.Common.{refl}
use Rattle.chess.proofs.PlaceFacts.{true_not_false}
use Rattle.chess.proofs.moves.ListFacts.{lists_none, grows_none, on_err}
use Rattle.chess.proofs.position.Position.push_if_legal.Goals as goal

pub returns-in_err-push-clause-err : goal.returns-in_err-push-clause-err
returns-in_err-push-clause-err g c =
    on_err c.from_residual.result
    (grows_none c.args.moves.now.items c.push.new.self.items (search rules))

pub returns-else-is_legal-clause-ok : goal.returns-else-is_legal-clause-ok
returns-else-is_legal-clause-ok g c =
    lists_none (IsThatLegal c.args.self.now c.args.m.now) c.args.moves.now.items
    c.args.moves.now.items refl
    (λ n that. true_not_false c.is_legal.result (c.is_legal.ensures.1 (rw (← that.0) that.1))
    c.if-is_legal.false)
