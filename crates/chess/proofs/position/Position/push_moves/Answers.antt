use Rattle.chess.proofs.Common.{Move, IsLegal}
use Rattle.chess.proofs.LoopFacts.{fewer}
use Rattle.chess.proofs.moves.ListFacts.{past_none, past_more, past_all}
use Rattle.chess.proofs.position.Position.push_moves.Goals as goal

pub loop-from-init : goal.loop-from-init
loop-from-init g c =
    past_none (λ m. IsLegal c.args.self.now m) (λ (m : Move). m.from) c.all-left.result
    c.args.moves.now.items
    (λ m legal. (c.all-left.ensures m.from).1 (legal.pseudo_legal.from, legal.pseudo_legal.from))

pub loop-from-smaller : goal.loop-from-smaller
loop-from-smaller g c =
    fewer c.loop-from.left c.take_first.new.self c.in-Some.from
    (rw c.in-Some.is at c.take_first.ensures)

pub loop-from-preserved : goal.loop-from-preserved
loop-from-preserved g c =
    past_more (λ m. IsLegal c.args.self.now m) (λ (m : Move). m.from) c.loop-from.left
    c.take_first.new.self c.in-Some.from c.args.moves.now.items c.loop-from.moves.items
    c.push_moves_from.new.moves.items (rw c.in-Some.is at c.take_first.ensures)
    c.loop-from.invariant c.in_ok-push_moves_from.ensures.ok

pub returns-clause-ok : goal.returns-clause-ok
returns-clause-ok g c =
    past_all (λ m. IsLegal c.args.self.now m) (λ (m : Move). m.from) c.loop-from.left
    c.take_first.new.self c.args.moves.now.items c.loop-from.moves.items
    (rw c.in_default.is at c.take_first.ensures) c.loop-from.invariant
