use Rattle.chess.proofs.Common.{refl, subst, Move, IsOccupiedBy, sym}
use Rattle.chess.specs.Private.MoveListWords.{Leaves}
use Rattle.chess.proofs.PlaceFacts.{true_not_false}
use Rattle.chess.proofs.LoopFacts.{fewer}
use Rattle.chess.proofs.moves.ListFacts.{lists_none, past_none, past_more, past_all, leaves_own}
use Rattle.chess.proofs.moves.ListFacts.{leaves_to}
use Rattle.chess.proofs.position.Position.push_moves_from.Goals as goal

pub returns-then-not-is_occupied_by-clause-ok : goal.returns-then-not-is_occupied_by-clause-ok
returns-then-not-is_occupied_by-clause-ok g c =
    let P = c.args.self.now in
    let s = c.args.from in
    lists_none (Leaves P s) c.args.moves.now.items c.args.moves.now.items refl
    (λ m leaves. true_not_false c.is_occupied_by.result
    (c.is_occupied_by.ensures.1
    (subst (λ side. IsOccupiedBy P.men side s) (sym c.side.ensures) (leaves_own P s m leaves)))
    c.if-not-is_occupied_by.true)

pub loop-to-init : goal.loop-to-init
loop-to-init g c =
    let P = c.args.self.now in
    let s = c.args.from in
    past_none (Leaves P s) (λ (m : Move). m.to) c.candidates-left.result c.args.moves.now.items
    (λ m leaves. c.candidates-left.ensures m.to leaves.0.pseudo_legal.to (leaves_to P s m leaves))

pub loop-to-smaller : goal.loop-to-smaller
loop-to-smaller g c =
    fewer c.loop-to.left c.take_first.new.self c.in-Some.to
    (rw c.in-Some.is at c.take_first.ensures)

pub loop-to-preserved : goal.loop-to-preserved
loop-to-preserved g c =
    past_more (Leaves c.args.self.now c.args.from) (λ (m : Move). m.to) c.loop-to.left
    c.take_first.new.self c.in-Some.to c.args.moves.now.items c.loop-to.moves.items
    c.push_moves_between.new.moves.items (rw c.in-Some.is at c.take_first.ensures)
    c.loop-to.invariant c.in_ok-push_moves_between.ensures.ok

pub returns-clause-ok : goal.returns-clause-ok
returns-clause-ok g c =
    past_all (Leaves c.args.self.now c.args.from) (λ (m : Move). m.to) c.loop-to.left
    c.take_first.new.self c.args.moves.now.items c.loop-to.moves.items
    (rw c.in_default.is at c.take_first.ensures) c.loop-to.invariant
