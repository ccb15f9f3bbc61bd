use Rattle.chess.proofs.Common.{refl, ap, sym, ◌∙◌, king_from}
use Rattle.chess.specs.Private.MoveListWords.{CastlesFrom}
use Rattle.chess.proofs.PlaceFacts.{true_not_false}
use Rattle.chess.proofs.moves.ListFacts.{lists_none, lists_castlings, castles_home}
use Rattle.chess.proofs.position.Position.push_castlings.Goals as goal

pub returns-then-not-is-clause-ok : goal.returns-then-not-is-clause-ok
returns-then-not-is-clause-ok g c =
    let P = c.args.self.now in
    let s = c.args.from in
    let t = c.args.to in
    lists_none (CastlesFrom P s t) c.args.moves.now.items c.args.moves.now.items refl
    (λ m castles. true_not_false c.is.result
    (c.is.ensures.1 ((castles_home P s t m castles).1
    ∙ sym (c.king_leaves.ensures.square ∙ ap king_from c.side.ensures)))
    c.if-not-is.true)

pub returns-clause-ok : goal.returns-clause-ok
returns-clause-ok g c =
    lists_castlings c.args.self.now c.args.from c.args.to c.args.moves.now.items
    c.push_castling.new.moves.items c.push_castling-2.new.moves.items
    c.in_ok-push_castling.ensures.ok c.in_ok-push_castling-2.ensures.ok
