use Rattle.chess.proofs.Common.{refl, ap, sym, ◌∙◌, opposite, home_rank}
use Rattle.chess.specs.Private.MoveListWords.{PromotesOn}
use Rattle.chess.proofs.moves.ListFacts.{lists_none, lists_promotions, last_rank}
use Rattle.chess.proofs.position.Position.push_promotions.Goals as goal

pub returns-then-rank-rank_of_pieces-clause-ok : goal.returns-then-rank-rank_of_pieces-clause-ok
returns-then-rank-rank_of_pieces-clause-ok g c =
    let P = c.args.self.now in
    let s = c.args.from in
    let t = c.args.to in
    let last = c.rank_of_pieces.ensures
    ∙ ap home_rank (c.opposite.ensures ∙ ap opposite c.side.ensures) in
    lists_none (PromotesOn P s t) c.args.moves.now.items c.args.moves.now.items refl
    (λ m promotes. c.if-rank-rank_of_pieces.true
    (c.rank.ensures.number ∙ last_rank P s t m promotes ∙ sym last))

pub returns-clause-ok : goal.returns-clause-ok
returns-clause-ok g c =
    lists_promotions c.args.self.now c.args.from c.args.to c.args.moves.now.items
    c.push_promotion.new.moves.items c.push_promotion-2.new.moves.items
    c.push_promotion-3.new.moves.items c.push_promotion-4.new.moves.items
    c.in_ok-push_promotion.ensures.ok c.in_ok-push_promotion-2.ensures.ok
    c.in_ok-push_promotion-3.ensures.ok c.in_ok-push_promotion-4.ensures.ok
