use Rattle.chess.proofs.Common.{ap, sym, subst, ◌∙◌, king_from, IsLegal, castling_on}
use Rattle.chess.proofs.Common.{Move}
use Rattle.chess.proofs.NamedFacts.{castling_only}
use Rattle.chess.proofs.PlaceFacts.{true_not_false}
use Rattle.chess.proofs.move_text.RefusalFacts.{castled_here}
use Rattle.chess.proofs.move_text.refusal.castled_from.Goals as goal

pub returns-then-not-is : goal.returns-then-not-is
returns-then-not-is g c m here castles =
    let same = castling_only c.args.position.now c.args.wing m castles in
    true_not_false c.is.result
    (c.is.ensures.1 (c.king_leaves.ensures.square ∙ ap king_from c.side-side.ensures
    ∙ sym (ap (λ (n : Move). n.from) same) ∙ here)) c.if-not-is.true

pub returns-then-not-is_legal : goal.returns-then-not-is_legal
returns-then-not-is_legal g c m here castles =
    let same = castling_only c.args.position.now c.args.wing m castles in
    let own = c.castling_move.ensures ∙ ap (λ s. castling_on s c.args.wing) c.side-side.ensures in
    true_not_false c.is_legal.result
    (c.is_legal.ensures.1 (subst (IsLegal c.args.position.now) (same ∙ sym own) castles.0))
    c.if-not-is_legal.true

pub returns : goal.returns
returns g c =
    let P = c.args.position.now in
    let tried = c.castling_move.ensures ∙ ap (λ s. castling_on s c.args.wing) c.side-side.ensures in
    let own = c.castling_move-2.ensures ∙ ap (λ s. castling_on s c.args.wing) c.side-side.ensures in
    let here = ap king_from (sym c.side-side.ensures) ∙ sym c.king_leaves.ensures.square
    ∙ c.is.ensures.0 c.if-not-is.false in
    rw own (castled_here P c.args.wing c.args.from here (subst (IsLegal P) tried
    (c.is_legal.ensures.0 c.if-not-is_legal.false)))
