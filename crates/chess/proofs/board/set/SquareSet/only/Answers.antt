use Rattle.chess.proofs.Common.{ap, sym, ◌∙◌, is_in, has_bit}
use Rattle.chess.proofs.Common.{on_board-places_of}
use Rattle.chess.proofs.LoopFacts.{only_first, not_only, none_only}
use Rattle.chess.proofs.PlaceFacts.{true_not_false}
use Rattle.chess.proofs.board.set.SquareSet.only.Goals as goal

pub returns-in_default : goal.returns-in_default
returns-in_default c =
    none_only c.args.self.now (sym c.self.view_is
    ∙ (rw c.in_default.is at c.take_first.ensures).0)

pub returns-then-has_some : goal.returns-then-has_some
returns-then-has_some c =
    let capture_square =
    rw c.in-Some.is at c.take_first.ensures in
    not_only c.args.self.now c.take_first.new.self c.in-Some.first
    (rw (← c.self.view_is) capture_square) (c.has_some.ensures.0 c.if-has_some.true)

pub returns : goal.returns
returns c =
    let capture_square =
    rw c.in-Some.is at c.take_first.ensures in
    only_first c.args.self.now c.take_first.new.self c.in-Some.first
    (λ u here.
    on_board-places_of (has_bit c.self.inside.bitboard) u (ap (λ set. is_in set u) c.self.view_is
    ∙ here))
    (rw (← c.self.view_is) capture_square)
    (λ left. true_not_false _ (c.has_some.ensures.1 left) c.if-has_some.false)
