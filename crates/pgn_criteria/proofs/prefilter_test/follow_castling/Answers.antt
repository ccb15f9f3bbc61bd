use Rattle.std.specs.Prelude.{Some}
use Rattle.pgn_criteria.proofs.Common.{◌%◌, false, None, ap, subst, ◌∙◌, arith, Place, square_at}
use Rattle.pgn_criteria.proofs.Common.{Placement, with_man, rook_from, rook_to, Man, numbered_man}
use Rattle.pgn_criteria.proofs.Common.{IsPut}
use Rattle.chess.specs.Shared.SetFacts.{on_board-square_at}
use Rattle.pgn_criteria.proofs.prefilter_test.PrefilterTestFacts.{goes, castles}
use Rattle.pgn_criteria.proofs.prefilter_test.follow_castling.Goals as goal

-- the men after a king that has gone from one square to another
abbrev king_gone : Placement → Place → Place → Man → Placement
king_gone men from to own = with_man (with_man men from None) to (Some own)

pub returns-in_default : goal.returns-in_default
returns-in_default c = λ man his men are.
    let own = numbered_man c.args.king in
    let from = square_at (c.args.a % 64) in
    let to = square_at (c.args.b % 64) in
    let says = rw c.numbered_man-own.ensures at (c.has_number.ensures man his) in
    let p2 = rw c.of_index.ensures.square at c.put.ensures in
    let p3 = rw c.of_index-2.ensures.square at c.put-2.ensures in
    rw (← c.in_default.ensures) (goes men man own from to c.args.squares c.put.new.squares
    c.put-2.new.squares c.has_number.result (on_board-square_at (c.args.a % 64) (omega arith))
    (on_board-square_at (c.args.b % 64) (omega arith)) says p2 p3 are)

pub returns : goal.returns
returns c = λ man his men are.
    let own = numbered_man c.args.king in
    let side = ap (λ (m : Man). m.side) c.numbered_man-own.ensures in
    let from = square_at (c.args.a % 64) in
    let to = square_at (c.args.b % 64) in
    let says = rw c.numbered_man-own.ensures at (c.has_number.ensures man his) in
    let p2 = rw c.of_index.ensures.square at c.put.ensures in
    let p3 = rw c.of_index-2.ensures.square at c.put-2.ensures in
    let p4 = subst (λ (t : Place). IsPut t false c.put-2.new.squares c.put-3.new.squares)
    (c.rook_leaves.ensures ∙ ap (λ s. rook_from s c.in-Some.wing) side) c.put-3.ensures in
    let p5 =
    subst (λ (t : Place). IsPut t c.has_number-2.result c.put-3.new.squares c.put-4.new.squares)
    (c.rook_arrives.ensures ∙ ap (λ s. rook_to s c.in-Some.wing) side) c.put-4.ensures in
    let rook = rw side at (c.has_number-2.ensures man his) in
    rw (← c.in-Some.ensures) (castles (king_gone men from to own) man own.side c.in-Some.wing
    c.put-2.new.squares c.put-3.new.squares c.put-4.new.squares c.has_number-2.result rook p4 p5
    (goes men man own from to c.args.squares c.put.new.squares c.put-2.new.squares
    c.has_number.result (on_board-square_at (c.args.a % 64) (omega arith)) (on_board-square_at
    (c.args.b % 64) (omega arith)) says p2 p3 are))
