use Rattle.pgn_criteria.proofs.Common.{true, false, ap, subst, ◌∙◌, Place, rook_from, rook_to, Man}
use Rattle.pgn_criteria.proofs.Common.{numbered_man, IsPut}
use Rattle.pgn_criteria.proofs.prefilter_test.PrefilterTestFacts.{rook_settles}
use Rattle.pgn_criteria.proofs.prefilter_test.settle_rook.Goals as goal

pub returns-in_default : goal.returns-in_default
returns-in_default c = λ men are.
    rw (← c.in_default.ensures) are

pub returns : goal.returns
returns c = λ men are.
    let own = (numbered_man c.args.king).side in
    let side = ap (λ (m : Man). m.side) c.numbered_man-side.ensures in
    let p1 =
    subst (λ (t : Place). IsPut t false c.args.taken c.put.new.squares) (c.rook_leaves.ensures
    ∙ ap (λ s. rook_from s c.in-Some.wing) side) c.put.ensures in
    let p2 = subst (λ (t : Place). IsPut t true c.put.new.squares c.put-2.new.squares)
    (c.rook_arrives.ensures ∙ ap (λ s. rook_to s c.in-Some.wing) side) c.put-2.ensures in
    rw (← c.in-Some.ensures) (rook_settles men own c.in-Some.wing c.args.taken c.put.new.squares
    c.put-2.new.squares p1 p2 are)
