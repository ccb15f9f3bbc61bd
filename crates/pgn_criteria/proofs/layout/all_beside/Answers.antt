use Rattle.std.proofs.Common.{◌≡◌, ◌+◌, ◌++◌, ◌∷◌, [], length, take, sym, ap, ◌∙◌, subst, arith}
use Rattle.std.proofs.Math.Seq.{take-length}
use Rattle.pgn_criteria.proofs.layout.BesideFacts.{AreTurned, turned_more}
use Rattle.pgn_criteria.proofs.MeetFacts.{alternatives_to}
use Rattle.pgn_criteria.proofs.layout.all_beside.Goals as goal

pub loop-asked-preserved : goal.loop-asked-preserved
loop-asked-preserved c =
    let all = c.args.all.now in
    let i = c.loop-asked.asked-index in
    let before = c.loop-asked.own.items in
    let one = c.beside.result in
    let asked = c.asked-item.result in
    let conditions : take (i + 1) all ≡ take i all ++ (asked ∷ []) =
    alternatives_to all i asked c.loop-asked-test.true c.asked-item.is in
    subst (λ x. AreTurned x (take (i + 1) all)) (sym c.in_ok-push.ensures.items)
    (rw conditions (turned_more before (take i all) one asked c.loop-asked.invariant
    c.beside.ensures.class c.beside.ensures.square c.beside.ensures.on_board))

pub returns : goal.returns
returns c =
    let all = c.args.all.now in
    let end : c.loop-asked.asked-index ≡ length all = omega arith in
    subst (AreTurned c.loop-asked.own.items) (ap (λ n. take n all) end
    ∙ take-length all) c.loop-asked.invariant
