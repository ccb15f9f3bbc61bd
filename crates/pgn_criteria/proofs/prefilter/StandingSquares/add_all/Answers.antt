use Rattle.pgn_criteria.proofs.Common.{◌≡◌, ◌+◌, ◌∷◌, drop, subst, AllStand}
use Rattle.pgn_criteria.proofs.MeetFacts.{alternatives_from}
use Rattle.pgn_criteria.proofs.prefilter.StandingSquares.add_all.Goals as goal

pub loop-asked-init : goal.loop-asked-init
loop-asked-init c = λ men all so. (so, all)

pub loop-asked-preserved : goal.loop-asked-preserved
loop-asked-preserved c = λ men all so.
    let before = c.loop-asked.invariant men all so in
    let items = c.args.all.now in
    let i = c.loop-asked.asked-index in
    let next : drop i items ≡ c.asked-item.result ∷ drop (i + 1) items =
    alternatives_from items i c.asked-item.result c.loop-asked-test.true c.asked-item.is in
    let left = subst (AllStand men) next before.1 in
    (c.add.ensures men left.0 before.0, left.1)

pub returns : goal.returns
returns c = λ men all so. (c.loop-asked.invariant men all so).0
