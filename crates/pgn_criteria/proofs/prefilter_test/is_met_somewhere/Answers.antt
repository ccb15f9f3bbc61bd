use Rattle.std.proofs.Common.{arith, refl}
use Rattle.pgn_criteria.proofs.StandFacts.{begins, ends, goes_on, none_taken, rest_is}
use Rattle.pgn_criteria.proofs.prefilter_test.is_met_somewhere.Goals as goal

pub loop-rest-init : goal.loop-rest-init
loop-rest-init g c = λ men his.
    let taken = none_taken men c.new-taken.result c.new-taken.ensures in
    begins (g.T.PrefilterTest.stands c.args.stand.now c.args.man) c.args.man c.args.start
    c.new-taken.result men c.args.plies.now his taken
    (λ stands. let yes = c.is_met.ensures c.args.man men his taken stands in let not_so =
    c.if-is_met.false in absurd (cc))

pub returns : goal.returns
returns g c = λ men his never.
    ends (g.T.PrefilterTest.stands c.args.stand.now c.args.man) c.args.man c.loop-rest.squares
    c.loop-rest.taken men c.args.plies.now c.loop-rest.rest.now (c.loop-rest.invariant men his)
    (omega (arith, c.in_default.len_below))

pub loop-rest-preserved : goal.loop-rest-preserved
loop-rest-preserved g c = λ men his.
    let way = c.loop-rest.invariant men his in
    let next = c.follow-squares.ensures c.args.man c.number_of-number.ensures.number way.now way.his
    in
    let taken = c.settle-taken.ensures way.now way.known in
    goes_on (g.T.PrefilterTest.stands c.args.stand.now c.args.man) c.args.man c.loop-rest.squares
    c.follow-squares.result c.loop-rest.taken c.settle-taken.result men c.args.plies.now
    c.loop-rest.rest.now _ c.in-len3-up.len_at_least (rest_is c.loop-rest.rest.now _ refl) way next
    taken
    (λ stands. let yes = c.is_met-in-len3-up.ensures c.args.man _ next taken stands in let not_so =
    c.if-is_met-2.false in absurd (cc))
