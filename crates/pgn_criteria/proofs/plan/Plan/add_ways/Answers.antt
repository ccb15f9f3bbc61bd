use Rattle.pgn_criteria.proofs.Common.{refl, FitsEitherWay, Ways}
use Rattle.pgn_criteria.proofs.PlanFacts.{either_way, plans_ways}
use Rattle.pgn_criteria.proofs.plan.Plan.add_ways.Goals as goal

pub returns : goal.returns
returns c =
    let old = c.args.self.now in
    let pattern = c.args.pattern.now in
    let one : Ways = record { straight = c.new.result; turned = c.new-2.result } in
    let fits = rw c.in-Some.is at c.in_ok-straight.ensures in
    plans_ways (λ p. FitsEitherWay p pattern) old
    (record { layout = old.layout; ways = c.push.new.self; denied = old.denied }) one refl refl
    c.in_ok-push.ensures.items
    (c.new.ensures.free, c.new-2.ensures.free)
    (either_way c.in-Some.straight c.in_ok-turned.turned c.new.result c.new-2.result pattern fits
    c.in_ok-turned.ensures c.new.ensures.layout c.new-2.ensures.layout)
