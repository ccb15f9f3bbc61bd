use Rattle.pgn_criteria.proofs.Common.{refl, Laid, FitsEitherWay, Plan}
use Rattle.pgn_criteria.proofs.LayoutFacts.{lays_both, lays_like}
use Rattle.pgn_criteria.proofs.PlanFacts.{neither_way, plans_denied}
use Rattle.pgn_criteria.proofs.plan.Plan.add_no_way.Goals as goal

pub returns : goal.returns
returns c =
    let old = c.args.self.now in
    let pattern = c.args.pattern.now in
    let a = c.new.result in
    let b = c.new-2.result in
    let mid : Plan = record { layout = old.layout; ways = old.ways; denied = c.push.new.self } in
    let new : Plan = record { layout = old.layout; ways = old.ways; denied = c.push-2.new.self } in
    let fits = rw c.in-Some.is at c.in_ok-straight.ensures in
    lays_like (λ p. (Laid p a.layout → ⊥) × (Laid p b.layout → ⊥)) (λ p. FitsEitherWay p pattern
    → ⊥) old new
    (neither_way c.in-Some.straight c.in_ok-turned.turned a b pattern fits c.in_ok-turned.ensures
    c.new.ensures.layout c.new-2.ensures.layout)
    (lays_both (λ p. Laid p a.layout → ⊥) (λ p. Laid p b.layout → ⊥) old mid new
    (plans_denied (λ p. Laid p a.layout
    → ⊥) old mid a refl refl c.in_ok-push.ensures.items c.new.ensures.free
    (λ p. (λ n. n, λ n. n)))
    (plans_denied (λ p. Laid p b.layout
    → ⊥) mid new b refl refl c.in_ok-push-2.ensures.items c.new-2.ensures.free
    (λ p. (λ n. n, λ n. n))))
