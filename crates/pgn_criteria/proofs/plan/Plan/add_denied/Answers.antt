use Rattle.pgn_criteria.proofs.Common.{◌↔◌, refl, sym, subst, Laid, FitsPattern}
use Rattle.pgn_criteria.proofs.PlanFacts.{denied, plans_denied}
use Rattle.pgn_criteria.proofs.plan.Plan.add_denied.Goals as goal

pub returns : goal.returns
returns c =
    let old = c.args.self.now in
    let pattern = c.args.pattern.now in
    let fits = rw c.in-Some.is at c.in_ok-layout.ensures in
    plans_denied (λ p. FitsPattern p pattern
    → ⊥) old (record { layout = old.layout; ways = old.ways; denied = c.push.new.self })
    c.new.result refl refl c.in_ok-push.ensures.items
    c.new.ensures.free (λ p.
    denied (subst (λ l. Laid p l ↔ FitsPattern p pattern) (sym c.new.ensures.layout) (fits p)))
