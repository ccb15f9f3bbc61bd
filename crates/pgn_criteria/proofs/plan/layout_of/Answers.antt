use Rattle.pgn_criteria.proofs.Common.{subst, Lays, FitsPattern}
use Rattle.pgn_criteria.proofs.PlanFacts.{laid_whole}
use Rattle.pgn_criteria.proofs.plan.layout_of.Goals as goal

pub returns : goal.returns
returns c =
    laid_whole c.new-layout.result c.add_pattern.new.self c.args.pattern.now c.new-layout.ensures
    (subst (Lays (λ p. FitsPattern p c.args.pattern.now) (λ p.
    Unit {0}) c.new-layout.result c.add_pattern.new.self) c.if-not-branch.false
    c.in_ok-add_pattern.ensures)
