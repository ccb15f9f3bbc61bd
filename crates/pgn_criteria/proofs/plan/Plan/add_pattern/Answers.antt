use Rattle.pgn_criteria.proofs.Common.{refl, IfOk-weaker, FitsPattern}
use Rattle.pgn_criteria.proofs.PlanFacts.{plans_laid}
use Rattle.pgn_criteria.proofs.plan.Plan.add_pattern.Goals as goal

pub returns : goal.returns
returns c =
    let old = c.args.self.now in
    IfOk-weaker c.add_pattern.result _ _
    (λ all lays.
    plans_laid (λ p. FitsPattern p c.args.pattern.now) old
    (record { layout = c.add_pattern.new.self; ways = old.ways; denied = old.denied }) all refl
    refl lays)
    c.add_pattern.ensures
