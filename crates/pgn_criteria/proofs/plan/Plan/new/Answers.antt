use Rattle.pgn_criteria.proofs.Common.{sym, subst, AllEither, NoneLaid}
use Rattle.pgn_criteria.proofs.plan.Plan.new.Goals as goal

pub returns-clause-nothing : goal.returns-clause-nothing
returns-clause-nothing c men = (
  c.new.ensures men,
  subst (AllEither men) (sym c.new-2.ensures.items) tt,
  subst (NoneLaid men) (sym c.new-3.ensures.items) tt,
)
