use Rattle.pgn_criteria.proofs.Common.{drop, Placement, AllEither}
use Rattle.pgn_criteria.proofs.plan.prefilter_of_ways.Given as goal

abbrev pub invariant-loop-ways : goal.invariant-loop-ways
invariant-loop-ways l = (men : Placement) → AllEither men l.all
    → AllEither men (drop l.ways-index l.all)
