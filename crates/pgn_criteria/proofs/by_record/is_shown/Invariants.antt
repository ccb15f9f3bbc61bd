use Rattle.pgn_criteria.proofs.Common.{length, AllByRecursion, codes_in}
use Rattle.pgn_criteria.specs.Private.Arrivals.{IsSuchPly}
use Rattle.pgn_criteria.proofs.by_record.is_shown.Given as goal

abbrev pub invariant-loop-rest : goal.invariant-loop-rest
invariant-loop-rest l = AllByRecursion (λ code. IsSuchPly l.sought code → ⊥) (codes_in l.rest)
    → AllByRecursion (λ code. IsSuchPly l.sought code → ⊥) (codes_in l.plies)

abbrev pub decreases-loop-rest : goal.decreases-loop-rest
decreases-loop-rest l = length l.rest
