use Rattle.pgn_criteria.proofs.Common.{drop, map, Plans, AllOfPatterns, seen}
use Rattle.pgn_criteria.proofs.alternative.plan_all.Given as goal

abbrev pub invariant-loop-condition : goal.invariant-loop-condition
invariant-loop-condition l =
    Plans (λ p. AllOfPatterns p (map (seen (λ text. text.items)) l.conditions)) (λ p.
    AllOfPatterns p (map (seen (λ text. text.items)) (drop l.condition-index l.conditions)))
    l.fn.plan l.plan l.is_all
