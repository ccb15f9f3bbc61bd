use Rattle.pgn_criteria.proofs.Common.{◌↔◌, drop, map, ArePatterns, seen}
use Rattle.pgn_criteria.proofs.meets.are_patterns.Given as goal

abbrev pub invariant-loop-condition : goal.invariant-loop-condition
invariant-loop-condition l =
    ArePatterns (map (seen (λ text. text.items)) (drop l.condition-index l.conditions))
    ↔ ArePatterns (map (seen (λ text. text.items)) l.conditions)
