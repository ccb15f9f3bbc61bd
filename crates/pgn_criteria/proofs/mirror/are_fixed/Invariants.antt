use Rattle.pgn_criteria.proofs.Common.{◌↔◌, drop, map, AreFixed, seen}
use Rattle.pgn_criteria.proofs.mirror.are_fixed.Given as goal

abbrev pub invariant-loop-condition : goal.invariant-loop-condition
invariant-loop-condition l =
    AreFixed (map (seen (λ text. text.items)) (drop l.condition-index l.conditions))
    ↔ AreFixed (map (seen (λ text. text.items)) l.conditions)
