use Rattle.pgn_criteria.proofs.Common.{map, take, AreMirrored, seen}
use Rattle.pgn_criteria.proofs.mirror.all_mirrored.Given as goal

abbrev pub invariant-loop-condition : goal.invariant-loop-condition
invariant-loop-condition l =
    AreMirrored (map (seen (λ text. text.items)) l.own.items)
    (map (seen (λ text. text.items)) (take l.condition-index l.conditions))
