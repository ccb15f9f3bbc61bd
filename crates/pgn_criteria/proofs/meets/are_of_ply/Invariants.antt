use Rattle.pgn_criteria.proofs.Common.{◌↔◌, drop, map, AllTaken, IsSoOfMoves, move_seen, stated}
use Rattle.pgn_criteria.proofs.meets.are_of_ply.Given as goal

abbrev pub invariant-loop-condition : goal.invariant-loop-condition
invariant-loop-condition l =
    AllTaken (IsSoOfMoves l.replayed l.plies)
    (map (stated (move_seen (λ text. text.items))) (drop l.condition-index l.conditions))
    ↔ AllTaken (IsSoOfMoves l.replayed l.plies)
    (map (stated (move_seen (λ text. text.items))) l.conditions)
