use Rattle.pgn_criteria.proofs.Common.{◌↔◌, drop, map, AllClaims, IsFreeOfMoves, game_seen, stated}
use Rattle.pgn_criteria.proofs.meets.are_free_of_moves.Given as goal

abbrev pub invariant-loop-condition : goal.invariant-loop-condition
invariant-loop-condition l =
    AllClaims IsFreeOfMoves
    (map (stated (game_seen (λ text. text.items))) (drop l.condition-index l.conditions))
    ↔ AllClaims IsFreeOfMoves (map (stated (game_seen (λ text. text.items))) l.conditions)
