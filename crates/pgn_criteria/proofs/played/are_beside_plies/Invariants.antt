use Rattle.pgn_criteria.proofs.Common.{◌↔◌, drop, map, AllClaims, move_seen, stated}
use Rattle.pgn_criteria.specs.Private.Counted.{IsBesidePlies}
use Rattle.pgn_criteria.proofs.played.are_beside_plies.Given as goal

abbrev pub invariant-loop-condition : goal.invariant-loop-condition
invariant-loop-condition l =
    AllClaims IsBesidePlies
    (map (stated (move_seen (λ text. text.items))) (drop l.condition-index l.conditions))
    ↔ AllClaims IsBesidePlies (map (stated (move_seen (λ text. text.items))) l.conditions)
