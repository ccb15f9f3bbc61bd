use Rattle.pgn_criteria.proofs.Common.{◌↔◌, drop, map, AllClaims, move_seen, stated}
use Rattle.pgn_criteria.specs.Private.Told.{IsSetup}
use Rattle.pgn_criteria.proofs.played.are_setups.Given as goal

abbrev pub invariant-loop-condition : goal.invariant-loop-condition
invariant-loop-condition l =
    AllClaims IsSetup
    (map (stated (move_seen (λ text. text.items))) (drop l.condition-index l.conditions))
    ↔ AllClaims IsSetup (map (stated (move_seen (λ text. text.items))) l.conditions)
