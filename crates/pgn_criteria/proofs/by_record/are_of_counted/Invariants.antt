use Rattle.std.proofs.Common.{◌↔◌, drop, map}
use Rattle.pgn_criteria.specs.Private.Counted.{AllOfCounted}
use Rattle.pgn_criteria.specs.Private.Stages.{AllClaims, IsGood, game_seen, stated}
use Rattle.pgn_criteria.proofs.by_record.are_of_counted.Given as goal

abbrev pub invariant-loop-condition : goal.invariant-loop-condition
invariant-loop-condition g l =
    AllClaims IsGood
    (map (stated (game_seen (λ text. text.items))) (drop l.condition-index l.conditions))
    × (AllOfCounted (g.H.Headed.heading l.game) l.plies
    (map (stated (game_seen (λ text. text.items))) (drop l.condition-index l.conditions))
    ↔ AllOfCounted (g.H.Headed.heading l.game) l.plies
    (map (stated (game_seen (λ text. text.items))) l.conditions))
