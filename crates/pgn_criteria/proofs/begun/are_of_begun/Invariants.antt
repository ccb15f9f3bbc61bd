use Rattle.std.proofs.Common.{◌↔◌, drop, map}
use Rattle.pgn_criteria.specs.Private.Counted.{AllOfBegun}
use Rattle.pgn_criteria.specs.Private.Stages.{AllClaims, IsGood, game_seen, stated}
use Rattle.pgn_criteria.proofs.begun.are_of_begun.Given as goal

abbrev pub invariant-loop-condition : goal.invariant-loop-condition
invariant-loop-condition g l =
    AllClaims IsGood
    (map (stated (game_seen (λ text. text.items))) (drop l.condition-index l.conditions))
    × (AllOfBegun (g.H.Headed.heading l.game) l.plies l.beginning
    (map (stated (game_seen (λ text. text.items))) (drop l.condition-index l.conditions))
    ↔ AllOfBegun (g.H.Headed.heading l.game) l.plies l.beginning
    (map (stated (game_seen (λ text. text.items))) l.conditions))
