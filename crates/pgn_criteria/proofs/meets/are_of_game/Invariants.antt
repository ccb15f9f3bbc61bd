use Rattle.pgn_criteria.proofs.Common.{◌↔◌, drop, map, AllTaken, IsSoOfGame, AllClaims, IsGood}
use Rattle.pgn_criteria.proofs.Common.{game_seen, stated}
use Rattle.pgn_criteria.proofs.meets.are_of_game.Given as goal

abbrev pub invariant-loop-condition : goal.invariant-loop-condition
invariant-loop-condition g l =
    AllClaims IsGood
    (map (stated (game_seen (λ text. text.items))) (drop l.condition-index l.conditions))
    × (AllTaken (IsSoOfGame (g.H.Headed.heading l.game) l.replayed)
    (map (stated (game_seen (λ text. text.items))) (drop l.condition-index l.conditions))
    ↔ AllTaken (IsSoOfGame (g.H.Headed.heading l.game) l.replayed)
    (map (stated (game_seen (λ text. text.items))) l.conditions))
