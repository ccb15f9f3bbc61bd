use Rattle.pgn_criteria.proofs.Common.{◌≤◌, ℕ, drop, map, AllClaims, AsksWithin, game_seen, stated}
use Rattle.pgn_criteria.proofs.meets.longest_beginning.Given as goal

abbrev pub invariant-loop-condition : goal.invariant-loop-condition
invariant-loop-condition l =
    (n : ℕ) → l.most ≤ n → AllClaims (AsksWithin n)
    (map (stated (game_seen (λ text. text.items))) (drop l.condition-index l.conditions))
    → AllClaims (AsksWithin n) (map (stated (game_seen (λ text. text.items))) l.conditions)
